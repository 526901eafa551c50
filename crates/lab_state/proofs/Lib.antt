pub mod Going
pub mod Dues
pub mod Flown
pub mod Deciders
mod Fresh
mod Flying
pub mod Modes
mod Events
pub mod GoingBios
pub mod HeldPlaces
pub mod Holding
pub mod Waiting
pub mod Ready
pub mod Marked
pub mod OwnBios
mod Owners
mod Told
pub mod Rulesets

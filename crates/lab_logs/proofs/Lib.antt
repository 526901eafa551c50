mod Ahead
pub mod Dues
pub mod LeastLemmas
mod Moves
mod Numbered
pub mod Rulesets

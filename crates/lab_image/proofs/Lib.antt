mod Adding
mod Begun
pub mod Giving
mod Imaging
mod Kept
mod Noted
mod RunSteps
mod Runs
mod Sectors
pub mod Standing
mod Steps

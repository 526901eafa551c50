mod Kept
mod Sequence
mod Puts
mod Slots
mod Spans
pub mod Rulesets

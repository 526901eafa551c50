pub mod MessageLemmas
pub mod Rows
pub mod SpacedLemmas
pub mod TaskForms
pub mod AlikeLemmas
pub mod WalkLemmas
pub mod Rulesets

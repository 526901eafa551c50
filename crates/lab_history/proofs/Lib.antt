pub mod PrintedLemmas
pub mod Rulesets

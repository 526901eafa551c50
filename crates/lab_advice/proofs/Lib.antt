pub mod EventLines
pub mod PlaceLemmas
pub mod Rulesets

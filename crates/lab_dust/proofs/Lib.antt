pub mod Sizes
pub mod Sets
pub mod BlockLemmas
pub mod Rulesets

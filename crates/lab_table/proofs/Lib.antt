pub mod Lines
pub mod Images
pub mod Rows
pub mod AsTable
pub mod AsRead
pub mod ReadBack
pub mod Rulesets

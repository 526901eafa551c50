pub mod Delay
pub mod DelayLaws
pub mod Groups
pub mod Line

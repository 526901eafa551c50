pub mod Dust
pub mod DustLaws
pub mod BlockSet

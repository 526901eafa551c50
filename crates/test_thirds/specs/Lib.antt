pub mod Thirds
pub mod ThirdsLaws

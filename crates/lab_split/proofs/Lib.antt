pub mod Cuts
pub mod Covering
pub mod Together
pub mod Classes
pub mod Flush

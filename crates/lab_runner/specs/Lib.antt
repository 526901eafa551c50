pub mod Counts
pub mod Shared
pub mod Finished

pub mod Running
pub mod Free
pub mod Standing
pub mod Runs
pub mod Words
pub mod Watching
pub mod Audit
pub mod Columns

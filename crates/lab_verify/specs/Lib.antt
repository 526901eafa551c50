pub mod BoundFiles
pub mod ReadFaults
pub mod Counted
pub mod NamedLogs
pub mod Steps
pub mod Verdict
pub mod Walks

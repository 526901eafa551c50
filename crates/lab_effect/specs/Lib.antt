pub mod Commands
pub mod Logs
pub mod Mapping
pub mod Replies
pub mod Served
pub mod Telling

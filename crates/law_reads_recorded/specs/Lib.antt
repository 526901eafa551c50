pub mod Recorded
pub mod ReadsRecorded

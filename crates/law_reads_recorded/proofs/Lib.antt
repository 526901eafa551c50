pub mod Kept
pub mod Told
pub mod Answered
pub mod Answers
pub mod Mapped
pub mod Serves
pub mod Runs

pub mod Alike
pub mod Image
pub mod Script
pub mod Slots
pub mod Steps
pub mod Task
pub mod Walk

pub mod Image
pub mod Linked
pub mod Refers
pub mod Seen
pub mod Sound
pub mod Stands

pub mod Workers
pub mod Owned
pub mod Keeps

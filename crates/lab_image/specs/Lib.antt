pub mod Changes
pub mod Places
pub mod Stores
pub mod Images
pub mod Rows
pub mod Given
pub mod Text
pub mod Stands

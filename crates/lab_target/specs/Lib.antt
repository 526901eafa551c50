pub mod Meaning
pub mod Reading
pub mod Laws
pub mod Types
pub mod DeviceWords

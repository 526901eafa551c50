pub mod Devices
pub mod DevicesLends
pub mod SlotLends

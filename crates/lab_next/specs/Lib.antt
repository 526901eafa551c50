pub mod Over
pub mod Places
pub mod Bios
pub mod Origins
pub mod Answering
pub mod Own

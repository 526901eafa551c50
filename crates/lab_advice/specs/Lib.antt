pub mod Places
pub mod Shown
pub mod RemedyText
pub mod Mended

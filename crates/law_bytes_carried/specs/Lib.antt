pub mod Plain
pub mod Carried

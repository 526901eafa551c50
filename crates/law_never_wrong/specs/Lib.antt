pub mod Fits
pub mod NeverWrong
pub mod NeverStuck

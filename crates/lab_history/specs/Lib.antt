pub mod History
pub mod ReadsBack

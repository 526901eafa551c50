pub mod Indexed
pub mod Moments
pub mod Queue
pub mod Ranking
pub mod Rows

pub mod Line
pub mod Log

pub mod SoFar
pub mod FlushRows
pub mod Passed
pub mod Walks

pub mod Unmarked
pub mod Wrote
pub mod Followed
pub mod WritersTell
pub mod RowsTell

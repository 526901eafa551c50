pub mod Groups
pub mod Numbers
pub mod Tree
pub mod Words
pub mod Lists
pub mod RowLending
pub mod Rows

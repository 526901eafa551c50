pub mod Numbers
pub mod PrintedWords
pub mod ReadBack
pub mod Found

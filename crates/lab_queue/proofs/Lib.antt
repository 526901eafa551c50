pub mod Flats
pub mod Indexes
pub mod OnceEach
pub mod Ranks
pub mod Runs
pub mod Searches
pub mod Walks
pub mod Rulesets

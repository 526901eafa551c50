pub mod Capped
pub mod Counted
pub mod Reach
pub mod FlushRow
pub mod Grouped

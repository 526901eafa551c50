pub mod Ranked
pub mod PotentialFalls
pub mod WithinBudget
pub mod ClockBounded
pub mod PassesAll
pub mod Exactly

pub mod ExactLines
pub mod ExactBudgets
pub mod PlainLines

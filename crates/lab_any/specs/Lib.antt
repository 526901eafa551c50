pub mod Names
pub mod Part
pub mod Any
pub mod PartLaws
pub mod AnyLaws

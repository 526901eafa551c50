pub mod Waiting
pub mod BioMoves
pub mod OrderLaw
pub mod OnceLemmas
pub mod OrderLemmas

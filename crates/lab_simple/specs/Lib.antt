pub mod Stateless
pub mod Linear
pub mod Zero
pub mod ErrorTarget
pub mod LinearLaws
pub mod ZeroLaws
pub mod ErrorTargetLaws

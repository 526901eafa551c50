pub mod Faults
pub mod FaultText
pub mod Refusals

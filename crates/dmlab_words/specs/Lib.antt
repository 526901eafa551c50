pub mod CommandLine
pub mod Findings
pub mod Flags
pub mod Making
pub mod Offered
pub mod Options

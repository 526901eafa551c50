pub mod EndedLogs
mod OwnFront
pub mod Parts
pub mod OwnSteps

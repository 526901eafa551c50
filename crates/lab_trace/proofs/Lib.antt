pub mod AnswerSteps
pub mod WrittenSteps
pub mod MarkedSteps
pub mod MadeSteps
pub mod Owners
pub mod Tracing

pub mod Agenda
pub mod Lines
pub mod Moments

pub mod WalkIsKept
pub mod Timely
pub mod CallsWalk

pub mod Headline
pub mod Bounds
pub mod Routes
pub mod CompiledIsWalked

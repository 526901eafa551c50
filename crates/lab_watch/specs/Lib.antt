pub mod Grids
pub mod Stretches
pub mod Sheets
pub mod Known
pub mod Heard
pub mod Settled
pub mod Drops

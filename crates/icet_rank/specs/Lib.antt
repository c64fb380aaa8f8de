pub mod Fits
pub mod Machine
pub mod Moves
pub mod Slots
pub mod Steps

pub mod Stretches
pub mod Filling
pub mod Positions

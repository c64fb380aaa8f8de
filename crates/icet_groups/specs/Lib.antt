pub mod Blocks
pub mod Lawful
pub mod Places
pub mod Samples
pub mod Scan
pub mod Seating
pub mod Seats
pub mod Tiles

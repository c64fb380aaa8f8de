pub mod Ranges
pub mod Tree

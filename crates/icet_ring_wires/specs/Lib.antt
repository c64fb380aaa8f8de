pub mod Rings
pub mod Script

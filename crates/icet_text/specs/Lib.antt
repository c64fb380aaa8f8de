pub mod Lines
pub mod Numbers
pub mod Numerals
pub mod Samples
pub mod Words

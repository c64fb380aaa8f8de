pub mod Factors
pub mod Radixk
pub mod Round

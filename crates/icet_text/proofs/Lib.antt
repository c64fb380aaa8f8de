pub mod Counts
pub mod Decimals
pub mod Fields
pub mod FirstBytes
pub mod FirstWords
pub mod Sizes
pub mod Splits
pub mod Values

pub mod Headings
pub mod Pictures

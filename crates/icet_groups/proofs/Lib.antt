pub mod BlockLists
pub mod Fewness
pub mod Grouped
pub mod GroupLists
pub mod Scanning
pub mod Seatings
pub mod Sharing

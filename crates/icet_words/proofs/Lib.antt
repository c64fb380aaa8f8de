pub mod Entries
pub mod Numbers
pub mod AnyText
pub mod Readings
pub mod EachOption

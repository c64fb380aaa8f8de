pub mod Memory
pub mod PenText

pub mod Drawing
pub mod LawfulDemo
pub mod Words

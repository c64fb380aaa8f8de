pub mod Completeness
pub mod JobTexts
pub mod PiecesRead
pub mod RunEndings

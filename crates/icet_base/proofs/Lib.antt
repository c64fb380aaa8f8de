pub mod GrowingBytes
pub mod PutPieces
pub mod ReadBytes

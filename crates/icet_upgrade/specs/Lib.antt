pub mod Apart
pub mod Scans
pub mod TileImages

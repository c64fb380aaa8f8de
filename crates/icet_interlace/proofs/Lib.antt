pub mod Interlaced
pub mod Places
pub mod Strands

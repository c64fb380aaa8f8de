pub mod Interlace

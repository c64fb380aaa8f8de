pub mod Each
pub mod Keeps
pub mod Laws
pub mod Pairs
pub mod Places
pub mod Samples

pub mod Bswap
pub mod Split
pub mod Laws

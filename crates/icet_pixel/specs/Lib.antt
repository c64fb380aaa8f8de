pub mod Blending
pub mod Dense

pub mod Drawing
pub mod Plans

pub mod Composites
pub mod Drawings
pub mod Nets
pub mod Replays
pub mod Texts
pub mod Weights

pub mod Boxes
pub mod Paints
pub mod Shapes
pub mod Shares
pub mod SharedEdge
pub mod Stretches
pub mod Triangles
pub mod Walks

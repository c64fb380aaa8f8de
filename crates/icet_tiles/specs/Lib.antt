pub mod Contributors
pub mod Layouts

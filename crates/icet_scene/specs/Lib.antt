pub mod Drafts
pub mod Lines
pub mod Readings
pub mod Scenes

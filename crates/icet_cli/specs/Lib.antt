pub mod FaultNotes
pub mod JobEndings
pub mod Notes
pub mod Outcome
pub mod SceneBytes
pub mod Statuses
pub mod Untouched

pub mod Displays
pub mod LayoutViews
pub mod Meeting

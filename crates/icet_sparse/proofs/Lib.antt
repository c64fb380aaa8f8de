pub mod Equality
pub mod Form
pub mod Growing
pub mod JoinedPlaces
pub mod Sharing
pub mod Walking

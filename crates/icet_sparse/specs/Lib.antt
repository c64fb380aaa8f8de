pub mod Joined
pub mod Runs
pub mod Shared
pub mod Sparse

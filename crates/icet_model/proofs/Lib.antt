pub mod Lists
pub mod Nearest
pub mod NearestLeaf
pub mod Numbers
pub mod Tries

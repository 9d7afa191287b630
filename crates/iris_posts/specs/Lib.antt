pub mod Posts
pub mod Slots
pub mod Weights

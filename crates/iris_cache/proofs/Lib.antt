pub mod Orders
pub mod Entries
pub mod ReadyNames
pub mod Completeness
pub mod Bounds

pub mod Allowed
pub mod Cited
pub mod Copies
pub mod Views

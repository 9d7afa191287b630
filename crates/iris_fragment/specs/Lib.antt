pub mod Contents
pub mod Stored
pub mod Usable
pub mod Changes
pub mod Shape

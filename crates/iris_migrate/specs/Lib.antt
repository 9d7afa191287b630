pub mod Messages
pub mod Titles

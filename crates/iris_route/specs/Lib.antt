pub mod Routes
pub mod Start
pub mod Titles

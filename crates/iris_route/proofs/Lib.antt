pub mod Beginning
pub mod Lawful
pub mod Longest
pub mod Starting
pub mod Through
pub mod TitleMaps

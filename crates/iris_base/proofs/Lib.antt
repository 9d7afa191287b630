pub mod Copies
pub mod Words
pub mod Labels
pub mod NameTexts
pub mod NameReading

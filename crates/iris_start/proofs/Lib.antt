pub mod Caches
pub mod Places
pub mod Walked
pub mod Owned
pub mod Begun
pub mod Added

pub mod Kept
pub mod Noted
pub mod Owning
pub mod Parking

pub mod DayCounts
pub mod Digits
pub mod Found
pub mod Minutes
pub mod OfferOrder
pub mod Order
pub mod QueryText
pub mod Terms

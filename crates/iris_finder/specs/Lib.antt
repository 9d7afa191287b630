pub mod Offers
pub mod Price
pub mod Question
pub mod Ranked
pub mod Tariff

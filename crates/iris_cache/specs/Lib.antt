pub mod Order
pub mod Ready
pub mod Recency
pub mod Stored

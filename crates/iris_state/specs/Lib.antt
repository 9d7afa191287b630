pub mod Agents
pub mod City
pub mod Deliveries
pub mod Events
pub mod Whole

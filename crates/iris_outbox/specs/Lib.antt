pub mod Lines
pub mod Outbox
pub mod Requests

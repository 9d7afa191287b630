pub mod NodeEntries
pub mod Names
pub mod Children
pub mod Parts
pub mod NodeChanges
pub mod Cities
pub mod AfterTaking

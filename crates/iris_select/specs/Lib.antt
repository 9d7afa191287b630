pub mod Evaluating
pub mod Looking
pub mod Marks
pub mod Parts
pub mod Places
pub mod Selected
pub mod Walking

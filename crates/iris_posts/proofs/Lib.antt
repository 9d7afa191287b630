pub mod Numbers
pub mod Marks
pub mod Forgotten
pub mod Waiting
pub mod Weighed
pub mod Kept

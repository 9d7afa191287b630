pub mod Book
pub mod Entering
pub mod Consistent
pub mod Linked
pub mod Log

pub mod Table
pub mod World
pub mod Good
pub mod Settle
pub mod Clauses
pub mod Agent
pub mod Program
pub mod ProgramSettle

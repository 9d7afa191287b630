mod Again
mod Anchors
mod Begins
pub mod Below
mod Deeper
mod DigitValues
mod Digits
mod Endings
mod EqualityRuns
mod Exact
mod High
mod Judging
mod Laws
mod Leads
pub mod Names
mod Numbers
pub mod Order
mod Pads
pub mod Passes
pub mod PlaceOrder
mod Runs
pub mod Said
pub mod SelectedPlaces
mod Stacks
mod Tallies
pub mod ThinQuery
mod Traces
pub mod UnderAnchors
pub mod Walk
pub mod Weights
mod Wholes
mod WordRuns
mod Words
mod Writing
mod Written

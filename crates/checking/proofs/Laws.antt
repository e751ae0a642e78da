-- What is proved of the definitions: nothing here has to be believed, each file is checked.
pub mod Turns
pub mod Unfolds
pub mod Along
pub mod Point
pub mod Check
pub mod Accepts
pub mod Refusals
pub mod Outcome
pub mod OneOutcome
pub mod Listing
pub mod Rooms
pub mod ProofCard
pub mod Call
pub mod Same

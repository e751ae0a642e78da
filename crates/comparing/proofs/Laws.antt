-- What is proved of the definitions: nothing here has to be believed, each file is checked.
pub mod Refusals
pub mod Unfolds
pub mod Compare
pub mod Counts
pub mod Enough
pub mod Along
pub mod OneOutcome
pub mod Equality
pub mod ReadOff
pub mod Ending
pub mod Calling

-- What is proved of the definitions: nothing here has to be believed, each file is checked.
pub mod Follow
pub mod Refusals
pub mod Fits
pub mod OneOutcome
pub mod Rooms
pub mod Call

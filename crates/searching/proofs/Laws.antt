-- What is proved of the definitions: nothing here has to be believed, each file is checked.
pub mod Told
pub mod Words
pub mod StoreMachine
pub mod Unfolds
pub mod Parts
pub mod Keeps
pub mod Search
pub mod Meaning
pub mod Cost
pub mod Along
pub mod Rooms
pub mod Looking
pub mod Letters
pub mod Pairs
pub mod Leaving

-- What is proved of the definitions: nothing here has to be believed, each file is checked.
pub mod Runs
pub mod Hex
pub mod Halves
pub mod Decimal
pub mod Growing
pub mod Reading
pub mod Lines
pub mod Writing
pub mod Edges

-- What is proved of the definitions: nothing here has to be believed, each file is checked.
pub mod Line
pub mod Table
pub mod InOrder
pub mod Meaning
pub mod Examine
pub mod Letters

-- What is proved of the definitions: nothing here has to be believed, each file is checked.
pub mod Order
pub mod Number

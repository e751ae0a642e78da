-- What is proved of the definitions: nothing here has to be believed, each file is checked.
pub mod Told
pub mod Steps
pub mod Visits
pub mod Derivative
pub mod Rooms
pub mod Both

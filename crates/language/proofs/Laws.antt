-- What is proved of the definitions: nothing here has to be believed, each file is checked.
pub mod Tests
pub mod Words
pub mod Rising
pub mod Equality
pub mod Quotient
pub mod Derivative
pub mod Atoms
pub mod Tables
pub mod Order
pub mod StandIn

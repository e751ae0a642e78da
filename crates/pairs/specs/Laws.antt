-- What is proved of the definitions: nothing here has to be believed, each file is checked.
pub mod Told
pub mod Pair
pub mod Room
pub mod Table
pub mod Tried
pub mod Opening
pub mod OpeningRoom
pub mod OpeningWork
pub mod OpeningFresh
pub mod LegalRoom

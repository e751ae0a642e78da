-- What is proved of the definitions: nothing here has to be believed, each file is checked.
pub mod Told
pub mod Fresh
pub mod Loading
pub mod LoadingRoom
pub mod Cards
pub mod Entering
pub mod FreshRoom
pub mod OwnPlaces
pub mod OwnCard

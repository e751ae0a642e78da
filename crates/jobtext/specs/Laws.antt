-- What is proved of the definitions: nothing here has to be believed, each file is checked.
pub mod Judging
pub mod Answering
pub mod OneAnswer
pub mod Edges

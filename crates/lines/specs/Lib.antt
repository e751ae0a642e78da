-- What the lines are, what the keys of a line say, and how the rooms of a call are lent.
pub mod Answered
pub mod Kept
pub mod Line
pub mod Lent

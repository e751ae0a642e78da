pub mod GoesOn
pub mod Reached
pub mod Stands

pub mod Reading
pub mod Laws

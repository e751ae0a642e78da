-- What the program promises of what it reads and writes.
pub mod Promise

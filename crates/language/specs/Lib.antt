-- Patterns and their languages, by sets alone.
-- To be believed: Word, Language, Order. Proved of them, and not to be believed: everything below proofs/Laws.
pub mod Word
pub mod Language
pub mod Order
pub mod Laws

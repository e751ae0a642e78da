-- Cards: what their bytes say.
-- To be believed: Mark, Examine (refusals 1 to 3, computed), Standing (what they mean), InOrder and Meaning
-- (the pattern that a card means), Letters.
-- Proved of them, and not to be believed: everything below proofs/Laws.
pub mod Mark
pub mod Examine
pub mod Standing
pub mod InOrder
pub mod Meaning
pub mod Letters

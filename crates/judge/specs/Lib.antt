-- The judge: the door to the calls `fits`, `compare` and `check`.
-- What the calls promise stands in matching, comparing and checking, and what their answers tell in answers.
-- Proved of them: everything below Laws.
pub mod Laws

-- Runs of items.
-- To be believed: Runs. Proved of it, and not to be believed: everything below Laws.
pub mod Runs
pub mod Laws

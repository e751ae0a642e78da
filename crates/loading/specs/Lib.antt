-- Loading: a fresh store, and a card's records made in it.
-- To be believed: Loading. Told is named by inner contracts alone. Proved of them: everything below proofs/Laws.
pub mod Loading
pub mod Told

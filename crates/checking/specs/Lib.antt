-- Checking: the call `check`, which judges a proof table.
-- To be believed: Check (the checker's fixed order over a list of pairs), Outcome (the outcome of a call: refusals, loading, mapping), Along
-- (the visits of a call), Point (what accepted and rejected mean), Promise (what the call promises). Listed and Told are named by inner contracts
-- alone; OneProof says of a definition there that it can be a fact of a type.
-- Proved of them: everything below proofs/Laws.
pub mod Check
pub mod Outcome
pub mod Along
pub mod Point
pub mod Promise
pub mod Listed
pub mod OneProof
pub mod Told

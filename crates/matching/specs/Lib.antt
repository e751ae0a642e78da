-- Matching: the call `fits`.
-- To be believed: Refusals (numbers 4 and 5, and the order), Fits (the outcome), Promise (what the call promises), Along (its visits).
-- Told is named by inner contracts alone.
-- Proved of them: everything below proofs/Laws.
pub mod Refusals
pub mod Fits
pub mod Promise
pub mod Along
pub mod Told

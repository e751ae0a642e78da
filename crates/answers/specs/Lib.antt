-- The answers of the three calls.
-- To be believed: Matching, Comparing and Checking: what an answer says, and the paper's number and values for each case. Document 01: "Where an answer is
-- an enum, a definition gives this paper's number and values for each of the enum's cases. The promises use that definition."
-- Proved of them: everything below proofs/Laws.
pub mod Matching
pub mod Comparing
pub mod Checking
pub mod Laws

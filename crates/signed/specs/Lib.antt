-- The signed cases, each with its whole answer and all of its counts, and the edges of the three calls: all of them computed.
-- To be believed: Samples (patterns as the documents write them, and their cards), Signed (the list). Proved of them: everything below proofs/Laws.
pub mod Samples
pub mod Signed

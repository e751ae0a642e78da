-- Comparing: the call `compare`, over the fixed search.
-- To be believed: Compare (the outcome of a comparison), Promise (what the call promises), Along (the visits of a comparison), Related (which
-- patterns count as equal). Told is named by inner contracts alone. Proved of them: everything below proofs/Laws.
pub mod Compare
pub mod Promise
pub mod Along
pub mod Related
pub mod Told

-- The fixed search, and its table.
-- To be believed: ReadOff (the word that leads to a pair), Search (the fixed search), Along (its visits), FirstWord (the first word in exactly one
-- of two languages). Cost (what a list of pairs costs) is named by laws, Table and Told by inner contracts alone; OneProof says of a
-- table that it can be a fact of a type. Proved of them: everything below proofs/Laws.
pub mod ReadOff
pub mod Search
pub mod Along
pub mod FirstWord
pub mod Cost
pub mod Laws
pub mod Table
pub mod OneProof
pub mod Told

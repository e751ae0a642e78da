-- The store: places and records in the lent work room.
-- To be believed: Room (what stands in a room), Making (the making rules).
-- Not to be believed: Told, Work and Good, which inner contracts alone name, OneProof, which says of a good store that it can be a fact of a type, and
-- everything below proofs/Laws.
pub mod Room
pub mod Making
pub mod Told
pub mod Work
pub mod Good
pub mod OneProof
pub mod Laws

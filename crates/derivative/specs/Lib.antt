-- The derivative over a store's places.
-- To be believed: Derivative (the fixed order, with budget and number 8), Visits.
-- Both, Parts and Told are named by inner contracts alone. Proved of them: everything below proofs/Laws.
pub mod Derivative
pub mod Visits
pub mod Both
pub mod Parts
pub mod Told

-- The search and the checker over any machine. Nothing here has to be believed: the comparer's search and the checker's pass are defined where
-- they are promised, and laws show that each is the one given here, over the store.
pub mod Laws

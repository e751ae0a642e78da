-- Definitions that the laws speak of, and that nobody has to believe: what is proved of them stands in proofs/Laws.
pub mod Wall

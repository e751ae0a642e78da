-- What comparing and checking share.
-- To be believed: Pair (the pair record and the table), Room (a pair room, number 6), Tried (the letters), Opening (loading two cards).
-- Told is named by inner contracts alone. Proved of them: everything below Laws.
pub mod Pair
pub mod Room
pub mod Tried
pub mod Opening
pub mod Told
pub mod Laws

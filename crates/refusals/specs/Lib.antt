-- Refusals.
-- To be believed: Numbers (the paper's numbers by name), Limits (what is too much or too little), Order (the first refusal is told). Number (the
-- number of each refusal) and Told (what the code answers of a standing) are named by inner contracts alone: what is promised speaks of numbers.
-- Proved of them, and not to be believed: everything below Laws.
pub mod Numbers
pub mod Number
pub mod Limits
pub mod Order
pub mod Told
pub mod Laws

-- The job text: the answer's text, and the call `answer`.
-- To be believed: Answer (the text of an answer), Promise (what the call promises). Told is named by inner contracts alone. Proved of them: everything below
-- Laws.
pub mod Answer
pub mod Promise
pub mod Told
pub mod Laws

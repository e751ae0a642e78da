-- The form of a job's text, and reading it.
-- To be believed: Form. Told is named by inner contracts alone. Proved of them: everything below Laws.
pub mod Form
pub mod Told
pub mod Laws

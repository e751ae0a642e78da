-- Text as bytes: pieces, lower-case hex, decimals, and lines with names.
-- To be believed: Ascii and Digits (texts, bytes and numbers as bytes). Told is named by the contracts of readers and writers. Proved of them: everything
-- below Laws.
pub mod Ascii
pub mod Digits
pub mod Told
pub mod Laws

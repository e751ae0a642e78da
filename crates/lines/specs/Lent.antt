-- What a room holds as it is lent, and how much of it a number of places or pairs takes.
use Rattle.std.specs.Prelude.{ℕ, ◌*◌, ◌<◌, ◌≤◌, ◌≡◌, List, length, get_or, slice_index, min}

-- The byte at a place: of what an earlier call left, as far as that goes, and else the one that fills the room.
abbrev pub lent_byte : ℕ → List ℕ → ℕ → ℕ
lent_byte fill was place = get_or was place fill

-- The room is as it was lent from a place on.
abbrev pub IsAsLent : List ℕ → ℕ → ℕ → List ℕ → Type 0
IsAsLent room from fill was = (place : ℕ) → from ≤ place → place < length room → slice_index room place ≡ lent_byte fill was place

-- The bytes that a number of places or pairs takes, 8 each, or all that the room has.
abbrev pub taken_of : List ℕ → ℕ → ℕ
taken_of room count = min (8 * count) (length room)

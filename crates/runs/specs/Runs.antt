-- Runs: items of so many bytes each, one behind the other at the start of a room. A kind of item is a size, how an item is read from the bytes
-- that start a list, and the bytes that an item is laid down as. Records and pairs are such items; whatever stands in a room is a run of them.
use Rattle.std.specs.Prelude.{ℕ, zero, suc, ◌*◌, ◌/◌, ◌≤◌, List, [], ◌∷◌, ◌++◌, ◌≡◌, length, take, drop}
use Rattle.language.specs.Word.{Bytes}

module _ {A : Type 0} (size : ℕ) (item_of : List ℕ → A) where
  -- The item numbered `at` of a run.
  abbrev pub item_at : List ℕ → ℕ → A
  item_at s at = item_of (drop (size * at) s)

  -- The first n items of a run.
  unfoldable pub first_items : ℕ → List ℕ → List A
  first_items zero s = []
  first_items (suc n) s = item_of s ∷ first_items n (drop size s)

-- The run of bytes that the items are.
unfoldable pub run_of_items : {A : Type 0} → (A → List ℕ) → List A → List ℕ
run_of_items bytes_of [] = []
run_of_items bytes_of (a ∷ items) = bytes_of a ++ run_of_items bytes_of items

-- The items that a room has space for.
abbrev pub space_in : ℕ → List ℕ → ℕ
space_in size room = length room / size

-- The room with these items in it: their run, and every other byte as lent.
abbrev pub laid_items : {A : Type 0} → ℕ → (List A → List ℕ) → List A → List ℕ → List ℕ
laid_items size run items room = run items ++ drop (size * length items) room

-- n items stand in a room of bytes: the room's first bytes are the run of the items read there, also where reading passes a byte over.
pub record ItemsStand {A : Type 0} (size : ℕ) (first : ℕ → List ℕ → List A) (run_of : List A → List ℕ) (room : List ℕ) (n : ℕ) : Type 0 where
  pub bytes : Bytes room
  pub fits : size * n ≤ length room
  pub run : take (size * n) room ≡ run_of (first n room)

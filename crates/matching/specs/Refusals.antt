-- The refusals of matching that need no work (number 5's test is the store's `wrong_room`). Document 01, "When the judge says no":
--   4  word too long
--   5  work room under 16 bytes, over 32,768, or not a multiple of 8
-- "Order: .. left card, .. (each 1 first, then record by record, 2 before 3), then 4, 5".
use Rattle.std.specs.Prelude.{ℕ, List, [], ◌∷◌, ltb, length}
use Rattle.refusals.specs.Order.{Standing}
use Rattle.refusals.specs.Numbers.{long_word, work_room_size}
use Rattle.refusals.specs.Limits.{most_word}
use Rattle.refusals.specs.Order.{first_refusal, refused_if}
use Rattle.cards.specs.Examine.{pattern_card}
use Rattle.store.specs.Room.{wrong_room}

-- The order of document 01: of a card, a word of so many bytes and a work room of so many.
abbrev pub match_order : List ℕ → ℕ → ℕ → List Standing
match_order card word room = pattern_card card ∷ refused_if (ltb most_word word) long_word ∷ refused_if (wrong_room room) work_room_size ∷ []

-- The first refusal of matching.
unfoldable pub standing_of : List ℕ → ℕ → ℕ → Standing
unfolding pattern_card
standing_of card word room = first_refusal (match_order card word room)

abbrev pub match_standing : List ℕ → List ℕ → ℕ → Standing
match_standing card word size = standing_of card (length word) size

-- What a comparison's verdict means. "Same": the languages are equal. "Different": the word is in exactly one language, on the side told, no
-- longer than the pairs placed, and every word of bytes before it is in both or in neither. Number 10: such a word is longer than the word room.
use Rattle.std.specs.Prelude.{ℕ, ◌-◌, ◌/◌, Bool, true, false, List, ◌≡◌, ltb, length}
use Rattle.std.proofs.Math.Path.{refl}
use Rattle.std.proofs.Common.{ltb-true, ltb-false}
use Rattle.language.specs.Word.{Bytes}
use Rattle.language.specs.Language.{Language, language}
use Rattle.language.proofs.Laws.Words.{over_wider}
use Rattle.language.proofs.Laws.StandIn.{equal_of_tried}
use Rattle.records.specs.declared.record.Record.{Record}
use Rattle.refusals.specs.Order.{Standing}
use Rattle.refusals.specs.Order.{Good, Refused}
use Rattle.cards.specs.Examine.{pattern_card}
use Rattle.cards.specs.Meaning.{card_pattern}
use Rattle.store.specs.Room.{wrong_room}
use Rattle.pairs.specs.Tried.{tried}
use Rattle.pairs.specs.Opening.{Opening}
use Rattle.pairs.specs.Laws.Tried.{tried_rise, tried_bytes, tried_represent}
use Rattle.pairs.specs.Laws.Opening.{OpenLaw, both_opened, was_filled, open_law}
use Rattle.searching.specs.Search.{Search}
use Rattle.comparing.specs.Compare.{compare_standing, Outcome, of_word, of_search, search_opened, compare_by, compare_outcome}
use Rattle.comparing.specs.Promise.{TrueVerdict, same_true, different_true, short_true, refused_true}
use Rattle.searching.specs.FirstWord.{FirstWord}
use Rattle.comparing.proofs.Laws.Refusals.{unrefused}
use Rattle.searching.proofs.Laws.Search.{Ends, ends_same, ends_different, ends_stopped, search_law}
use Rattle.searching.proofs.Laws.Meaning.{first_of_all}

module _ (left right : List ℕ) (lefts : Bytes left) (rights : Bytes right) (work pairs word budget : ℕ) where
  abbrev A : Language
  A = language (card_pattern left)

  abbrev B : Language
  B = language (card_pattern right)

  True : Outcome → Type 0
  True o = TrueVerdict A B o.tells.pairs word o.written o.tells.says

  of_ended : {x y : ℕ} {store : List Record} {s : Search} → Ends (work / 8) (pairs / 8) (tried left right) A B x y store s → True (of_search word budget s)
  unfolding True
  of_ended (ends_same kept over inside good fits) = same_true (equal_of_tried (tried left right) A B (tried_represent left right lefts rights) over)
  of_ended (ends_different {word = w} {left_has} {store = s} {table} {budget = b} o one before short) = go (ltb word (length w)) refl
    where
      found : FirstWord A B w left_has (length table)
      found = record { bytes = over_wider (tried_bytes left right) o; only = one; first = first_of_all (tried left right) A B w before (tried_represent left right lefts rights); not_longer = short }

      go : (short : Bool) → ltb word (length w) ≡ short → True (of_word w left_has s table (budget - b) short)
      go true e = short_true w left_has found (ltb-true word (length w) e)
      go false e = different_true found (ltb-false word (length w) e)
  of_ended ends_stopped = refused_true

  -- Both cards are in good standing and the work room is legal.
  module _ (left_good : pattern_card left ≡ Good) (right_good : pattern_card right ≡ Good) (room_legal : wrong_room work ≡ false) where
    opened_law : {o : Opening} → OpenLaw left right (work / 8) o
        → True (search_opened (work / 8) (pairs / 8) word (tried left right) budget o)
    unfolding True
    opened_law (both_opened {x} {y} o) =
        of_ended
        (search_law (work / 8) (pairs / 8) (tried left right) (tried_bytes left right) A B (tried_rise left right) o.kept.ready x y
        o.left_inside
        o.right_inside
        o.left_means
        o.right_means
        budget)
    opened_law (was_filled f) = refused_true

    good_law : True (compare_by Good left right work pairs word budget)
    good_law = opened_law (open_law left right lefts rights work left_good right_good room_legal)

  -- Every verdict is true.
  pub compare_true :
      TrueVerdict (language (card_pattern left)) (language (card_pattern right)) (compare_outcome left right work pairs word budget).tells.pairs word
      (compare_outcome left right work pairs word budget).written
      (compare_outcome left right work pairs word budget).tells.says
  unfolding compare_outcome True
  compare_true = go (compare_standing left right work pairs) refl
    where
      go : (s : Standing) → compare_standing left right work pairs ≡ s → True (compare_by s left right work pairs word budget)
      go (Refused number) e = refused_true
      go Good e = let u = unrefused left right work pairs e in good_law u.left_good u.right_good u.room_legal

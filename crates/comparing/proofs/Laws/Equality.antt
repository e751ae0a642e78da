-- "Same" is an equality. Related patterns have equal languages, because "same" gives equal languages and equality is kept by swapping,
-- chaining and building; "different" and number 10 come with a word in exactly one of the languages; so neither is ever said of cards whose
-- patterns are related.
use Rattle.std.specs.Prelude.{ℕ, Bool, List, ◌≡◌}
use Rattle.std.proofs.Common.{arith, sym, subst}
use Rattle.language.specs.Word.{Word, Bytes}
use Rattle.language.specs.Language.{Language, Pattern, language, Equal}
use Rattle.language.proofs.Laws.Equality.{equal_refl, equal_sym, equal_trans, union_equal, concatenation_equal, star_equal}
use Rattle.cards.specs.Meaning.{card_pattern}
use Rattle.answers.specs.Comparing.{Verdict, are_same, are_different, word_room_short}
use Rattle.comparing.specs.Compare.{compare_outcome}
use Rattle.comparing.specs.Promise.{TrueVerdict, same_true, different_true, short_true, refused_true}
use Rattle.searching.specs.FirstWord.{OnlyOne, only_left, only_right}
use Rattle.comparing.specs.Related.{Related, itself, judged, swap, chain, choices, sequences, repeats}
use Rattle.comparing.proofs.Laws.Compare.{compare_true}

-- "Same" gives equal languages.
of_same : {A B : Language} {pairs room : ℕ} {written : Word} {v : Verdict} → TrueVerdict A B pairs room written v → v ≡ are_same → Equal A B
of_same (same_true e) s = e
of_same (different_true f n) s = let z : ◌≡◌ {A = ℕ} 0 1 = cc in absurd (omega arith)
of_same (short_true w l f n) s = let z : ◌≡◌ {A = ℕ} 0 1 = cc in absurd (omega arith)
of_same refused_true s = let z : ◌≡◌ {A = ℕ} 0 1 = cc in absurd (omega arith)

-- Related patterns have equal languages.
pub related_equal : {p q : Pattern} → Related p q → Equal (language p) (language q)
related_equal (itself p) = equal_refl (language p)
related_equal (judged left right lefts rights work pairs word budget e) = of_same (compare_true left right lefts rights work pairs word budget) e
related_equal (swap r) = equal_sym (related_equal r)
related_equal (chain r s) = equal_trans (related_equal r) (related_equal s)
related_equal (choices r s) = union_equal (related_equal r) (related_equal s)
related_equal (sequences r s) = concatenation_equal (related_equal r) (related_equal s)
related_equal (repeats r) = star_equal (related_equal r)

-- The verdicts that say that the languages differ.
data Differs : Verdict → Type 0 where
  by_word : (length : ℕ) (left_has : Bool) → Differs (are_different length left_has)
  by_length : (number wanted : ℕ) → Differs (word_room_short number wanted)

-- Of equal languages no word of bytes is in exactly one.
none_in_one : {A B : Language} → Equal A B → {word : Word} → Bytes word → {left_has : Bool} → OnlyOne A B word left_has → ⊥
none_in_one e {word} b (only_left in_left not_right) = not_right (e.to word b in_left)
none_in_one e {word} b (only_right not_left in_right) = not_left (e.from word b in_right)

-- Of equal languages no true verdict says that they differ.
never : {A B : Language} → Equal A B → {pairs room : ℕ} {written : Word} {v : Verdict} → TrueVerdict A B pairs room written v → Differs v → ⊥
never e (different_true f n) d = none_in_one e f.bytes f.only
never e (short_true w left_has f n) d = none_in_one e f.bytes f.only
never e (same_true _) d = elim d [ ]
never e (refused_true) d = elim d [ ]

module _ (left right : List ℕ) (lefts : Bytes left) (rights : Bytes right) (related : Related (card_pattern left) (card_pattern right))
    (work pairs word budget : ℕ) where
  -- No comparison of cards with related patterns says "different", in any rooms and budget ..
  pub never_different : (n : ℕ) (side : Bool) → (compare_outcome left right work pairs word budget).tells.says ≡ are_different n side → ⊥
  never_different n side e =
      never (related_equal related) (compare_true left right lefts rights work pairs word budget) (subst Differs (sym e) (by_word n side))

  -- .. nor number 10, which says that the languages differ too.
  pub never_short : (number n : ℕ) → (compare_outcome left right work pairs word budget).tells.says ≡ word_room_short number n → ⊥
  never_short number n e =
      never (related_equal related) (compare_true left right lefts rights work pairs word budget) (subst Differs (sym e) (by_length number n))

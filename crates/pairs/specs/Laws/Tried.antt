-- The letters tried: they rise, are bytes, and have every atom of both cards' patterns; so every word of bytes is represented by one of them.
-- Written one by one, each where the test holds of it, they are all written once every letter was looked at.
use Rattle.std.specs.Prelude.{ℕ, zero, suc, ◌+◌, ◌<◌, ◌≤◌, Bool, true, false, cond, List, [], ◌∷◌, ◌++◌, ◌≡◌, refl, length, take, set}
use Rattle.std.proofs.Common.{add-one, arith, append-nil, ◌∙◌, ap, length-set, length-append, take-suc-set}
use Rattle.std.proofs.Math.Bool.{or-true}
use Rattle.language.specs.Word.{Word, Bytes, IsByte, Listed}
use Rattle.language.specs.Language.{language}
use Rattle.language.proofs.Laws.Atoms.{atoms}
use Rattle.language.proofs.Laws.Rising.{Rising, none_rise, rising_more}
use Rattle.language.proofs.Laws.StandIn.{Represented, represented}
use Rattle.records.specs.Record.{records}
use Rattle.cards.specs.Meaning.{card_pattern}
use Rattle.cards.specs.Letters.{mentions, those_below}
use Rattle.cards.proofs.Laws.Letters.{those_below_sound, those_below_complete, atoms_mentioned, mentioned_byte}
use Rattle.pairs.specs.Tried.{mentioned, tried}
use Rattle.refusals.specs.Limits.{most_letters}

-- One number more adds itself where the test holds of it, and else nothing; so there are no more than the numbers looked at.

pub one_more_below : (n : ℕ) (test : ℕ → Bool) → test n ≡ true → those_below (suc n) test ≡ those_below n test ++ n ∷ []
unfolding those_below
one_more_below n test e = rw e

pub no_more_below : (n : ℕ) (test : ℕ → Bool) → test n ≡ false → those_below (suc n) test ≡ those_below n test
unfolding those_below
no_more_below n test e = rw (e, append-nil (those_below n test))

pub few_below : (n : ℕ) (test : ℕ → Bool) → length (those_below n test) ≤ n
unfolding those_below
few_below zero test = omega arith
few_below (suc n) test = go (test n) refl (few_below n test)
  where
    go : (b : Bool) → test n ≡ b → length (those_below n test) ≤ n → length (those_below (suc n) test) ≤ suc n
    go true e h = rw (one_more_below n test e) (omega (arith, length-append (those_below n test) (n ∷ [])))
    go false e h = rw (no_more_below n test e) (omega arith)

-- The letters below `at` for which the test holds stand at the start of a room that is as long as it was.
pub record Written (test : ℕ → Bool) (letters₀ letters : List ℕ) (count at : ℕ) : Type 0 where
  pub passed : at ≤ most_letters
  pub counted : count ≡ length (those_below at test)
  pub stand : take count letters ≡ those_below at test
  pub as_long : length letters ≡ length letters₀

-- At first none is written.
pub none_written : (test : ℕ → Bool) (letters : List ℕ) → Written test letters letters 0 0
unfolding those_below
none_written test letters = record { passed = omega arith; counted = refl; stand = refl; as_long = refl }

module _ {test : ℕ → Bool} {letters₀ letters : List ℕ} {count at : ℕ} (w : Written test letters₀ letters count at)
    (l : at < most_letters) (room : most_letters ≤ length letters₀) where
  -- There is room for one more letter.
  pub room_for_one : count < length letters
  room_for_one = let c = w.counted in let n = w.as_long in omega (arith, few_below at test)

  -- A letter for which the test holds is written, any other is passed.

  pub one_written : test at ≡ true → Written test letters₀ (set letters count at) (count + 1) (at + 1)
  one_written e =
      let c = w.counted in
      let more = one_more_below at test e in
      record {
        passed = omega arith;
        counted = rw (add-one at, more, length-append (those_below at test) (at ∷ [])) (omega arith);
        stand = rw (add-one count, add-one at, take-suc-set letters count at room_for_one, w.stand, more);
        as_long = length-set letters count at ∙ w.as_long;
      }

  pub one_passed : test at ≡ false → Written test letters₀ letters count (at + 1)
  one_passed e =
      let less = no_more_below at test e in
      record {
        passed = omega arith;
        counted = rw (add-one at, less) w.counted;
        stand = rw (add-one at, less) w.stand;
        as_long = w.as_long;
      }

-- Past the last letter the letters tried are written.
pub all_written : (left right : List ℕ) {letters₀ letters : List ℕ} {count at : ℕ} → Written (mentioned left right) letters₀ letters count at → most_letters ≤ at
    → (count ≡ length (tried left right)) × (take count letters ≡ tried left right)
unfolding tried
all_written left right {at = at} w l =
    let p = w.passed in
    let last : at ≡ most_letters = omega arith in
    let e = ap (λ (n : ℕ). those_below n (mentioned left right)) last in
    (w.counted ∙ ap length e, w.stand ∙ e)

-- The letters tried rise.

rising_below_more : (n : ℕ) (test : ℕ → Bool) → Rising (those_below n test) → (b : Bool) → Rising (those_below n test ++ cond b (n ∷ []) [])
rising_below_more n test r true = rising_more n r (λ d m. (those_below_sound n test d m).0)
rising_below_more n test r false = rw (append-nil (those_below n test)) r

those_rise : (n : ℕ) (test : ℕ → Bool) → Rising (those_below n test)
unfolding those_below
those_rise zero test = none_rise
those_rise (suc n) test = rising_below_more n test (those_rise n test) (test n)

pub tried_rise : (left right : List ℕ) → Rising (tried left right)
unfolding tried
tried_rise left right = those_rise most_letters (mentioned left right)

pub tried_bytes : (left right : List ℕ) (c : ℕ) → Listed (tried left right) c → IsByte c
unfolding tried
tried_bytes left right c m = (those_below_sound most_letters (mentioned left right) c m).0

tried_left : (left right : List ℕ) → Bytes left → (c : ℕ) → Listed (atoms (card_pattern left)) c → Listed (tried left right) c
unfolding tried card_pattern
tried_left left right b c m =
    let e = atoms_mentioned (records left) _ c m in
    those_below_complete most_letters (mentioned left right) c (mentioned_byte left b c e) (rw e)

tried_right : (left right : List ℕ) → Bytes right → (c : ℕ) → Listed (atoms (card_pattern right)) c → Listed (tried left right) c
unfolding tried card_pattern
tried_right left right b c m =
    let e = atoms_mentioned (records right) _ c m in
    those_below_complete most_letters (mentioned left right) c (mentioned_byte right b c e) (rw e (or-true (mentions (records left) c)))

-- There are no more of them than bytes.
pub tried_few : (left right : List ℕ) → length (tried left right) ≤ most_letters
unfolding tried
tried_few left right = few_below most_letters (mentioned left right)

-- Every word of bytes is in neither language, or is spoken for by a word of tried letters.
pub tried_represent : (left right : List ℕ) → Bytes left → Bytes right
    → (w : Word) → Bytes w → Represented (tried left right) (language (card_pattern left)) (language (card_pattern right)) w
tried_represent left right a b = represented (tried left right) (card_pattern left) (card_pattern right) (tried_left left right a) (tried_right left right b)

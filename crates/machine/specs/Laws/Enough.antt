-- Just enough, for pairs and for the word: "same" or "different", with a table of k pairs and a word of m bytes, is told again, with the same table and the
-- same word, in any pair room of at least k pairs and any word room of at least m bytes, wherever its steps are done again; and no search tells more
-- than its rooms have space for, and is refused only at the moment that the number names.
use Rattle.std.specs.Prelude.{ℕ, ◌≤◌, Bool, true, false, List, [], ◌≡◌, ltb, length}
use Rattle.std.proofs.Common.{arith, subst}
use Rattle.std.proofs.lemmas.Bool.{false≢true}
use Rattle.answers.specs.Comparing.{Verdict, are_same, are_different, refused_by, word_room_short}
use Rattle.language.specs.Word.{IsByte, Listed}
use Rattle.machine.specs.Laws.Machine.{Machine, Sense, Lawful}
use Rattle.machine.specs.Laws.Search.{Search, same, different, stopped, search}
use Rattle.machine.specs.Laws.Redoing.{Redoing}
use Rattle.machine.specs.Laws.Keeps.{Halts, KeptBoth, KeepsSearch, keeps_same, keeps_different, keeps_stopped, search_keeps}
use Rattle.machine.specs.Laws.Again.{AlsoSearch, also_same, also_different, WithinSearch, within_same, within_different, search_again}
use Rattle.machine.specs.Laws.Outcome.{Outcome, of_word, of_search, of_found}

-- Whether a verdict is final: a refusal is not, and neither is a word room that is short.
abbrev pub final_says : Verdict → Bool
final_says are_same = true
final_says (are_different length left_has) = true
final_says (refused_by number) = false
final_says (word_room_short number wanted) = false

-- The second tells what the first tells, and has what stands beside it.
pub data AlsoOutcome {Has Row : Type 0} (Beside : Has → Has → Type 0) : Outcome Has Row → Outcome Has Row → Type 0 where
  also_told : {says : Verdict} {k k' : Has} {table : List Row} {written : List ℕ} → Beside k k'
      → AlsoOutcome Beside (record { says = says; has = k; table = table; written = written }) (record { says = says; has = k'; table = table; written = written })

-- A final answer, with a word room that has space for what was written.
told_again : {Has Row : Type 0} {Beside : Has → Has → Type 0} (word word' : ℕ) {s s' : Search Has Row} → AlsoSearch Beside s s'
    → final_says (of_search word s).says ≡ true → length (of_search word s).written ≤ word' → AlsoOutcome Beside (of_search word s) (of_search word' s')
told_again word word' (also_same b) final fits = also_told b
told_again {Has} {Row} {Beside} word word' (also_different {word = w} {left_has} {k} {k'} {table} b) final fits = go (ltb word (length w)) final fits
  where
    go : (short : Bool) → final_says (of_word w left_has k table short).says ≡ true → length (of_word w left_has k table short).written ≤ word'
        → AlsoOutcome Beside (of_word w left_has k table short) (of_search word' (different w left_has k' table))
    go true final fits = absurd (false≢true final)
    go false final fits = rw (of_found word' w left_has k' table fits) (also_told b)

module _ {State Has Row : Type 0} {M : Machine State Has Row} {S : Sense State Has} (laws : Lawful M S) where
  -- A final answer is within a pair room that has space for its table.
  within_told : (word pairs' : ℕ) (s : Search Has Row) → final_says (of_search word s).says ≡ true → length (of_search word s).table ≤ pairs'
      → WithinSearch S (of_search word s).has pairs' s
  within_told word pairs' (same k table) final l = within_same (record { grows = laws.grows_refl k; fits = l })
  within_told word pairs' (different w left_has k table) final l = go (ltb word (length w)) l
    where
      go : (short : Bool) → length (of_word w left_has k table short).table ≤ pairs'
          → WithinSearch S (of_word w left_has k table short).has pairs' (different w left_has k table)
      go true l = within_different (record { grows = laws.grows_refl k; fits = l })
      go false l = within_different (record { grows = laws.grows_refl k; fits = l })
  within_told word pairs' (stopped number k table) final l = absurd (false≢true final)

  module _ (letters : List ℕ) (bytes : (c : ℕ) → Listed letters c → IsByte c) (pairs word : ℕ) {h : Has} (ready : S.Ready h)
      (x y : State) (x-stands : S.Stands h x) (y-stands : S.Stands h y) where
    -- A final answer is told again.
    pub just_enough : {Beside : Has → Has → Type 0} → Redoing M S (of_search word (search M pairs letters x y h)).has Beside → {h' : Has} → Beside h h' → (pairs' word' : ℕ)
        → final_says (of_search word (search M pairs letters x y h)).says ≡ true
        → length (of_search word (search M pairs letters x y h)).table ≤ pairs' → length (of_search word (search M pairs letters x y h)).written ≤ word'
        → AlsoOutcome Beside (of_search word (search M pairs letters x y h)) (of_search word' (search M pairs' letters x y h'))
    just_enough redoing beside pairs' word' final table_fits word_fits =
        told_again word word'
        (search_again laws letters bytes redoing pairs pairs' ready beside x y x-stands y-stands (within_told word pairs' (search M pairs letters x y h) final table_fits))
        final
        word_fits

    -- What is told is kept: the machine has only grown, and the table fits the pair room.
    pub told_kept : KeptBoth M S pairs h [] (of_search word (search M pairs letters x y h)).has (of_search word (search M pairs letters x y h)).table
    told_kept = go (search_keeps laws letters bytes x y ready x-stands y-stands)
      where
        go : {s : Search Has Row} → KeepsSearch M S pairs h [] s → KeptBoth M S pairs h [] (of_search word s).has (of_search word s).table
        go (keeps_same kept) = kept
        go (keeps_different {word = w} {left_has} {k} {table' = t} kept) = by (ltb word (length w))
          where
            by : (short : Bool) → KeptBoth M S pairs h [] (of_word w left_has k t short).has (of_word w left_has k t short).table
            by true = kept
            by false = kept
        go (keeps_stopped kept why) = kept

    -- A refusal comes at its moment: the machine stopped with that number, or, at 9, the pairs fill the pair room.
    pub refused_halts : (number : ℕ) → (of_search word (search M pairs letters x y h)).says ≡ refused_by number
        → Halts M S pairs (of_search word (search M pairs letters x y h)).has (of_search word (search M pairs letters x y h)).table number
    refused_halts number = go (search_keeps laws letters bytes x y ready x-stands y-stands)
      where
        go : {s : Search Has Row} → KeepsSearch M S pairs h [] s → (of_search word s).says ≡ refused_by number → Halts M S pairs (of_search word s).has (of_search word s).table number
        go (keeps_same kept) e = let z : ◌≡◌ {A = ℕ} 0 1 = cc in absurd (omega arith)
        go (keeps_different {word = w} {left_has} {k} {table' = t} kept) e = by (ltb word (length w)) e
          where
            by : (short : Bool) → (of_word w left_has k t short).says ≡ refused_by number → Halts M S pairs (of_word w left_has k t short).has (of_word w left_has k t short).table number
            by true e = let z : ◌≡◌ {A = ℕ} 0 1 = cc in absurd (omega arith)
            by false e = let z : ◌≡◌ {A = ℕ} 0 1 = cc in absurd (omega arith)
        go (keeps_stopped {number = n} {k} {table' = t} kept why) e = let same_number : n ≡ number = cc in subst (Halts M S pairs k t) same_number why

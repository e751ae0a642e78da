-- What is told of a search, with a word room of so many bytes: a word that is found is written where the room is long enough, and number 10 comes
-- where it is shorter than the word. A word room that is short changes nothing else.
use Rattle.std.specs.Prelude.{ℕ, ◌<◌, ◌≤◌, Bool, true, false, List, [], ◌≡◌, refl, ltb, length}
use Rattle.std.proofs.Common.{arith, ◌∙◌, ap, ltb-true, ltb-false, le-ltb}
use Rattle.refusals.specs.Numbers.{short_word_room}
use Rattle.answers.specs.Comparing.{Verdict, are_same, are_different, refused_by, word_room_short}
use Rattle.machine.specs.Laws.Search.{Search, same, different, stopped}

-- What is told, what the machine then has, the table, and the word written.
pub record Outcome (Has Row : Type 0) : Type 0 where
  pub says : Verdict
  pub has : Has
  pub table : List Row
  pub written : List ℕ

-- Of a word that was found, by whether the word room is shorter than the word.
abbrev pub of_word : {Has Row : Type 0} → List ℕ → Bool → Has → List Row → Bool → Outcome Has Row
of_word {Has} {Row} word left_has h table short =
    elim short as (λ _. Outcome Has Row) [
      | true ↦ record { says = word_room_short short_word_room (length word); has = h; table = table; written = [] }
      | false ↦ record { says = are_different (length word) left_has; has = h; table = table; written = word }
    ]

-- Of a search.
abbrev pub of_search : {Has Row : Type 0} → ℕ → Search Has Row → Outcome Has Row
of_search room (same h table) = record { says = are_same; has = h; table = table; written = [] }
of_search room (different word left_has h table) = of_word word left_has h table (ltb room (length word))
of_search room (stopped number h table) = record { says = refused_by number; has = h; table = table; written = [] }

-- A word room that is long enough gets the word.
pub of_found : {Has Row : Type 0} (room : ℕ) (word : List ℕ) (left_has : Bool) (h : Has) (table : List Row) → length word ≤ room
    → of_search room (different word left_has h table) ≡ record { says = are_different (length word) left_has; has = h; table = table; written = word }
of_found room word left_has h table l = ap (of_word word left_has h table) (le-ltb room (length word) l)

-- What is written fits the word room.
pub written_fits : {Has Row : Type 0} (room : ℕ) (s : Search Has Row) → length (of_search room s).written ≤ room
written_fits room (same h table) = omega arith
written_fits room (different word left_has h table) = go (ltb room (length word)) refl
  where
    go : (short : Bool) → ltb room (length word) ≡ short → length (of_word word left_has h table short).written ≤ room
    go true e = omega arith
    go false e = ltb-false room (length word) e
written_fits room (stopped number h table) = omega arith

-- Number 10 at its moment: the search found a word of the length wanted, which is longer than the word room.
pub record WordWanted {Has Row : Type 0} (room wanted : ℕ) (s : Search Has Row) : Type 0 where
  pub word : List ℕ
  pub left_has : Bool
  pub has : Has
  pub table : List Row
  pub found : s ≡ different word left_has has table
  pub long : length word ≡ wanted
  pub short : room < wanted

pub at_10 : {Has Row : Type 0} (room wanted : ℕ) (s : Search Has Row) → (of_search room s).says ≡ word_room_short short_word_room wanted → WordWanted room wanted s
at_10 room wanted (same h table) e = let z : ◌≡◌ {A = ℕ} 0 1 = cc in absurd (omega arith)
at_10 room wanted (different word left_has h table) e = go (ltb room (length word)) refl e
  where
    go : (short : Bool) → ltb room (length word) ≡ short → (of_word word left_has h table short).says ≡ word_room_short short_word_room wanted → WordWanted room wanted (different word left_has h table)
    go true t e =
        let long : length word ≡ wanted = cc in
        let less = ltb-true room (length word) t in
        record { word = word; left_has = left_has; has = h; table = table; found = refl; long = long; short = omega arith }
    go false t e = let z : ◌≡◌ {A = ℕ} 0 1 = cc in absurd (omega arith)
at_10 room wanted (stopped number h table) e = let z : ◌≡◌ {A = ℕ} 0 1 = cc in absurd (omega arith)

-- A word room of the length wanted gets the word, and all else is the same: number 10 is the word room's alone.
pub record WordWritten {Has Row : Type 0} (wanted : ℕ) (o o' : Outcome Has Row) : Type 0 where
  pub word : List ℕ
  pub left_has : Bool
  pub long : length word ≡ wanted
  pub is : o' ≡ record { says = are_different wanted left_has; has = o.has; table = o.table; written = word }

pub short_then_written : {Has Row : Type 0} (room room' wanted : ℕ) (s : Search Has Row) → (of_search room s).says ≡ word_room_short short_word_room wanted → wanted ≤ room'
    → WordWritten wanted (of_search room s) (of_search room' s)
short_then_written room room' wanted (same h table) e l = let z : ◌≡◌ {A = ℕ} 0 1 = cc in absurd (omega arith)
short_then_written room room' wanted (different word left_has h table) e l = go (ltb room (length word)) e
  where
    go : (short : Bool) → (of_word word left_has h table short).says ≡ word_room_short short_word_room wanted
        → WordWritten wanted (of_word word left_has h table short) (of_search room' (different word left_has h table))
    go true e =
        let long : length word ≡ wanted = cc in
        record {
          word = word;
          left_has = left_has;
          long = long;
          is = of_found room' word left_has h table (omega arith) ∙ (λ i. record { says = are_different (long i) left_has; has = h; table = table; written = word });
        }
    go false e = let z : ◌≡◌ {A = ℕ} 0 1 = cc in absurd (omega arith)
short_then_written room room' wanted (stopped number h table) e l = let z : ◌≡◌ {A = ℕ} 0 1 = cc in absurd (omega arith)

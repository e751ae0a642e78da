-- The fixed search over any machine, in its parts. Pairs of states are taken in table order; for each letter the left makes its step, then the right;
-- the pair that they come to, and the opening pair first of all, is looked at: marks first, then the table, then room for it.
use Prim.Native.Nat.{ℕ, zero, suc, ◌<◌}
use Rattle.std.specs.Prelude.{Bool, true, false, ltb, length, get_or}
use Rattle.std.specs.Bool.{beq}
use mathlib.Core.List.{List, [], ◌∷◌, ◌++◌}
use Rattle.refusals.specs.Numbers.{no_place_for_pair}
use Rattle.machine.specs.Laws.Machine.{Stepped, stepped, halted, Machine, States}
use Rattle.machine.specs.Laws.Finding.{found_in}

-- What a search comes to, with what the machine then has and the table.
pub data Search (Has Row : Type 0) : Type 0 where
  same : (has : Has) (table : List Row) → Search Has Row
  different : (word : List ℕ) (left_has : Bool) (has : Has) (table : List Row) → Search Has Row
  stopped : (number : ℕ) (has : Has) (table : List Row) → Search Has Row

-- Goes on from a table that stands; an end stays an end.
pub data Going (Has Row : Type 0) : Type 0 where
  on : (has : Has) (table : List Row) → Going Has Row
  ends : Search Has Row → Going Has Row

-- A part of the search, and another, or the search, from where it comes to.

abbrev pub after_going : {Has Row : Type 0} → Going Has Row → (Has → List Row → Going Has Row) → Going Has Row
after_going {Has} {Row} g next = elim g as (λ _. Going Has Row) [ on h table ↦ next h table | ends s ↦ ends s ]

abbrev pub search_after : {Has Row : Type 0} → Going Has Row → (Has → List Row → Search Has Row) → Search Has Row
search_after {Has} {Row} g next = elim g as (λ _. Search Has Row) [ on h table ↦ next h table | ends s ↦ s ]

-- A step, and what follows from the state it comes to; where it stops the search stops.
abbrev pub after_step : {State Has Row : Type 0} → List Row → Stepped State Has → (State → Has → Going Has Row) → Going Has Row
after_step {State} {Has} {Row} table s next = elim s as (λ _. Going Has Row) [ stepped x h ↦ next x h | halted number h ↦ ends (stopped number h table) ]

-- A turn of the search where a pair is left to take; "same" where none is.
abbrev pub turned : {Has Row : Type 0} → Bool → Going Has Row → (Has → List Row → Search Has Row) → Has → List Row → Search Has Row
turned {Has} {Row} left turn next h table = elim left as (λ _. Search Has Row) [ true ↦ search_after turn next | false ↦ same h table ]

-- A reached pair, by the three tests: the marks agree, the pair stands in the table, the pair room has space for another.
abbrev pub looked : {Has Row : Type 0} → Row → List ℕ → Bool → Has → List Row → Bool → Bool → Bool → Going Has Row
looked {Has} {Row} reached word left_has h table agree stands free =
    elim agree as (λ _. Going Has Row) [
      | false ↦ ends (different word left_has h table)
      | true ↦
          elim stands as (λ _. Going Has Row) [
            | true ↦ on h table
            | false ↦ elim free as (λ _. Going Has Row) [ true ↦ on h (table ++ reached ∷ []) | false ↦ ends (stopped no_place_for_pair h table) ]
          ]
    ]

module _ {State Has Row : Type 0} (M : Machine State Has Row) where
  -- The row numbered n.
  abbrev pub row_at : List Row → ℕ → Row
  row_at table n = get_or table n M.no_row

  -- The word that leads to a pair, read off up to row 0. A pair comes from one with a lower number, so a depth above the number is enough.
  unfoldable pub word_to : ℕ → List Row → ℕ → List ℕ
  word_to zero table n = []
  word_to (suc depth) table zero = []
  word_to (suc depth) table (suc n) = word_to depth table (M.origin (row_at table (suc n))) ++ M.letter (row_at table (suc n)) ∷ []

  abbrev pub word_of : List Row → ℕ → List ℕ
  word_of table n = word_to (suc n) table n

  -- The two states stand in the table as a pair, as a test; and where.
  unfoldable pub stands_in : List Row → State → State → Bool
  unfolding found_in
  stands_in table x y = found_in (λ r. M.has_states r x y) table

  pub record StandsAt (table : List Row) (x y : State) : Type 0 where
    pub at : ℕ
    pub inside : at < length table
    pub states : States M (row_at table at) x y

  -- Whether the marks of two states agree.
  abbrev pub marks_agree : Has → State → State → Bool
  marks_agree h x y = beq (M.mark h x) (M.mark h y)

  -- A pair that is reached, by a word, is looked at.
  abbrev pub look : ℕ → State → State → ℕ → ℕ → List ℕ → Has → List Row → Going Has Row
  look pairs x y origin letter word h table =
      looked (M.row x y origin letter) word (M.mark h x) h table (marks_agree h x y) (stands_in table x y) (ltb (length table) pairs)

  -- The pair numbered n by one letter: the left steps, then the right.
  abbrev pub by_letter : ℕ → ℕ → ℕ → Has → List Row → Going Has Row
  by_letter pairs n letter h table =
      after_step table (M.step letter (M.left (row_at table n)) h)
      (λ x h₁.
      after_step table (M.step letter (M.right (row_at table n)) h₁) (λ y h₂. look pairs x y n letter (word_of table n ++ letter ∷ []) h₂ table))

  -- The pair numbered n by each of these letters in turn.
  unfoldable pub by_letters : ℕ → ℕ → List ℕ → Has → List Row → Going Has Row
  unfolding word_to stands_in
  by_letters pairs n [] h table = on h table
  by_letters pairs n (letter ∷ rest) h table = after_going (by_letter pairs n letter h table) (λ h₁ table₁. by_letters pairs n rest h₁ table₁)

  -- The pairs from number n on, in table order. The table has at most as many as the pair room, so that number of turns is enough.
  unfoldable pub take_pairs : ℕ → ℕ → List ℕ → ℕ → Has → List Row → Search Has Row
  unfolding by_letters
  take_pairs zero pairs letters n h table = same h table
  take_pairs (suc turns) pairs letters n h table =
      turned (ltb n (length table)) (by_letters pairs n letters h table) (λ h₁ table₁. take_pairs turns pairs letters (suc n) h₁ table₁) h table

  -- The search from the opening pair.
  unfoldable pub search : ℕ → List ℕ → State → State → Has → Search Has Row
  unfolding take_pairs stands_in
  search pairs letters x y h = search_after (look pairs x y 0 0 [] h []) (λ h₁ table₁. take_pairs pairs pairs letters 0 h₁ table₁)

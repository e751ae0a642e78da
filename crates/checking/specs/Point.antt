-- What accepted and rejected mean, of a list of pairs of places in the store that the checker leaves.
-- Document 01: "rejected at the first failing point ..: opening pair missing; else, pair by pair in list order, marks differ, then for each letter
-- ascending, left derived before right, the pair reached is not in the list, compared by place."
use Rattle.std.specs.Prelude.{ℕ, ◌+◌, ◌<◌, List, ◌≡◌, length}
use Rattle.answers.specs.Checking.{Point, at_opening, at_marks, at_letter}
use Rattle.language.specs.Word.{Listed}
use Rattle.records.specs.declared.record.Record.{Record}
use Rattle.records.specs.Record.{child}
use Rattle.cards.specs.Mark.{marked}
use Rattle.derivative.specs.Derivative.{derived, derive}
use Rattle.derivative.specs.Visits.{visits}
use Rattle.pairs.specs.declared.pair.Pair.{Pair}
use Rattle.pairs.specs.Pair.{pair_at, StandsAt}

-- Run in the store, the derivation by the letter leads from one place to the other at the cost of its visits, and adds nothing.
abbrev pub LeadsTo : List Record → ℕ → ℕ → ℕ → Type 0
LeadsTo store letter from to = (room rest : ℕ) → derive room letter from store (visits store from + rest) ≡ derived to store rest

-- There is a listed pair to which both derivations by the letter lead.
pub record Reaches (store : List Record) (pairs : List Pair) (x y letter : ℕ) : Type 0 where
  pub to : ℕ
  pub listed : to < length pairs
  pub left : LeadsTo store letter x (pair_at pairs to).left
  pub right : LeadsTo store letter y (pair_at pairs to).right

-- Both derivations by the letter lead to two places that are no listed pair.
pub record Misses (store : List Record) (pairs : List Pair) (x y letter : ℕ) : Type 0 where
  pub x_to : ℕ
  pub y_to : ℕ
  pub left : LeadsTo store letter x x_to
  pub right : LeadsTo store letter y y_to
  pub unlisted : StandsAt pairs x_to y_to → ⊥

-- The two places have equal marks.
abbrev pub Agree : List Record → ℕ → ℕ → Type 0
Agree store x y = marked (child store x) ≡ marked (child store y)

-- The pair numbered n is right: its marks agree, and by each letter it leads to a listed pair.
pub record RightPair (letters : List ℕ) (store : List Record) (pairs : List Pair) (n : ℕ) : Type 0 where
  pub agree : Agree store (pair_at pairs n).left (pair_at pairs n).right
  pub reaches : (c : ℕ) → Listed letters c → Reaches store pairs (pair_at pairs n).left (pair_at pairs n).right c

-- A good table: the opening pair is listed, and every listed pair is right.
pub record GoodTable (letters : List ℕ) (store : List Record) (pairs : List Pair) (x y : ℕ) : Type 0 where
  pub opening : StandsAt pairs x y
  pub right : (n : ℕ) → n < length pairs → RightPair letters store pairs n

-- The first failing point: the list fails there, and at no point before it.
pub data FailsAt (letters : List ℕ) (store : List Record) (pairs : List Pair) (x y : ℕ) : Point → Type 0 where
  opening_missing : (StandsAt pairs x y → ⊥) → FailsAt letters store pairs x y at_opening
  marks_differ : (n : ℕ) → n < length pairs → StandsAt pairs x y → ((i : ℕ) → i < n → RightPair letters store pairs i)
      → (Agree store (pair_at pairs n).left (pair_at pairs n).right → ⊥)
      → FailsAt letters store pairs x y (at_marks n)
  not_listed : (n c : ℕ) → n < length pairs → StandsAt pairs x y → ((i : ℕ) → i < n → RightPair letters store pairs i)
      → Agree store (pair_at pairs n).left (pair_at pairs n).right
      → Listed letters c
      → ((d : ℕ) → Listed letters d → d < c → Reaches store pairs (pair_at pairs n).left (pair_at pairs n).right d)
      → Misses store pairs (pair_at pairs n).left (pair_at pairs n).right c
      → FailsAt letters store pairs x y (at_letter n c)

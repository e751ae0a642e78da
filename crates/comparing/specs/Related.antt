-- When two patterns count as equal. Demand 3: ""Same" is an equality: swap the two patterns, chain through a third, or set same ones into
-- equal places of a choice, sequence or repeat, and no comparison of the results ever says "different"."
use Rattle.std.specs.Prelude.{ℕ, List, ◌≡◌}
use Rattle.language.specs.Word.{Bytes}
use Rattle.language.specs.Language.{Pattern, choice, sequence, repeat}
use Rattle.cards.specs.Meaning.{card_pattern}
use Rattle.answers.specs.Comparing.{are_same}
use Rattle.comparing.specs.Compare.{compare_outcome}

-- The least relation that holds every pattern with itself and every pair judged "same" in some rooms and budget, and is closed under swap,
-- chain and building choice, sequence and repeat from related parts.
pub data Related : Pattern → Pattern → Type 0 where
  itself : (p : Pattern) → Related p p
  judged : (left right : List ℕ) → Bytes left → Bytes right → (work pairs word budget : ℕ)
      → (compare_outcome left right work pairs word budget).tells.says ≡ are_same → Related (card_pattern left) (card_pattern right)
  swap : {p q : Pattern} → Related p q → Related q p
  chain : {p q r : Pattern} → Related p q → Related q r → Related p r
  choices : {p p' q q' : Pattern} → Related p p' → Related q q' → Related (choice p q) (choice p' q')
  sequences : {p p' q q' : Pattern} → Related p p' → Related q q' → Related (sequence p q) (sequence p' q')
  repeats : {p p' : Pattern} → Related p p' → Related (repeat p) (repeat p')

-- Runs of marked numbers: two lists that each begin with a run, and go on with something else, have the same run. So what stands in front of a
-- line feed, or of any number that is no digit, can be read in one way.
use Rattle.std.specs.Prelude.{ℕ, List, [], ◌∷◌, ◌++◌, ◌≡◌, refl}
use Rattle.std.proofs.Common.{append_assoc, sym, arith}
use Rattle.language.specs.Word.{Over, none, one}
use Rattle.text.specs.Ascii.{line_feed, line}
use Rattle.text.specs.Told.{StopsAt}

-- A line, and what follows it.
pub line_then : (name value rest : List ℕ) → line name value ++ rest ≡ name ++ (value ++ line_feed ∷ rest)
line_then name value rest = simp append_assoc

-- Two lists that begin with a number each.
pub record Cons (a : ℕ) (s : List ℕ) (b : ℕ) (t : List ℕ) : Type 0 where
  pub first : a ≡ b
  pub rest : s ≡ t

pub cons_one : {a b : ℕ} {s t : List ℕ} → a ∷ s ≡ b ∷ t → Cons a s b t
cons_one e = record { first = cc; rest = cc }

-- A list stops at its end, and at a number that P does not name.
pub stops_end : {P : ℕ → Type 0} → StopsAt P []
stops_end = record { stops = λ c rest e p. let z : ◌≡◌ {A = ℕ} 0 1 = cc in absurd (omega arith) }

pub stops_other : {P : ℕ → Type 0} {c : ℕ} {s : List ℕ} → (P c → ⊥) → StopsAt P (c ∷ s)
stops_other {P} {c} f = record { stops = λ d rest e p. f (rw (← (cons_one e).first) at p) }

-- One run goes on where the other has ended.
pub record Longer (a s b t : List ℕ) : Type 0 where
  pub more : List ℕ
  pub longer : b ≡ a ++ more
  pub rest : s ≡ more ++ t

grow : {x y : ℕ} {a s b t : List ℕ} → x ≡ y → Longer a s b t → Longer (x ∷ a) s (y ∷ b) t
grow e l = record { more = l.more; longer = let h = l.longer in cc; rest = l.rest }

-- Two runs and what follows them are the same.
pub record SameRun (a s b t : List ℕ) : Type 0 where
  pub run : a ≡ b
  pub rest : s ≡ t

pub one_more : {x y : ℕ} {a s b t : List ℕ} → x ≡ y → SameRun a s b t → SameRun (x ∷ a) s (y ∷ b) t
one_more e l = record { run = let h = l.run in cc; rest = l.rest }

module _ {P : ℕ → Type 0} where
  -- The run in front of what stops is the longer one.
  pub run_longer : {a b : List ℕ} → Over P a → Over P b → (s t : List ℕ) → StopsAt P t → a ++ s ≡ b ++ t → Longer a s b t
  run_longer {b = b} none k s t n e = record { more = b; longer = refl; rest = e }
  run_longer (one {c} {w} p h) none s t n e = absurd (n.stops c (w ++ s) (sym e) p)
  run_longer (one p h) (one q k) s t n e = grow (cons_one e).first (run_longer h k s t n (cons_one e).rest)

  -- Two runs, each in front of what stops, are the same.
  pub run_one : {a b : List ℕ} → Over P a → Over P b → (s t : List ℕ) → StopsAt P s → StopsAt P t → a ++ s ≡ b ++ t → SameRun a s b t
  run_one none none s t m n e = record { run = refl; rest = e }
  run_one none (one {c} {w} q k) s t m n e = absurd (m.stops c (w ++ t) e q)
  run_one (one {c} {w} p h) none s t m n e = absurd (n.stops c (w ++ s) (sym e) p)
  run_one (one p h) (one q k) s t m n e = one_more (cons_one e).first (run_one h k s t m n (cons_one e).rest)

-- Words whose letters P names: their parts, and a larger P.
use Rattle.std.specs.Prelude.{ℕ, zero, suc, ◌<◌, [], ◌∷◌, ◌++◌, get_or}
use Rattle.std.proofs.Common.{append_assoc, append-nil, sym, subst}
use Rattle.language.specs.Word.{Word, Over, none, one, Bytes}

pub front_over : {P : ℕ → Type 0} (x y : Word) → Over P (x ++ y) → Over P x
front_over [] y h = none
front_over (c ∷ x) y (one b h) = one b (front_over x y h)

pub back_over : {P : ℕ → Type 0} (x y : Word) → Over P (x ++ y) → Over P y
back_over [] y h = h
back_over (c ∷ x) y (one b h) = back_over x y h

pub over_join : {P : ℕ → Type 0} {x y : Word} → Over P x → Over P y → Over P (x ++ y)
over_join none k = k
over_join (one b h) k = one b (over_join h k)

pub over_wider : {P Q : ℕ → Type 0} → ((c : ℕ) → P c → Q c) → {w : Word} → Over P w → Over Q w
over_wider f none = none
over_wider f (one {c} b h) = one (f c b) (over_wider f h)

-- A list each of whose numbers is below 256 is a list of bytes.
pub bytes_all : (s : Word) → ((i : ℕ) → get_or s i 0 < 256) → Bytes s
bytes_all [] f = none
bytes_all (c ∷ s) f = one (f zero) (bytes_all s (λ i. f (suc i)))

-- The letter of a word of one, and the last letter of a word.
only_letter : {P : ℕ → Type 0} {d : ℕ} → Over P (d ∷ []) → P d
only_letter (one p _) = p

pub last_over : {P : ℕ → Type 0} (u : Word) (d : ℕ) → Over P (u ++ d ∷ []) → P d
last_over u d o = only_letter (back_over u (d ∷ []) o)

-- A word, from its empty front on.
pub data Fronts : Word → Type 0 where
  empty : Fronts []
  longer_by : {u : Word} → Fronts u → (d : ℕ) → Fronts (u ++ d ∷ [])

-- Every word is such.
fronts_append : {u : Word} → Fronts u → (w : Word) → Fronts (u ++ w)
fronts_append {u} f [] = subst Fronts (sym (append-nil u)) f
fronts_append {u} f (d ∷ w) = subst Fronts (append_assoc u (d ∷ []) w) (fronts_append (longer_by f d) w)

pub fronts : (w : Word) → Fronts w
fronts w = fronts_append empty w

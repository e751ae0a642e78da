-- The numbers of the kinds: a number with a line in the kind table is below the table's length, and it is the number of the kind that it names.
use Rattle.std.specs.Prelude.{ℕ, zero, suc, ◌<◌, true, ◌≡◌, refl, length}
use Rattle.std.proofs.Math.Decide.{dec_lt}
use Rattle.std.proofs.Common.{arith, sym, ◌∙◌, ap, subst}
use Rattle.std.proofs.lemmas.Bool.{false≢true}
use Rattle.std.proofs.Math.ListN.{get_or-eq_default}
use Rattle.records.specs.declared.kind.Kind.{Kind}
use Rattle.records.specs.declared.kind.Kind.TheVariants.{Unknown}
use Rattle.records.specs.Kind.{kinds, kind_of, columns}
use Rattle.records.specs.Number.{number}

-- A number with a line in the table is one of the table's.
pub known_number : (n : ℕ) → (columns (kind_of n)).known ≡ true → n < length kinds
known_number n known = go (dec_lt n (length kinds))
  where
    go : Dec (n < length kinds) → n < length kinds
    go (yes l) = l
    go (no l) =
        absurd (false≢true (subst (λ (k : Kind). (columns k).known ≡ true) (get_or-eq_default kinds Unknown {n = n} (omega arith)) known))

number_below : (n : ℕ) → n < length kinds → number (kind_of n) ≡ n
number_below zero l = refl
number_below (suc zero) l = refl
number_below (suc (suc zero)) l = refl
number_below (suc (suc (suc zero))) l = refl
number_below (suc (suc (suc (suc zero)))) l = refl
number_below (suc (suc (suc (suc (suc zero))))) l = refl
number_below (suc (suc (suc (suc (suc (suc n)))))) l = absurd (omega arith)

-- A number with a line in the table is that of the kind that it names.
pub number_of_kind : (n : ℕ) → (columns (kind_of n)).known ≡ true → {k : Kind} → kind_of n ≡ k → n ≡ number k
number_of_kind n known e = sym (number_below n (known_number n known)) ∙ ap number e

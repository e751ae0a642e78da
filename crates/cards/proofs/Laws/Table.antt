-- Document 01's kind table, written out by numbers, a line a kind: the records that obey the table are exactly these. The examiner and the statement of
-- what it examines both read the table as data, so this law is what takes each of its entries out again.
use Rattle.std.specs.Prelude.{ℕ, zero, suc, ◌<◌, true, ◌≡◌, refl}
use Rattle.std.proofs.lemmas.Bool.{false≢true}
use Rattle.std.proofs.Common.{sym, subst}
use Rattle.records.specs.declared.record.Record.{Record}
use Rattle.records.specs.Kind.{kind_of, columns}
use Rattle.cards.specs.Standing.{LineOf, Line}

-- The table's lines.
pub data Written (at : ℕ) (r : Record) : Type 0 where
  nothing : r.kind ≡ 0 → r.letter ≡ 0 → r.left ≡ 0 → r.right ≡ 0 → Written at r
  empty_word : r.kind ≡ 1 → r.letter ≡ 0 → r.left ≡ 0 → r.right ≡ 0 → Written at r
  letter : r.kind ≡ 2 → r.left ≡ 0 → r.right ≡ 0 → Written at r
  choice : r.kind ≡ 3 → r.letter ≡ 0 → r.left < at → r.right < at → Written at r
  sequence : r.kind ≡ 4 → r.letter ≡ 0 → r.left < at → r.right < at → Written at r
  repeat : r.kind ≡ 5 → r.letter ≡ 0 → r.left < at → r.right ≡ 0 → Written at r

by_number : (at : ℕ) (r : Record) (n : ℕ) → r.kind ≡ n → LineOf (columns (kind_of n)) at r → Written at r
by_number at r zero e o = nothing e o.letter o.left o.right
by_number at r (suc zero) e o = empty_word e o.letter o.left o.right
by_number at r (suc (suc zero)) e o = letter e o.left o.right
by_number at r (suc (suc (suc zero))) e o = choice e o.letter o.left o.right
by_number at r (suc (suc (suc (suc zero)))) e o = sequence e o.letter o.left o.right
by_number at r (suc (suc (suc (suc (suc zero))))) e o = repeat e o.letter o.left o.right
by_number at r (suc (suc (suc (suc (suc (suc n)))))) e o = absurd (false≢true o.known)

-- A record that obeys the table stands in one of its lines ..
pub line_written : {at : ℕ} {r : Record} → Line at r → Written at r
line_written {at} {r} o = by_number at r r.kind refl o

-- .. and a record in one of its lines obeys it.
pub written_line : {at : ℕ} {r : Record} → Written at r → Line at r
written_line {at} {r} w = go w
  where
    of_kind : (n : ℕ) → r.kind ≡ n → LineOf (columns (kind_of n)) at r → Line at r
    of_kind n e o = subst (λ (m : ℕ). LineOf (columns (kind_of m)) at r) (sym e) o

    go : Written at r → Line at r
    go (nothing k a b c) = of_kind 0 k (record { known = refl; letter = a; left = b; right = c })
    go (empty_word k a b c) = of_kind 1 k (record { known = refl; letter = a; left = b; right = c })
    go (letter k b c) = of_kind 2 k (record { known = refl; letter = tt; left = b; right = c })
    go (choice k a b c) = of_kind 3 k (record { known = refl; letter = a; left = b; right = c })
    go (sequence k a b c) = of_kind 4 k (record { known = refl; letter = a; left = b; right = c })
    go (repeat k a b c) = of_kind 5 k (record { known = refl; letter = a; left = b; right = c })

-- A letter record is one of kind 2.
pub letter_number : (n : ℕ) → (columns (kind_of n)).letter ≡ true → n ≡ 2
letter_number zero e = absurd (false≢true e)
letter_number (suc zero) e = absurd (false≢true e)
letter_number (suc (suc zero)) e = refl
letter_number (suc (suc (suc zero))) e = absurd (false≢true e)
letter_number (suc (suc (suc (suc zero)))) e = absurd (false≢true e)
letter_number (suc (suc (suc (suc (suc zero))))) e = absurd (false≢true e)
letter_number (suc (suc (suc (suc (suc (suc n)))))) e = absurd (false≢true e)

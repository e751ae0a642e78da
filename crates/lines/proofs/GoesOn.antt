-- The lines go on behind some bytes, and behind more.
use Rattle.std.proofs.Common.{ℕ, List, [], ◌∷◌, ◌++◌, ◌≡◌, Bool, cond, arith, subst, sym, ap, append_assoc, Option, Result, Bor}
use Rattle.std.proofs.lemmas.List.{length-append}
use Rattle.std.specs.Prelude.{⊤}
use Rattle.std.proofs.lemmas.Bool.{ne_eqb}
use Rattle.lines.specs.Answered.{lines_of, EachAnswered}
use Rattle.lines.specs.Kept.{Holds, GoesOn}
use Rattle.lines.specs.declared.reading.Line.{Line}

module _ {F E : Type 0} {longest : ℕ} {step : F → Option (Bor (List ℕ)) → Result ⊤ E → F → Type 0} where
  pub goes_on_then : {f f' f'' : F} {line line' : Line} {came one more : List ℕ} (a : GoesOn longest step f came one f' line)
      → GoesOn longest step f' a.came' more f'' line' → GoesOn longest step f came (one ++ more) f'' line'
  goes_on_then {f} {came = came} {one = one} {more = more} a b =
      record {
        came' = b.came';
        holds = b.holds;
        fits = omega (arith, a.fits, b.fits, length-append one more);
        goes_on = λ rest last k.
            subst (λ (s : List ℕ). EachAnswered longest step f (lines_of s came) last) (sym (append_assoc one more rest))
            (a.goes_on (more ++ rest) last (b.goes_on rest last k));
      }

  pub goes_on_kept : {f : F} {line' : Line} {came : List ℕ} {byte : ℕ} → (byte ≡ 10 → ⊥) → Holds longest line' (came ++ byte ∷ [])
      → GoesOn longest step f came (byte ∷ []) f line'
  goes_on_kept {f} {came = came} {byte} other holds =
      record {
        came' = came ++ byte ∷ [];
        holds = holds;
        fits = omega (arith, length-append came (byte ∷ []));
        goes_on = λ rest last k.
            subst (λ (lines : List (List ℕ)). EachAnswered longest step f lines last)
            (sym (ap (λ (t : Bool). cond t (came ∷ lines_of rest []) (lines_of rest (came ++ byte ∷ []))) (ne_eqb byte 10 other))) k;
      }

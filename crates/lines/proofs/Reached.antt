-- How far the lines of what comes in are answered.
use Rattle.std.proofs.Common.{ℕ, ◌+◌, ◌<◌, ◌≤◌, ◌≡◌, List, [], length, arith, refl, subst, sym, ap, ◌∙◌, Option, Some, None, IfSome, Result, Bor}
use Rattle.std.proofs.lemmas.List.{length-append, nil_from_length}
use Rattle.std.specs.Prelude.{⊤}
use Rattle.std.specs.Io.KnownBytes.{Consumes, IsAtEnd}
use Rattle.lines.specs.Answered.{lines_of, EachAnswered}
use Rattle.lines.specs.Kept.{Holds, GoesOn}
use Rattle.lines.specs.declared.reading.Line.{Line}

-- After some turns, each of which took a byte or more: what is left to read, and that it is enough to go on from there.
pub record Reached {F E : Type 0} (longest : ℕ) (step : F → Option (Bor (List ℕ)) → Result ⊤ E → F → Type 0) (text : List ℕ) (first : F)
    (turns : ℕ) (remaining : Option (List ℕ)) (f : F) (line : Line) : Type 0 where
  pub came : List ℕ
  pub left : List ℕ
  pub is_left : remaining ≡ Some left
  pub holds : Holds longest line came
  pub counted : turns + length left ≤ length text
  pub fits : length came + length left ≤ length text
  pub goes_on : (last : F) → EachAnswered longest step f (lines_of left came) last → EachAnswered longest step first (lines_of text []) last

-- The end of what comes in.
at_end : {left : List ℕ} (r' : Option (List ℕ)) → Consumes (Some left) r' [] → IsAtEnd r' → left ≡ []
at_end None took end = absurd took
at_end (Some rest) took end = took ∙ end

too_many : (most a b : ℕ) → most + a ≤ b → b < most → ⊥
too_many most a b h k = omega arith

module _ {F E : Type 0} (longest most : ℕ) (step : F → Option (Bor (List ℕ)) → Result ⊤ E → F → Type 0) where
  -- What is reached where the text is known and not too long, and what is answered then.
  abbrev pub ReachedIn : Option (List ℕ) → F → ℕ → Option (List ℕ) → F → Line → Type 0
  ReachedIn start first turns remaining f line = IfSome start (λ text. length text < most → Reached longest step text first turns remaining f line)

  abbrev pub AllAnswered : Option (List ℕ) → F → Type 0
  AllAnswered start first = IfSome start (λ text. length text < most → (last : F) × EachAnswered longest step first (lines_of text []) last)

  pub begins : (start : Option (List ℕ)) (f : F) (line : Line) → Holds longest line [] → ReachedIn start f 0 start f line
  begins None f line h = tt
  begins (Some text) f line h =
      λ short. record { came = []; left = text; is_left = refl; holds = h; counted = omega arith; fits = omega arith; goes_on = λ last e. e }

  -- One chunk more.
  on : {text : List ℕ} {first f f' : F} {turns : ℕ} {r : Option (List ℕ)} {line line' : Line} (r' : Option (List ℕ)) (bytes : List ℕ)
      (a : Reached longest step text first turns r f line) → Consumes (Some a.left) r' bytes → 0 < length bytes
      → GoesOn longest step f a.came bytes f' line' → Reached longest step text first (turns + 1) r' f' line'
  on None bytes a took some n = absurd took
  on {f = f} (Some rest) bytes a took some n =
      let long : length a.left ≡ length bytes + length rest = ap length took ∙ length-append bytes rest in
      record {
        came = n.came';
        left = rest;
        is_left = refl;
        holds = n.holds;
        counted = omega (arith, a.counted, long);
        fits = omega (arith, a.fits, n.fits, long);
        goes_on = λ last e.
            a.goes_on last (subst (λ (s : List ℕ). EachAnswered longest step f (lines_of s a.came) last) (sym took) (n.goes_on rest last e));
      }

  pub goes : (start r r' : Option (List ℕ)) (first f f' : F) (turns : ℕ) (line line' : Line) (bytes : List ℕ) → ReachedIn start first turns r f line
      → Consumes r r' bytes → 0 < length bytes
      → ((came : List ℕ) → Holds longest line came → length came + length bytes ≤ most → GoesOn longest step f came bytes f' line')
      → ReachedIn start first (turns + 1) r' f' line'
  goes None r r' first f f' turns line line' bytes reached took some go = tt
  goes (Some text) r r' first f f' turns line line' bytes reached took some go =
      λ short.
      let a = reached short in
      let took' = subst (λ (o : Option (List ℕ)). Consumes o r' bytes) a.is_left took in
      on r' bytes a took' some (go a.came a.holds (fits r' bytes a took' short))
    where
      fits : {text : List ℕ} {first f : F} {turns : ℕ} {r : Option (List ℕ)} {line : Line} (r' : Option (List ℕ)) (bytes : List ℕ)
          (a : Reached longest step text first turns r f line) → Consumes (Some a.left) r' bytes → length text < most
          → length a.came + length bytes ≤ most
      fits None bytes a took short = absurd took
      fits (Some rest) bytes a took short =
          let long : length a.left ≡ length bytes + length rest = ap length took ∙ length-append bytes rest in
          omega (arith, a.fits, long)

  -- Where nothing more came, the last line is answered.
  pub ends : (start r r' : Option (List ℕ)) (first f : F) (turns : ℕ) (line : Line) → ReachedIn start first turns r f line → Consumes r r' []
      → IsAtEnd r' → ((came : List ℕ) → Holds longest line came → (last : F) × EachAnswered longest step f (lines_of [] came) last)
      → AllAnswered start first
  ends None r r' first f turns line reached took end answered = tt
  ends (Some text) r r' first f turns line reached took end answered =
      λ short.
      let a = reached short in
      let none = at_end r' (subst (λ (o : Option (List ℕ)). Consumes o r' []) a.is_left took) end in
      let last = answered a.came a.holds in
      (last.0, a.goes_on last.0 (subst (λ (s : List ℕ). EachAnswered longest step f (lines_of s a.came) last.0) (sym none) last.1))

  -- There are not so many turns, since each takes a byte.
  pub no_more_turns : (start r : Option (List ℕ)) (first f : F) (line : Line) → ReachedIn start first most r f line → AllAnswered start first
  no_more_turns None r first f line reached = tt
  no_more_turns (Some text) r first f line reached = λ short. let a = reached short in absurd (too_many most (length a.left) (length text) a.counted short)

-- Where no byte came of the last line there is none.
pub nothing_came : {F E : Type 0} (longest : ℕ) (step : F → Option (Bor (List ℕ)) → Result ⊤ E → F → Type 0) (f : F) (came : List ℕ)
    → length came ≡ 0 → EachAnswered longest step f (lines_of [] came) f
nothing_came longest step f came none =
    subst (λ (s : List ℕ). EachAnswered longest step f (lines_of [] s) f) (sym (nil_from_length came none)) refl

-- The digits of a block follow those of the bytes before it.
use Rattle.std.proofs.Common.{List, ℕ, [], ◌++◌, rules, subst, sym, ap, ◌∙◌, append_assoc, append-nil}
use Rattle.std.proofs.KnownBytes.{Appends-nil, Appends-trans}
use Rattle.std.proofs.lemmas.List.{nil_from_length}
use Rattle.std.specs.Io.KnownBytes.{Appends}
use Rattle.text.specs.Digits.{hex}
use Rattle.text.specs.Laws.Hex.{hex_append}
use Rattle.lines.proofs.printing.hex.Goals as goal

pub loop-piece-init : goal.loop-piece-init
unfolding hex
loop-piece-init g c = (search rules, tt, search rules, ([], Appends-nil (g.W.Write.contents c.args.output.now), search rules))

pub loop-piece-preserved : goal.loop-piece-preserved
loop-piece-preserved g c =
    let so_far = c.loop-piece.invariant.3 in
    let steps = c.in-Some.ensures.steps in
    let piece = c.in-Some.piece.now in (
      search rules,
      tt,
      steps.0 ∙ c.loop-piece.invariant.2,
      (
        so_far.0 ++ piece,
        subst (Appends _ _) (sym (hex_append so_far.0 piece)) (Appends-trans _ _ _ _ _ so_far.1 c.in_ok-block.ensures),
        append_assoc so_far.0 piece _ ∙ ap (λ (s : List ℕ). so_far.0 ++ s) (sym steps.1.0) ∙ so_far.2,
      ),
    )

pub returns : goal.returns
returns g c =
    let so_far = c.loop-piece.invariant.3 in
    let none = nil_from_length _ c.in-None.ensures.steps.1.0 in
    subst (λ (s : List ℕ). Appends (g.W.Write.contents c.args.output.now) (g.W.Write.contents c.loop-piece.output) (hex s)) (sym (append-nil so_far.0) ∙ ap (λ (s : List ℕ). so_far.0 ++ s) (sym none) ∙ so_far.2) so_far.1

-- One byte more comes behind those before it: a line's end, or a byte of the line.
use Rattle.std.proofs.Common.{ℕ, List, [], ◌∷◌, take, arith, subst, sym, ap, ◌∙◌, add-one}
use Rattle.std.proofs.lemmas.List.{length-take-le}
use Rattle.std.proofs.Math.Seq.{take-suc}
use Rattle.lines.specs.Kept.{GoesOn}
use Rattle.lines.proofs.GoesOn.{goes_on_then, goes_on_kept}
use Rattle.lines.proofs.reading.answer_each.Goals as goal

pub loop-byte-preserved-then-byte-eq-LINE_FEED : goal.loop-byte-preserved-then-byte-eq-LINE_FEED
loop-byte-preserved-then-byte-eq-LINE_FEED g c =
    let bytes = c.args.bytes.now in
    let at = c.loop-byte.byte-index in
    record {
      callable = λ always. c.in_ok-answer_kept.ensures.callable;
      answered = λ came holds fits.
          let so_far = c.loop-byte.invariant.answered came holds fits in
          let front = length-take-le at bytes c.loop-byte.auto.byte-index-end in
          let one = c.in_ok-answer_kept.ensures.answers so_far.came' so_far.holds (omega (arith, so_far.fits, front)) in
          subst (λ (s : List ℕ). GoesOn 400000 (goal.F-step g) c.args.answer.now came s c.answer_kept.new.answer c.answer_kept.new.line)
          (sym (ap (λ (n : ℕ). take n bytes) (add-one at) ∙ take-suc bytes at 0 c.loop-byte-test.true))
          (goes_on_then so_far
          (subst (λ (b : ℕ). GoesOn 400000 (goal.F-step g) c.loop-byte.answer so_far.came' (b ∷ []) c.answer_kept.new.answer c.answer_kept.new.line)
          (sym c.if-byte-eq-LINE_FEED.true) one));
    }

pub loop-byte-preserved : goal.loop-byte-preserved
loop-byte-preserved g c =
    let bytes = c.args.bytes.now in
    let at = c.loop-byte.byte-index in
    record {
      callable = λ always. c.loop-byte.invariant.callable always;
      answered = λ came holds fits.
          let so_far = c.loop-byte.invariant.answered came holds fits in
          let front = length-take-le at bytes c.loop-byte.auto.byte-index-end in
          let one = c.keep.ensures so_far.came' (omega (arith, so_far.fits, front)) so_far.holds in
          subst (λ (s : List ℕ). GoesOn 400000 (goal.F-step g) c.args.answer.now came s c.loop-byte.answer c.keep.new.self)
          (sym (ap (λ (n : ℕ). take n bytes) (add-one at) ∙ take-suc bytes at 0 c.loop-byte-test.true))
          (goes_on_then so_far (goes_on_kept c.if-byte-eq-LINE_FEED.false one));
    }

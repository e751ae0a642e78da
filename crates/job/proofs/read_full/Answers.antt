-- What is read goes behind what was read before.
use Rattle.std.proofs.Common.{ℕ, List, ◌≡◌, ◌≤◌, ◌+◌, ◌-◌, ◌++◌, length, take, rules, subst, sym, ap, ◌∙◌, length-take-le}
use Rattle.std.proofs.KnownBytes.{Consumes-trans}
use Rattle.std.proofs.Math.Seq.{take-append-add, take-append-le}
use Rattle.std.specs.Io.KnownBytes.{Consumes}
use borrow.Rule.Slice.PartMut.{put_mid, post_of}
use Rattle.job.proofs.read_full.Goals as goal

grown : (at more most : ℕ) (room part : List ℕ) → at ≤ length room → more ≤ length part → take (at + more) (put_mid at most room part) ≡ take at room ++ take more part
grown at more most room part h k =
    let front = length-take-le at room h in
    ap (λ (n : ℕ). take (n + more) (put_mid at most room part)) (sym front) ∙ take-append-add (take at room) (part ++ post_of at most room) more
    ∙ ap (λ (s : List ℕ). take at room ++ s) (take-append-le more part (post_of at most room) k)

pub loop-count-preserved : goal.loop-count-preserved
loop-count-preserved g c =
    let at = c.loop-count.count in
    let more = c.in_ok-more.more in
    let room = c.loop-count.room in
    let fits = c.in_ok-more.ensures.bound.0 in
    let whole = grown at more (length room - at) room c.read.new.buf c.loop-count.invariant.in_room fits in
    record {
      as_long = search rules;
      in_room = search rules;
      read = subst (Consumes _ _) (sym whole) (Consumes-trans _ _ _ _ _ c.loop-count.invariant.read c.in_ok-more.ensures.bytes.0);
    }

-- `put` writes the piece over the part of the room behind the writer's place, and leaves the rest of it.
use native.Mathlib.Omega.{arith}
use mathlib.Core.Path.{refl}
use Rattle.std.proofs.Common.{◌+◌, ◌-◌, length}
use Rattle.std.proofs.lemmas.Slice.{take-put_mid, drop-put_mid}
use Rattle.text.proofs.writing.Writer.put.Goals as goal

pub returns-clause-puts : goal.returns-clause-puts
returns-clause-puts c =
    let s = c.args.self.now in
    let p = c.args.piece.now in
    let k = s.at + length p - s.at in
    rw c.copy_from_slice.ensures.after
    (record {
      ends = refl;
      stands = take-put_mid s.at k s.out.now p (s.at + length p) refl s.inside;
      rest = drop-put_mid s.at k s.out.now p (s.at + length p) (omega arith) s.inside (omega arith);
    })

-- `byte` takes the two digits in front of what is left of the text.
use mathlib.Core.Path.{refl}
use Rattle.text.specs.Laws.Reading.{rest_ended, rest_not, rest_one}
use Rattle.text.proofs.reading.Reader.byte.Goals as goal

pub returns-in_default-clause-reads : goal.returns-in_default-clause-reads
returns-in_default-clause-reads c = let s = c.args.self.now in rest_ended s.text.now s.at _ refl c.in_default.len_below

pub returns-in_err-byte-clause-reads : goal.returns-in_err-byte-clause-reads
returns-in_err-byte-clause-reads c =
    let s = c.args.self.now in
    rw c.from_residual.ensures (rest_not s.text.now s.at _ refl c.in-len2-up.len_at_least c.in_err-byte.ensures)

pub returns-clause-reads : goal.returns-clause-reads
returns-clause-reads c = let s = c.args.self.now in rest_one s.text.now s.at _ refl c.in-len2-up.len_at_least c.in_ok-byte.ensures

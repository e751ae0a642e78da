-- The byte stands behind the key, or none stands there.
use Rattle.std.proofs.Common.{arith}
use Rattle.text.specs.Laws.Reading.{pass_goes_on}
use Rattle.lines.proofs.Stands.{byte_stands, no_byte, byte_goes_on}
use Rattle.lines.proofs.keys.Keys.byte.Goals as goal

pub returns-in_err-byte-clause-none : goal.returns-in_err-byte-clause-none
returns-in_err-byte-clause-none c =
    rw c.from_residual-in_err-byte.ensures (no_byte c.in_ok-key.ensures.same_text c.in_ok-key.ensures.passes c.in_err-byte.ensures.reads)

pub returns-in_err-byte-clause-goes_on : goal.returns-in_err-byte-clause-goes_on
returns-in_err-byte-clause-goes_on c =
    let key = pass_goes_on c.args.self.now.line.inside c.in_ok-key.ensures.passes in
    let byte = byte_goes_on c.byte.ensures.reads in
    omega (arith, key, byte)

pub returns-clause-stands : goal.returns-clause-stands
returns-clause-stands c = byte_stands c.in_ok-key.ensures.same_text c.in_ok-key.ensures.passes c.in_ok-byte.ensures.reads

pub returns-clause-goes_on : goal.returns-clause-goes_on
returns-clause-goes_on c =
    let key = pass_goes_on c.args.self.now.line.inside c.in_ok-key.ensures.passes in
    let byte = byte_goes_on c.byte.ensures.reads in
    omega (arith, key, byte)

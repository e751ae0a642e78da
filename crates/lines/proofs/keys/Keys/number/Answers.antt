-- The number stands behind the key, or none stands there.
use Rattle.std.proofs.Common.{arith}
use Rattle.text.specs.Laws.Reading.{pass_goes_on}
use Rattle.lines.proofs.Stands.{number_stands, no_number}
use Rattle.lines.proofs.keys.Keys.number.Goals as goal

pub returns-clause-stands : goal.returns-clause-stands
returns-clause-stands c = number_stands c.in_ok-key.ensures.same_text c.in_ok-key.ensures.passes c.number.ensures.reads

pub returns-clause-none : goal.returns-clause-none
returns-clause-none c = no_number c.in_ok-key.ensures.same_text c.in_ok-key.ensures.passes c.number.ensures.reads

pub returns-clause-goes_on : goal.returns-clause-goes_on
returns-clause-goes_on c =
    let key = pass_goes_on c.args.self.now.line.inside c.in_ok-key.ensures.passes in
    let number = c.number.ensures.goes_on in
    omega (arith, key, number)

-- `step` derives at the depth that is enough for its place, as the definition of a derivative does.
use Rattle.std.specs.Prelude.{suc}
use Rattle.std.proofs.Common.{arith}
use Rattle.derivative.specs.Derivative.{derive}
use Rattle.matching.proofs.following.step.Goals as goal

pub returns-clause-comes : goal.returns-clause-comes
unfolding derive
returns-clause-comes c = c.derive.ensures.comes (suc c.args.place) (omega arith)

-- `byte_of` joins the halves of two digits; where either is no digit, the two stand for no byte.
use Rattle.text.specs.Laws.Halves.{is_half, both_halves, high_missing, low_missing}
use Rattle.text.proofs.hex.byte_of.Goals as goal

pub returns-in_err-first : goal.returns-in_err-first
returns-in_err-first c = rw c.from_residual.ensures (high_missing c.args.low c.in_err-first.ensures)

pub returns-in_err-second : goal.returns-in_err-second
returns-in_err-second c = rw c.from_residual-in_err-second.ensures (low_missing c.args.high c.in_err-second.ensures)

pub returns : goal.returns
returns c = both_halves (is_half c.in_ok-first.ensures) (is_half c.in_ok-second.ensures)

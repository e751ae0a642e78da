-- `match_job` lays down what `fits` tells: its one outcome in a room of the size that is lent.
use native.Mathlib.Omega.{arith}
use Rattle.answers.specs.declared.Match.TheVariants.{Yes, No, Refused}
use Rattle.text.specs.Ascii.{ascii}
use Rattle.jobtext.specs.Laws.Judging.{match_laid}
use Rattle.jobtext.proofs.judging.match_job.Goals as goal

pub returns-in-Yes : goal.returns-in-Yes
unfolding ascii
returns-in-Yes c = match_laid c.fits.ensures (omega arith) (Yes _ _) c.in-Yes.is c.lay_match.ensures

pub returns-in-No : goal.returns-in-No
unfolding ascii
returns-in-No c = match_laid c.fits.ensures (omega arith) (No _ _) c.in-No.is c.lay_match-in-No.ensures

pub returns-in-Refused : goal.returns-in-Refused
returns-in-Refused c = match_laid c.fits.ensures (omega arith) (Refused _ _ _) c.in-Refused.is c.lay_refusal.ensures

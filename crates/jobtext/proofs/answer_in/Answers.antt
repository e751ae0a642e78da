-- `answer_in` lays down the answer to the job that is read, and refuses by 12 where none is.
use native.Mathlib.Omega.{arith}
use mathlib.Core.Path.{◌∙◌, ap}
use Rattle.std.proofs.Common.{Some}
use Rattle.jobtext.specs.Laws.Answering.{comparison_there, match_there, comparison_answered, match_answered, nothing_answered}
use Rattle.jobtext.proofs.answer_in.Goals as goal

pub slice_bounds-compare_job-end : goal.slice_bounds-compare_job-end
slice_bounds-compare_job-end c = omega (arith, (comparison_there c.read_job.ensures (c.in-Some-Compare.is ∙ ap Some c.in-Some-Compare.field-0-is)).left_room, c.told-left)

pub slice_bounds-compare_job-end-in-Some-Compare : goal.slice_bounds-compare_job-end-in-Some-Compare
slice_bounds-compare_job-end-in-Some-Compare c = omega (arith, (comparison_there c.read_job.ensures (c.in-Some-Compare.is ∙ ap Some c.in-Some-Compare.field-0-is)).second_room, c.told-second)

pub slice_bounds-match_job-end : goal.slice_bounds-match_job-end
slice_bounds-match_job-end c = omega (arith, (match_there c.read_job.ensures (c.in-Some-Match.is ∙ ap Some c.in-Some-Match.field-0-is)).left_room, c.told-left)

pub slice_bounds-match_job-end-in-Some-Match : goal.slice_bounds-match_job-end-in-Some-Match
slice_bounds-match_job-end-in-Some-Match c = omega (arith, (match_there c.read_job.ensures (c.in-Some-Match.is ∙ ap Some c.in-Some-Match.field-0-is)).second_room, c.told-second)

pub returns-in-Some-Compare : goal.returns-in-Some-Compare
returns-in-Some-Compare c = comparison_answered c.read_job.ensures (c.in-Some-Compare.is ∙ ap Some c.in-Some-Compare.field-0-is) c.requires.text_short c.compare_job.ensures

pub returns-in-Some-Match : goal.returns-in-Some-Match
returns-in-Some-Match c = match_answered c.read_job.ensures (c.in-Some-Match.is ∙ ap Some c.in-Some-Match.field-0-is) c.requires.text_short c.match_job.ensures

pub returns-in-None : goal.returns-in-None
returns-in-None c = nothing_answered c.read_job.ensures c.in-None.is (rw c.number.ensures at c.lay_refusal.ensures)

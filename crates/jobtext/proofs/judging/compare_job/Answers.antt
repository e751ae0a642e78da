-- `compare_job` lays down what `compare` tells: its one outcome in rooms of the sizes that are lent.
use native.Mathlib.Omega.{arith}
use Rattle.jobtext.specs.Laws.Judging.{word_inside, comparison_laid}
use Rattle.jobtext.proofs.judging.compare_job.Goals as goal

pub lay_comparison-requires : goal.lay_comparison-requires
lay_comparison-requires c =
    record { most_answer_in_bounds = c.requires; word_told_length = word_inside c.compare-answer.result c.compare-answer.ensures }

pub returns : goal.returns
returns c =
    comparison_laid c.compare-answer.result c.compare-answer.ensures (record { work_size = omega arith; pairs_size = omega arith; word_size = omega arith })
    c.lay_comparison.ensures

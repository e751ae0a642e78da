-- `put_three_counts` lays down the pairs' line, then the other two.
use Rattle.text.specs.Ascii.{ascii}
use Rattle.jobtext.specs.Answer.{three_counts}
use Rattle.text.specs.Laws.Writing.{put_both}
use Rattle.jobtext.proofs.answering.put_three_counts.Goals as goal

pub returns-clause-puts : goal.returns-clause-puts
unfolding ascii three_counts
returns-clause-puts c = put_both c.number.ensures.puts c.put_two_counts.ensures.puts

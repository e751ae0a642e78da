-- `put_two_counts` lays down one line behind the other.
use Rattle.text.specs.Ascii.{ascii}
use Rattle.jobtext.specs.Answer.{two_counts}
use Rattle.text.specs.Laws.Writing.{put_both}
use Rattle.jobtext.proofs.answering.put_two_counts.Goals as goal

pub returns-clause-puts : goal.returns-clause-puts
unfolding ascii two_counts
returns-clause-puts c = put_both c.number.ensures.puts c.number-2.ensures.puts

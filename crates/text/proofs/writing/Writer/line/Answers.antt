-- `line` lays down the name, the value and a line feed, one behind the other.
use Rattle.text.specs.Laws.Writing.{put_both}
use Rattle.text.proofs.writing.Writer.line.Goals as goal

pub returns-clause-puts : goal.returns-clause-puts
returns-clause-puts c = put_both (put_both c.put.ensures.puts c.put-2.ensures.puts) c.put-3.ensures.puts

-- `pass` tests whether what is left of the text starts with the piece.
use Rattle.text.specs.Laws.Reading.{piece_passed, piece_missing}
use Rattle.text.proofs.reading.Reader.pass.Goals as goal

pub returns-then-not-starts_with-clause-passes : goal.returns-then-not-starts_with-clause-passes
returns-then-not-starts_with-clause-passes c =
    let s = c.args.self.now in
    piece_missing s.text.now s.at c.args.piece.now c.starts_with.ensures.value c.if-not-starts_with.true

pub returns-clause-passes : goal.returns-clause-passes
returns-clause-passes c =
    let s = c.args.self.now in
    piece_passed s.text.now s.at c.args.piece.now c.starts_with.ensures.value s.inside c.if-not-starts_with.false

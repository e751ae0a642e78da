-- The measure is the number, whose tenth part is lower.
use Rattle.text.proofs.writing.Writer.+decimal.Given as goal

abbrev pub decreases-decimal : goal.decreases-decimal
decreases-decimal l = l.n

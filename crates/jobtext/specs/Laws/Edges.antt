-- Edges of answering: a text that is no job's gets 12, and a job whose card lines have no digits gets 1.
use Rattle.std.specs.Prelude.{List, [], refl, ℕ}
use Rattle.std.proofs.Common.{lit≤}
use Rattle.language.specs.Word.{none}
use Rattle.cards.specs.Examine.{pattern_card, examined}
use Rattle.comparing.specs.Compare.{compare_standing, compare_outcome}
use Rattle.text.specs.Ascii.{ascii}
use Rattle.text.specs.Digits.{hex, decimal_to, decimal}
use Rattle.jobform.specs.Form.{compare_job, lines, job_text, well_compare}
use Rattle.jobform.specs.Told.{NoJob}
use Rattle.jobtext.specs.Answer.{answer_text, refused_text}
use Rattle.jobtext.specs.Promise.{Answers, answered, refused_12}

-- What no job has as its text is refused by 12: the laws of the form's edges tell such texts.
pub no_job_refused : {text : List ℕ} → NoJob text → Answers text (refused_text 12)
no_job_refused n = refused_12 (λ j w e l. n.none_has j w e)

-- No digits in the card lines: of the form, and refused by 1.
pub empty_cards : Answers (ascii "job=compare\nleft=\nright=\nbudget=0\n") (ascii "verdict=refused\nreason=1\n")
unfolding ascii job_text lines hex decimal decimal_to answer_text refused_text compare_outcome compare_standing pattern_card examined
empty_cards = answered (compare_job [] [] 0) (well_compare none none (lit≤ tt)) refl (lit≤ tt)

-- One text has one answer and leaves one room: it means one job.
use Rattle.std.specs.Prelude.{ℕ, List, ◌++◌, ◌≡◌, refl, length, drop}
use Rattle.std.proofs.Common.{sym, ◌∙◌, ap, ap₂, take-append-drop, length-take-le}
use Rattle.jobform.specs.Laws.OneJob.{one_job}
use Rattle.jobtext.specs.Answer.{answer_text}
use Rattle.jobtext.specs.Promise.{Answers, answered, refused_12, AnswersIn}

-- One text has one answer.
pub one_answer : {text a b : List ℕ} → Answers text a → Answers text b → a ≡ b
one_answer (answered i v e l) (answered j w f m) = ap answer_text (one_job v w (sym e ∙ f))
one_answer (answered i v e l) (refused_12 n) = absurd (n i v e l)
one_answer (refused_12 n) (answered j w f m) = absurd (n j w f m)
one_answer (refused_12 n) (refused_12 m) = refl

-- One text and one room as lent: the answer has one end, and the room is one afterwards, byte for byte.
pub record SameRoom (to to' : ℕ) (out out' : List ℕ) : Type 0 where
  pub ends : to ≡ to'
  pub room : out ≡ out'

pub one_room : {text lent : List ℕ} {to to' : ℕ} {out out' : List ℕ} → AnswersIn text lent to out → AnswersIn text lent to' out'
    → SameRoom to to' out out'
one_room {text} {lent} {to} {to'} {out} {out'} p q =
    let e = one_answer p.answers q.answers in
    let z = sym (length-take-le to out p.fits) ∙ ap (λ (s : List ℕ). length s) e ∙ length-take-le to' out' q.fits in
    record {
      ends = z;
      room = sym (take-append-drop to out)
          ∙ ap₂ (λ (s t : List ℕ). s ++ t) e (p.rest ∙ ap (λ (n : ℕ). drop n lent) z ∙ sym q.rest)
          ∙ take-append-drop to' out';
    }

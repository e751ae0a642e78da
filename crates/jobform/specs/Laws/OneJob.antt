-- One text means one job: its lines have one reading each, so two well-formed jobs with the same text are the same.
use Rattle.std.specs.Prelude.{ℕ, List, [], ◌++◌, ◌≡◌}
use Rattle.std.proofs.Common.{append_assoc, append-nil, sym, ◌∙◌}
use Rattle.std.proofs.lemmas.List.{append_cancel_left}
use Rattle.language.specs.Word.{Bytes}
use Rattle.text.specs.Ascii.{ascii, line}
use Rattle.text.specs.Digits.{hex, decimal}
use Rattle.text.specs.Laws.Lines.{named_hex_one, named_number_one}
use Rattle.jobform.specs.Form.{Job, compare_job, match_job, lines, job_text, WellFormed, well_compare, well_match}
use Rattle.jobform.specs.Laws.Job.{lines_then, other_job}

-- The lines after the first have one reading, whatever follows them.
pub record SameLines (a b : List ℕ) (m : ℕ) (s c d : List ℕ) (n : ℕ) (t : List ℕ) : Type 0 where
  pub left : a ≡ c
  pub second : b ≡ d
  pub budget : m ≡ n
  pub rest : s ≡ t

lines_one : (name a b : List ℕ) (m : ℕ) (s c d : List ℕ) (n : ℕ) (t : List ℕ) → Bytes a → Bytes b → Bytes c → Bytes d
    → lines name a b m ++ s ≡ lines name c d n ++ t → SameLines a b m s c d n t
lines_one name a b m s c d n t p q r u e =
    let f = named_hex_one (ascii "left=") (line name (hex b) ++ (line (ascii "budget=") (decimal m) ++ s))
    (line name (hex d) ++ (line (ascii "budget=") (decimal n) ++ t)) p r (sym (lines_then name a b m s) ∙ e ∙ lines_then name c d n t) in
    let g = named_hex_one name (line (ascii "budget=") (decimal m) ++ s) (line (ascii "budget=") (decimal n) ++ t) q u f.rest in
    let h = named_number_one (ascii "budget=") s t m n g.rest in
    record { left = f.run; second = g.run; budget = h.number; rest = h.rest }

-- So no job's text begins that of another.
pub record SameJob (i : Job) (s : List ℕ) (j : Job) (t : List ℕ) : Type 0 where
  pub job : i ≡ j
  pub rest : s ≡ t

same_comparison : {a b : List ℕ} {m : ℕ} {s c d : List ℕ} {n : ℕ} {t : List ℕ} → SameLines a b m s c d n t
    → SameJob (compare_job a b m) s (compare_job c d n) t
same_comparison l = let e = l.left in let f = l.second in let g = l.budget in record { job = cc; rest = l.rest }

same_match : {a b : List ℕ} {m : ℕ} {s c d : List ℕ} {n : ℕ} {t : List ℕ} → SameLines a b m s c d n t → SameJob (match_job a b m) s (match_job c d n) t
same_match l = let e = l.left in let f = l.second in let g = l.budget in record { job = cc; rest = l.rest }

-- A first line, the others, and what follows them.
behind_first : (first x s y t : List ℕ) → (first ++ x) ++ s ≡ (first ++ y) ++ t → x ++ s ≡ y ++ t
behind_first first x s y t e = append_cancel_left first (x ++ s) (y ++ t) (sym (append_assoc first x s) ∙ e ∙ append_assoc first y t)

pub job_then : {i j : Job} → WellFormed i → WellFormed j → (s t : List ℕ) → job_text i ++ s ≡ job_text j ++ t → SameJob i s j t
unfolding job_text
job_then (well_compare {left = a} {right = b} {budget = m} p q k) (well_compare {left = c} {right = d} {budget = n} r u l) s t e =
    same_comparison
    (lines_one (ascii "right=") a b m s c d n t p q r u
    (behind_first (ascii "job=compare\n") (lines (ascii "right=") a b m) s (lines (ascii "right=") c d n) t e))
job_then (well_compare {left = a} {right = b} {budget = m} p q k) (well_match {left = c} {word = d} {budget = n} r u l) s t e =
    absurd
    (other_job (lines (ascii "right=") a b m ++ s) (lines (ascii "word=") c d n ++ t)
    (sym (append_assoc (ascii "job=compare\n") (lines (ascii "right=") a b m) s) ∙ e ∙ append_assoc (ascii "job=match\n") (lines (ascii "word=") c d n) t))
job_then (well_match {left = a} {word = b} {budget = m} p q k) (well_compare {left = c} {right = d} {budget = n} r u l) s t e =
    absurd
    (other_job (lines (ascii "right=") c d n ++ t) (lines (ascii "word=") a b m ++ s)
    (sym (append_assoc (ascii "job=compare\n") (lines (ascii "right=") c d n) t) ∙ sym e
    ∙ append_assoc (ascii "job=match\n") (lines (ascii "word=") a b m) s))
job_then (well_match {left = a} {word = b} {budget = m} p q k) (well_match {left = c} {word = d} {budget = n} r u l) s t e =
    same_match
    (lines_one (ascii "word=") a b m s c d n t p q r u
    (behind_first (ascii "job=match\n") (lines (ascii "word=") a b m) s (lines (ascii "word=") c d n) t e))

-- One text means one job.
pub one_job : {i j : Job} → WellFormed i → WellFormed j → job_text i ≡ job_text j → i ≡ j
one_job {i} {j} v w e = (job_then v w [] [] (append-nil (job_text i) ∙ e ∙ sym (append-nil (job_text j)))).job

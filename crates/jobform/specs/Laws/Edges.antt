-- Edges of the form, each from its definition alone: a text that goes on or is cut short, one with a carriage return, a capital, a space or a sign, and one
-- with a bad card line or a bad budget line are no job's.
use Rattle.std.specs.Prelude.{ℕ, ◌/◌, ◌%◌, ◌<◌, ◌≤◌, Bool, true, false, ◌&&◌, ◌||◌, List, [], ◌∷◌, ◌++◌, ◌≡◌, refl, eqb, leb}
use Rattle.std.proofs.Common.{arith, append-nil, sym, ◌∙◌, ap, subst, eqb-true, leb-true}
use Rattle.std.proofs.lemmas.List.{append_cancel_left}
use Rattle.language.specs.Word.{Over, none, one, Bytes}
use Rattle.language.proofs.Laws.Words.{back_over, over_join, over_wider}
use Rattle.language.proofs.Laws.Tests.{and_left, and_right}
use Rattle.text.specs.Ascii.{ascii, line_feed, line}
use Rattle.text.specs.Digits.{hex_digit, hex, decimal}
use Rattle.text.specs.Laws.Runs.{line_then}
use Rattle.text.specs.Laws.Hex.{WhichDigit, is_low, is_high, which_digit, NoHexLine}
use Rattle.text.specs.Laws.Decimal.{decimal_digits}
use Rattle.text.specs.Laws.Lines.{NoNumberLine, named_hex_one}
use Rattle.jobform.specs.Form.{Job, compare_job, match_job, lines, job_text, WellFormed, well_compare, well_match}
use Rattle.refusals.specs.Limits.{most_budget}
use Rattle.jobform.specs.Told.{NoJob}
use Rattle.jobform.specs.Laws.Job.{lines_split, other_job}
use Rattle.jobform.specs.Laws.OneJob.{job_then}

-- A text that goes on behind its last line, and one that is cut short.
pub more_behind_job : {j : Job} → WellFormed j → (c : ℕ) (s : List ℕ) → NoJob (job_text j ++ c ∷ s)
more_behind_job {j} w c s =
    record {
      none_has = λ i v e.
          let f = (job_then w v (c ∷ s) [] (e ∙ sym (append-nil (job_text i)))).rest in
          let z : ◌≡◌ {A = ℕ} 0 1 = cc in
          omega arith;
    }

pub cut_short : {j : Job} → WellFormed j → (s : List ℕ) (c : ℕ) (t : List ℕ) → job_text j ≡ s ++ c ∷ t → NoJob s
cut_short {j} w s c t e =
    record {
      none_has = λ i v f.
          let g = (job_then v w (c ∷ t) [] (ap (λ (x : List ℕ). x ++ c ∷ t) (sym f) ∙ sym e ∙ sym (append-nil (job_text j)))).rest in
          let z : ◌≡◌ {A = ℕ} 0 1 = cc in
          omega arith;
    }

-- The characters of a job's text: line feeds, the sign `=`, digits and small letters.
pub data Printed (c : ℕ) : Type 0 where
  feed : c ≡ line_feed → Printed c
  equals : c ≡ 61 → Printed c
  digit : 48 ≤ c → c ≤ 57 → Printed c
  letter : 97 ≤ c → c ≤ 122 → Printed c

-- The same as a test, which is computed of the names and the first lines.
is_printed : ℕ → Bool
is_printed c = eqb c line_feed || eqb c 61 || leb 48 c && leb c 57 || leb 97 c && leb c 122

all_printed : List ℕ → Bool
all_printed [] = true
all_printed (c ∷ s) = is_printed c && all_printed s

printed_tested : (c : ℕ) → is_printed c ≡ true → Printed c
unfolding is_printed
printed_tested c e = go (eqb c line_feed) refl (eqb c 61) refl (leb 48 c && leb c 57) refl e
  where
    go : (p : Bool) → eqb c line_feed ≡ p → (q : Bool) → eqb c 61 ≡ q → (r : Bool) → leb 48 c && leb c 57 ≡ r
        → p || q || r || leb 97 c && leb c 122 ≡ true → Printed c
    go true f q g r h t = feed (eqb-true c line_feed f)
    go false f true g r h t = equals (eqb-true c 61 g)
    go false f false g true h t = digit (leb-true 48 c (and_left (leb 48 c) (leb c 57) h)) (leb-true c 57 (and_right (leb 48 c) (leb c 57) h))
    go false f false g false h t = letter (leb-true 97 c (and_left (leb 97 c) (leb c 122) t)) (leb-true c 122 (and_right (leb 97 c) (leb c 122) t))

all_tested : (s : List ℕ) → all_printed s ≡ true → Over Printed s
unfolding all_printed
all_tested [] e = none
all_tested (c ∷ s) e =
    one (printed_tested c (and_left (is_printed c) (all_printed s) e)) (all_tested s (and_right (is_printed c) (all_printed s) e))

digit_printed : {h : ℕ} → WhichDigit h → h < 16 → Printed (hex_digit h)
digit_printed (is_low l e) m = digit (omega arith) (omega arith)
digit_printed (is_high l e) m = letter (omega arith) (omega arith)

hex_printed : {a : List ℕ} → Bytes a → Over Printed (hex a)
unfolding hex
hex_printed none = none
hex_printed (one {c = c} l b) =
    one (digit_printed (which_digit (c / 16)) (omega arith)) (one (digit_printed (which_digit (c % 16)) (omega arith)) (hex_printed b))

decimal_printed : (n : ℕ) → Over Printed (decimal n)
decimal_printed n = over_wider (λ c d. digit d.least d.most) (decimal_digits n)

line_printed : {name value : List ℕ} → Over Printed name → Over Printed value → Over Printed (line name value)
line_printed p q = over_join (over_join p q) (one (feed refl) none)

lines_printed : {name a b : List ℕ} (n : ℕ) → Over Printed name → Bytes a → Bytes b → Over Printed (lines name a b n)
unfolding lines ascii is_printed all_printed
lines_printed n p q r =
    over_join (over_join (line_printed (all_tested (ascii "left=") refl) (hex_printed q)) (line_printed p (hex_printed r)))
    (line_printed (all_tested (ascii "budget=") refl) (decimal_printed n))

pub job_printed : {j : Job} → WellFormed j → Over Printed (job_text j)
unfolding job_text ascii is_printed all_printed
job_printed (well_compare {budget = n} p q l) =
    over_join (all_tested (ascii "job=compare\n") refl) (lines_printed n (all_tested (ascii "right=") refl) p q)
job_printed (well_match {budget = n} p q l) =
    over_join (all_tested (ascii "job=match\n") refl) (lines_printed n (all_tested (ascii "word=") refl) p q)

-- A text with any other character in it.
first_printed : {c : ℕ} {s : List ℕ} → Over Printed (c ∷ s) → Printed c
first_printed (one p o) = p

pub other_character : (s : List ℕ) (c : ℕ) (t : List ℕ) → (Printed c → ⊥) → NoJob (s ++ c ∷ t)
other_character s c t n =
    record { none_has = λ j w e. n (first_printed (back_over s (c ∷ t) (subst (λ (x : List ℕ). Over Printed x) (sym e) (job_printed w)))) }

-- A carriage return, a space, the two signs, a capital.
unprinted : {c : ℕ} → Printed c → (c ≡ line_feed → ⊥) → (c ≡ 61 → ⊥) → (48 ≤ c → 57 < c) → c < 97 → ⊥
unprinted (feed e) n m d l = n e
unprinted (equals e) n m d l = m e
unprinted (digit k h) n m d l = let z = d k in omega arith
unprinted (letter k h) n m d l = omega arith

pub carriage_return : Printed 13 → ⊥
carriage_return p = unprinted p (λ e. omega arith) (λ e. omega arith) (λ l. absurd (omega arith)) (omega arith)

pub space : Printed 32 → ⊥
space p = unprinted p (λ e. omega arith) (λ e. omega arith) (λ l. absurd (omega arith)) (omega arith)

pub plus : Printed 43 → ⊥
plus p = unprinted p (λ e. omega arith) (λ e. omega arith) (λ l. absurd (omega arith)) (omega arith)

pub minus : Printed 45 → ⊥
minus p = unprinted p (λ e. omega arith) (λ e. omega arith) (λ l. absurd (omega arith)) (omega arith)

pub capital : (c : ℕ) → 65 ≤ c → c ≤ 90 → Printed c → ⊥
capital c l m p = unprinted p (λ e. omega arith) (λ e. omega arith) (λ k. omega arith) (omega arith)

-- A comparison with a first card line, or a budget line, that is none.
no_lines : {s : List ℕ} → ((a b : List ℕ) (n : ℕ) → Bytes a → Bytes b → n ≤ most_budget → s ≡ lines (ascii "right=") a b n → ⊥) → (j : Job)
    → WellFormed j → ascii "job=compare\n" ++ s ≡ job_text j → ⊥
unfolding job_text
no_lines {s} f (compare_job a b n) (well_compare p q l) e = f a b n p q l (append_cancel_left (ascii "job=compare\n") s (lines (ascii "right=") a b n) e)
no_lines {s} f (match_job a b n) (well_match p q l) e = other_job s (lines (ascii "word=") a b n) e

pub bad_card : {s : List ℕ} → NoHexLine s → NoJob (ascii "job=compare\n" ++ (ascii "left=" ++ s))
bad_card {s} f =
    record {
      none_has = no_lines
          (λ a b n p q m g.
          let rest = line (ascii "right=") (hex b) ++ (line (ascii "budget=") (decimal n) ++ []) in
          f.none_read a rest p
          (append_cancel_left (ascii "left=") s (hex a ++ line_feed ∷ rest)
          (g ∙ lines_split (ascii "right=") a b n ∙ line_then (ascii "left=") (hex a) rest)));
    }

pub bad_budget : {a b s : List ℕ} → Bytes a → Bytes b → NoNumberLine most_budget s
    → NoJob (ascii "job=compare\n" ++ (line (ascii "left=") (hex a) ++ (line (ascii "right=") (hex b) ++ (ascii "budget=" ++ s))))
bad_budget {a} {b} {s} p q f =
    record {
      none_has = no_lines
          (λ c d n r t m g.
          let last = line (ascii "budget=") (decimal n) ++ [] in
          let h = named_hex_one (ascii "left=") (line (ascii "right=") (hex b) ++ (ascii "budget=" ++ s)) (line (ascii "right=") (hex d) ++ last) p r
          (g ∙ lines_split (ascii "right=") c d n) in
          let k = named_hex_one (ascii "right=") (ascii "budget=" ++ s) last q t h.rest in
          f.none_read n [] m
          (append_cancel_left (ascii "budget=") s (decimal n ++ line_feed ∷ []) (k.rest ∙ line_then (ascii "budget=") (decimal n) [])));
    }

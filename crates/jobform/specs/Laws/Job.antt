-- A job's text has one reading, line by line: so what the lines' readers answer, one behind the other, is the job, or there is none.
use Rattle.std.specs.Prelude.{ℕ, ◌<◌, ◌≤◌, ◌≡◌, length, take, drop, Some, None}
use Rattle.std.proofs.Common.{arith, sym, ◌∙◌, ap₂, subst, length-drop, drop_of_length-le}
use mathlib.Core.List.{List, [], ◌++◌, append_assoc, append-nil, append_cancel_left}
use Rattle.std.proofs.Math.Path.{ap}
use Rattle.language.specs.Word.{Bytes}
use Rattle.text.specs.Ascii.{ascii, line}
use Rattle.text.specs.Digits.{hex, decimal}
use Rattle.text.specs.Told.{Passes, ReadsHexLine, ReadsNumberLine}
use Rattle.text.specs.Laws.Runs.{cons_one}
use Rattle.text.specs.Laws.Reading.{PassedTo, passed_not}
use Rattle.text.specs.Laws.Lines.{HexIs, NumberIs, hex_is_not, number_is_not, hex_behind, number_behind}
use Rattle.jobform.specs.declared.Lines.{Lines}
use Rattle.jobform.specs.declared.Job.{Job as CodeJob}
use Rattle.jobform.specs.declared.Job.TheVariants.{Compare, Match}
use Rattle.jobform.specs.Form.{Job, compare_job, match_job, lines, job_text, WellFormed, well_compare, well_match}
use Rattle.refusals.specs.Limits.{most_budget}
use Rattle.jobform.specs.Told.{ReadsLines, reads_lines, reads_no_lines, NoJob, Reads, reads_compare, reads_match, reads_no_job}

-- The lines after the first, one behind the other, and what follows them.
pub lines_then : (name a b : List ℕ) (n : ℕ) (rest : List ℕ)
    → lines name a b n ++ rest ≡ line (ascii "left=") (hex a) ++ (line name (hex b) ++ (line (ascii "budget=") (decimal n) ++ rest))
unfolding lines
lines_then name a b n rest =
    append_assoc (line (ascii "left=") (hex a) ++ line name (hex b)) (line (ascii "budget=") (decimal n)) rest
    ∙ append_assoc (line (ascii "left=") (hex a)) (line name (hex b)) (line (ascii "budget=") (decimal n) ++ rest)

pub lines_split : (name a b : List ℕ) (n : ℕ)
    → lines name a b n ≡ line (ascii "left=") (hex a) ++ (line name (hex b) ++ (line (ascii "budget=") (decimal n) ++ []))
lines_split name a b n = sym (append-nil (lines name a b n)) ∙ lines_then name a b n []

pub no_first_line : {text : List ℕ} {from to : ℕ} {name left left' second' : List ℕ} → ReadsHexLine text from (ascii "left=") None to left
    → ReadsLines text from name None left' second'
no_first_line {name = name} h =
    reads_no_lines
    (λ a b n p q l f. hex_is_not h a (line name (hex b) ++ (line (ascii "budget=") (decimal n) ++ [])) p (f ∙ lines_split name a b n))

after_first : {text : List ℕ} {from : ℕ} (name : List ℕ) {left : List ℕ} {l after : ℕ} → HexIs text from (ascii "left=") left l after
    → (a b : List ℕ) (n : ℕ) → Bytes a → drop from text ≡ lines name a b n
    → drop after text ≡ line name (hex b) ++ (line (ascii "budget=") (decimal n) ++ [])
after_first name first a b n p f =
    hex_behind first a (line name (hex b) ++ (line (ascii "budget=") (decimal n) ++ [])) p (f ∙ lines_split name a b n)

after_second : {text : List ℕ} {from : ℕ} {name left second : List ℕ} {l s after last : ℕ} → HexIs text from (ascii "left=") left l after
    → HexIs text after name second s last → (a b : List ℕ) (n : ℕ) → Bytes a → Bytes b → drop from text ≡ lines name a b n
    → drop last text ≡ line (ascii "budget=") (decimal n) ++ []
after_second {name = name} first next a b n p q f =
    hex_behind next b (line (ascii "budget=") (decimal n) ++ []) q (after_first name first a b n p f)

module _ {text : List ℕ} {from : ℕ} {name left : List ℕ} {l after : ℕ} (first : HexIs text from (ascii "left=") left l after) where
  pub no_second_line : {to : ℕ} {second left' second' : List ℕ} → ReadsHexLine text after name None to second
      → ReadsLines text from name None left' second'
  no_second_line h =
      reads_no_lines (λ a b n p q m f. hex_is_not h b (line (ascii "budget=") (decimal n) ++ []) q (after_first name first a b n p f))

  pub no_budget_line : {second : List ℕ} {s last to : ℕ} {left' second' : List ℕ} → HexIs text after name second s last
      → ReadsNumberLine text last (ascii "budget=") most_budget None to → ReadsLines text from name None left' second'
  no_budget_line next h = reads_no_lines (λ a b n p q m f. number_is_not h n [] m (after_second first next a b n p q f))

  pub more_behind : {second : List ℕ} {s last budget end : ℕ} {left' second' : List ℕ} → HexIs text after name second s last
      → NumberIs text last (ascii "budget=") most_budget budget end → end < length text → ReadsLines text from name None left' second'
  more_behind {end = end} next h m =
      reads_no_lines
      (λ a b n p q k f.
      let e = ap (λ (x : List ℕ). length x) (number_behind h n [] (after_second first next a b n p q f)) in
      omega (arith, length-drop end text))

  pub all_lines : {second : List ℕ} {s last budget end : ℕ} → HexIs text after name second s last
      → NumberIs text last (ascii "budget=") most_budget budget end → length text ≤ end
      → ReadsLines text from name (Some (record { left = l; second = s; budget = budget })) left second
  all_lines {second} {s} {budget = budget} next h m =
      reads_lines first.in_room next.in_room first.bytes next.bytes h.small
      (first.read
      ∙ ap (λ (x : List ℕ). line (ascii "left=") (hex (take l left)) ++ x) (next.read
      ∙ ap (λ (x : List ℕ). line name (hex (take s second)) ++ x) (h.read
      ∙ ap (λ (x : List ℕ). line (ascii "budget=") (decimal budget) ++ x) (drop_of_length-le text m)))
      ∙ sym (lines_split name (take l left) (take s second) budget))

-- The first line says which job it is.
pub record LinesAre (text : List ℕ) (from : ℕ) (name left second : List ℕ) (l s budget : ℕ) : Type 0 where
  pub left_room : l ≤ length left
  pub second_room : s ≤ length second
  pub left_bytes : Bytes (take l left)
  pub second_bytes : Bytes (take s second)
  pub small : budget ≤ most_budget
  pub read : drop from text ≡ lines name (take l left) (take s second) budget

module _ {text : List ℕ} {from : ℕ} {name left second : List ℕ} where
  pub lines_are : {h : Lines} → ReadsLines text from name (Some h) left second → LinesAre text from name left second h.left h.second h.budget
  lines_are (reads_lines p q r t u v) = record { left_room = p; second_room = q; left_bytes = r; second_bytes = t; small = u; read = v }

  pub lines_are_not : ReadsLines text from name None left second → (a b : List ℕ) (n : ℕ) → Bytes a → Bytes b → n ≤ most_budget
      → drop from text ≡ lines name a b n → ⊥
  lines_are_not (reads_no_lines f) = f

-- The two first lines differ in their fifth character.
pub other_job : (s t : List ℕ) → ascii "job=compare\n" ++ s ≡ ascii "job=match\n" ++ t → ⊥
unfolding ascii
other_job s t e =
    let f = (cons_one (cons_one (cons_one (cons_one (cons_one e).rest).rest).rest).rest).first in
    omega arith

module _ {text : List ℕ} {at : ℕ} where
  pub a_comparison : {left second : List ℕ} {l s budget : ℕ} → PassedTo text 0 (ascii "job=compare\n") at
      → LinesAre text at (ascii "right=") left second l s budget → Reads text (Some (Compare l s budget)) left second
  unfolding job_text
  a_comparison p k =
      reads_compare k.left_room k.second_room (well_compare k.left_bytes k.second_bytes k.small)
      (p.read ∙ ap (λ (x : List ℕ). ascii "job=compare\n" ++ x) k.read)

  pub a_match : {left second : List ℕ} {l s budget : ℕ} → PassedTo text 0 (ascii "job=match\n") at
      → LinesAre text at (ascii "word=") left second l s budget → Reads text (Some (Match l s budget)) left second
  unfolding job_text
  a_match p k =
      reads_match k.left_room k.second_room (well_match k.left_bytes k.second_bytes k.small)
      (p.read ∙ ap (λ (x : List ℕ). ascii "job=match\n" ++ x) k.read)

  -- No job, since no lines stand behind the first.
  comparison_lines : PassedTo text 0 (ascii "job=compare\n") at
      → ((a b : List ℕ) (n : ℕ) → Bytes a → Bytes b → n ≤ most_budget → drop at text ≡ lines (ascii "right=") a b n → ⊥) → (j : Job) → WellFormed j
      → text ≡ job_text j → ⊥
  unfolding job_text
  comparison_lines p n (compare_job a b m) (well_compare k l s) e =
      n a b m k l s (append_cancel_left (ascii "job=compare\n") (drop at text) (lines (ascii "right=") a b m) (sym p.read ∙ e))
  comparison_lines p n (match_job a b m) (well_match k l s) e = other_job (drop at text) (lines (ascii "word=") a b m) (sym p.read ∙ e)

  match_lines : PassedTo text 0 (ascii "job=match\n") at
      → ((a b : List ℕ) (n : ℕ) → Bytes a → Bytes b → n ≤ most_budget → drop at text ≡ lines (ascii "word=") a b n → ⊥) → (j : Job) → WellFormed j
      → text ≡ job_text j → ⊥
  unfolding job_text
  match_lines p n (compare_job a b m) (well_compare k l s) e = other_job (lines (ascii "right=") a b m) (drop at text) (sym e ∙ p.read)
  match_lines p n (match_job a b m) (well_match k l s) e =
      n a b m k l s (append_cancel_left (ascii "job=match\n") (drop at text) (lines (ascii "word=") a b m) (sym p.read ∙ e))

  pub no_comparison : {left second : List ℕ} → PassedTo text 0 (ascii "job=compare\n") at
      → ReadsLines text at (ascii "right=") None left second → Reads text None left second
  no_comparison p h = reads_no_job (record { none_has = comparison_lines p (lines_are_not h) })

  pub no_match : {left second : List ℕ} → PassedTo text 0 (ascii "job=match\n") at → ReadsLines text at (ascii "word=") None left second
      → Reads text None left second
  no_match p h = reads_no_job (record { none_has = match_lines p (lines_are_not h) })

-- No job, since neither first line stands there.
neither_line : {text : List ℕ} → ((rest : List ℕ) → text ≡ ascii "job=compare\n" ++ rest → ⊥) → ((rest : List ℕ) → text ≡ ascii "job=match\n" ++ rest → ⊥)
    → (j : Job) → WellFormed j → text ≡ job_text j → ⊥
unfolding job_text
neither_line f g (compare_job a b m) (well_compare k l s) e = f (lines (ascii "right=") a b m) e
neither_line f g (match_job a b m) (well_match k l s) e = g (lines (ascii "word=") a b m) e

pub no_job : {text : List ℕ} {at to : ℕ} {left second : List ℕ} → Passes text 0 (ascii "job=compare\n") None at
    → Passes text 0 (ascii "job=match\n") None to → Reads text None left second
no_job f g = reads_no_job (record { none_has = neither_line (passed_not f) (passed_not g) })

-- What is read: the job, whose parts stand at the start of the two rooms.
pub record JobRead (text left second : List ℕ) (l s : ℕ) (j : Job) : Type 0 where
  pub left_room : l ≤ length left
  pub second_room : s ≤ length second
  pub well : WellFormed j
  pub is : text ≡ job_text j

pub comparison_read : {text left second : List ℕ} {j : CodeJob} {l s budget : ℕ} → Reads text (Some j) left second → j ≡ Compare l s budget
    → JobRead text left second l s (compare_job (take l left) (take s second) budget)
comparison_read {text} {left} {second} {l = l} {s} {budget} (reads_compare {l = l'} {s = s'} {budget = b'} p q w e) f =
    let a : l' ≡ l = cc in
    let b : s' ≡ s = cc in
    let c : b' ≡ budget = cc in
    let same = ap₂ (λ (x y : ℕ). compare_job (take x left) (take y second) b') a b ∙ ap (λ (x : ℕ). compare_job (take l left) (take s second) x) c in
    record { left_room = omega arith; second_room = omega arith; well = subst WellFormed same w; is = e ∙ ap job_text same }
comparison_read (reads_match p q w e) f = let z : ◌≡◌ {A = ℕ} 0 1 = cc in absurd (omega arith)

pub match_read : {text left second : List ℕ} {j : CodeJob} {l s budget : ℕ} → Reads text (Some j) left second → j ≡ Match l s budget
    → JobRead text left second l s (match_job (take l left) (take s second) budget)
match_read (reads_compare p q w e) f = let z : ◌≡◌ {A = ℕ} 0 1 = cc in absurd (omega arith)
match_read {text} {left} {second} {l = l} {s} {budget} (reads_match {l = l'} {s = s'} {budget = b'} p q w e) f =
    let a : l' ≡ l = cc in
    let b : s' ≡ s = cc in
    let c : b' ≡ budget = cc in
    let same = ap₂ (λ (x y : ℕ). match_job (take x left) (take y second) b') a b ∙ ap (λ (x : ℕ). match_job (take l left) (take s second) x) c in
    record { left_room = omega arith; second_room = omega arith; well = subst WellFormed same w; is = e ∙ ap job_text same }

pub nothing_read : {text left second : List ℕ} → Reads text None left second → NoJob text
nothing_read (reads_no_job n) = n

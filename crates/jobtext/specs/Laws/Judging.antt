-- What the two calls promise, as the answer's text: a call's one outcome is what it tells, and its word stands at the start of the word room.
use Rattle.std.specs.Prelude.{ℕ, ◌-◌, ◌≤◌, Bool, ◌≡◌, refl, length, take, drop}
use Rattle.std.proofs.Common.{arith, sym, ◌∙◌, ap₂, length-append, length-take-le}
use mathlib.Core.List.{List}
use Rattle.std.proofs.Math.Path.{ap, subst}
use Rattle.std.proofs.Math.Seq.{take-append_seam}
use Rattle.language.specs.Language.{Language}
use Rattle.matching.specs.Fits.{fits_outcome}
use Rattle.answers.specs.Matching.{told as told-match}
use Rattle.matching.specs.Promise.{Fits}
use Rattle.comparing.specs.Compare.{Outcome, compare_outcome}
use Rattle.answers.specs.Comparing.{Verdict, are_different, Told, told}
use Rattle.comparing.specs.Promise.{TrueVerdict, same_true, different_true, short_true, refused_true, Compares}
use Rattle.answers.specs.declared.Match.{Match}
use Rattle.answers.specs.declared.Comparison.{Comparison}
use Rattle.answers.specs.declared.Comparison.TheVariants.{Same, Different, Refused, WordRoomShort}
use Rattle.jobform.specs.Form.{compare_job, match_job}
use Rattle.jobtext.specs.Answer.{lent_work, lent_pairs, lent_word, side, different_text, comparison_text, match_text, answer_text}
use Rattle.jobtext.specs.Told.{Lent, Lays, word_told, told_text}

-- A match: the text of what it tells is the job's answer.
pub match_laid : {left word work : List ℕ} {budget : ℕ} {m : Match} {work' lent : List ℕ} {to : ℕ} {out : List ℕ}
    → Fits left word work budget m work' → length work ≡ lent_work → (x : Match) → m ≡ x
    → Lays lent (match_text (told-match x)) to out → Lays lent (answer_text (match_job left word budget)) to out
unfolding answer_text
match_laid {left} {word} {budget = budget} {m = m} {lent = lent} {to} {out} f n x e lay =
    subst (λ (text : List ℕ). Lays lent text to out)
    (ap (λ (y : Match). match_text (told-match y)) (sym e) ∙ ap match_text f.tells
    ∙ ap (λ (size : ℕ). match_text (fits_outcome left word size budget).tells) n)
    lay

-- The outcome in rooms that are lent.
abbrev pub outcome_in : List ℕ → List ℕ → List ℕ → List ℕ → List ℕ → ℕ → Outcome
outcome_in left right work pairs word budget = compare_outcome left right (length work) (length pairs) (length word) budget

same_outcome : (left right : List ℕ) {work pairs word : List ℕ} (budget : ℕ) → Lent work pairs word
    → outcome_in left right work pairs word budget ≡ compare_outcome left right lent_work lent_pairs lent_word budget
same_outcome left right {work} {pairs} {word} budget l =
    ap (λ (n : ℕ). compare_outcome left right n (length pairs) (length word) budget) l.work_size
    ∙ ap₂ (λ (m n : ℕ). compare_outcome left right lent_work m n budget) l.pairs_size l.word_size

-- The word of a difference is as long as is told, and fits its room.
record WordIs (n room : ℕ) (written : List ℕ) : Type 0 where
  long : n ≡ length written
  fits : length written ≤ room

word_is : {A B : Language} {pairs room : ℕ} {written : List ℕ} {v : Verdict} {n : ℕ} {h : Bool} → TrueVerdict A B pairs room written v
    → v ≡ are_different n h → WordIs n room written
word_is (same_true q) e = let z : ◌≡◌ {A = ℕ} 0 1 = cc in absurd (omega arith)
word_is (different_true w l) e = record { long = cc; fits = l }
word_is (short_true w h f l) e = let z : ◌≡◌ {A = ℕ} 0 1 = cc in absurd (omega arith)
word_is refused_true e = let z : ◌≡◌ {A = ℕ} 0 1 = cc in absurd (omega arith)

record WordStands (n : ℕ) (word' written : List ℕ) : Type 0 where
  inside : n ≤ length word'
  stands : take n word' ≡ written

word_stands : {left right work pairs word : List ℕ} {budget n : ℕ} {h : Bool} {p pl v : ℕ} {work' pairs' word' : List ℕ}
    → Compares left right work pairs word budget (Different n h p pl v) work' pairs' word'
    → WordStands n word' (outcome_in left right work pairs word budget).written
word_stands {left} {right} {work} {pairs} {word} {budget} {word' = word'} f =
    let o = (outcome_in left right work pairs word budget).written in
    let w = word_is f.means refl in
    let s = f.leaves.word_room in
    let k = ap (λ (x : List ℕ). length x) s in
    let m = w.long in
    record {
      inside = omega (arith, length-append o (drop (length o) word));
      stands = ap (λ (i : ℕ). take i word') m ∙ ap (λ (x : List ℕ). take (length o) x) s ∙ take-append_seam o (drop (length o) word);
    }

-- A comparison: its word stands in the room, and the text of what it tells is the job's answer.
module _ {left right work pairs word : List ℕ} {budget : ℕ} {work' pairs' word' : List ℕ} where
  pub word_inside : (c : Comparison) → Compares left right work pairs word budget c work' pairs' word' → word_told c ≤ length word'
  word_inside (Same p pl v) f = omega arith
  word_inside (Different n h p pl v) f = (word_stands f).inside
  word_inside (Refused n p pl v) f = omega arith
  word_inside (WordRoomShort n p pl v) f = omega arith

  text_told : (c : Comparison) → Compares left right work pairs word budget c work' pairs' word'
      → told_text c word' ≡ comparison_text (told c) (outcome_in left right work pairs word budget).written
  text_told (Same p pl v) f = refl
  text_told (Different n h p pl v) f = ap (λ (w : List ℕ). different_text w (side h) p pl v) (word_stands f).stands
  text_told (Refused n p pl v) f = refl
  text_told (WordRoomShort n p pl v) f = refl

  pub comparison_laid : (c : Comparison) {lent : List ℕ} {to : ℕ} {out : List ℕ}
      → Compares left right work pairs word budget c work' pairs' word' → Lent work pairs word → Lays lent (told_text c word') to out
      → Lays lent (answer_text (compare_job left right budget)) to out
  unfolding answer_text
  comparison_laid c {lent} {to} {out} f l lay =
      subst (λ (text : List ℕ). Lays lent text to out)
      (text_told c f
      ∙ ap (λ (t : Told). comparison_text t (outcome_in left right work pairs word budget).written) f.leaves.tells
      ∙ ap (λ (o : Outcome). comparison_text o.tells o.written) (same_outcome left right budget l))
      lay

-- A text is laid down as the comparison's that the answer is.
pub laid_as : {c : Comparison} (room : List ℕ) {lent : List ℕ} {to : ℕ} {out : List ℕ} (x : Comparison) → c ≡ x → Lays lent (told_text x room) to out
    → Lays lent (told_text c room) to out
laid_as room {lent} {to} {out} x e = subst (λ (y : Comparison). Lays lent (told_text y room) to out) (sym e)

-- The part of the word room that is laid down, from its start up to the length told.
pub from_start : (n : ℕ) (s : List ℕ) → take (n - 0) s ≡ take n s
from_start n s = let z : n - 0 ≡ n = omega arith in ap (λ (i : ℕ). take i s) z

pub word_within : {c : Comparison} {n : ℕ} {h : Bool} {p pl v : ℕ} (room : List ℕ) → c ≡ Different n h p pl v → word_told c ≤ length room → n ≤ length room
word_within room e = subst (λ (k : ℕ). k ≤ length room) (ap (λ (x : Comparison). word_told x) e)

pub word_short : {n : ℕ} (room : List ℕ) → n ≤ length room → length room ≡ lent_word → length (take (n - 0) room) ≤ lent_word
word_short {n} room l m = omega (arith, length-take-le n room l, ap (λ (x : List ℕ). length x) (from_start n room))

pub different_laid : {c : Comparison} {n : ℕ} {h : Bool} {p pl v : ℕ} (room : List ℕ) {lent : List ℕ} {to : ℕ} {out : List ℕ} → c ≡ Different n h p pl v → (s : List ℕ)
    → side h ≡ s → Lays lent (different_text (take (n - 0) room) s p pl v) to out → Lays lent (told_text c room) to out
different_laid {n = n} {h} {p} {pl} {v} room {lent} {to} {out} e s g lay =
    laid_as room (Different n h p pl v) e
    (subst (λ (text : List ℕ). Lays lent text to out) (ap₂ (λ (x y : List ℕ). different_text x y p pl v) (from_start n room) (sym g)) lay)

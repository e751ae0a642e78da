-- The signed cases hold, each computed from the outcome's definition. Each is said again by its patterns and by the whole output that the program prints, and
-- taken out of the list by its number. Document 01's job is proved from text to text: its text is the text of one well-formed job, whose answer is the output
-- printed there.
use Rattle.std.specs.Prelude.{ℕ, zero, suc, ◌≤◌, ◌<◌, Bool, true, ◌&&◌, List, [], ◌∷◌, ◌≡◌, refl, ltb, length, get_or}
use Prim.Native.String.{String}
use Rattle.std.proofs.Common.{arith, sym, ap, ap₂, subst, lit≤, ltb-true}
use Rattle.language.specs.Word.{none as no_letter, one, Bytes}
use Rattle.language.specs.Language.{Pattern, nothing as 𝟘, empty_word as 𝟙}
use Rattle.language.proofs.Laws.Tests.{and_left, and_right}
use Rattle.refusals.specs.Limits.{most_job}
use Rattle.cards.specs.Meaning.{card_pattern}
use Rattle.store.specs.Making.{make}
use Rattle.loading.specs.Loading.{load}
use Rattle.derivative.specs.Derivative.{derive}
use Rattle.answers.specs.declared.Match.TheVariants.{No}
use Rattle.answers.specs.Matching.{told as told-of-match}
use Rattle.answers.specs.Comparing.{told}
use Rattle.matching.specs.Fits.{fits_outcome}
use Rattle.searching.specs.ReadOff.{word_to}
use Rattle.comparing.specs.Compare.{compare_outcome}
use Rattle.text.specs.Ascii.{ascii}
use Rattle.jobform.specs.Form.{Job, compare_job, match_job, job_text, WellFormed, well_compare}
use Rattle.jobtext.specs.Answer.{comparison_text, match_text, answer_text, refused_text, two_counts, same_text, different_text}
use Rattle.jobtext.specs.Promise.{Answers, answered}
use Rattle.signed.specs.Samples.{◌⊕◌, ◌·◌, ◌*, a, b, h, card_of}
use Rattle.signed.specs.Signed.{Case, comparison, match_of, Holds, compared, matched, AllHold, none, more, cases}

-- Every signed case holds.
pub signed : AllHold cases
unfolding card_of card_pattern compare_outcome fits_outcome load make derive word_to ascii
signed =
    more (compared refl refl refl refl)
    (more (compared refl refl refl refl)
    (more (compared refl refl refl refl)
    (more (matched refl refl)
    (more (matched refl refl)
    (more (compared refl refl refl refl)
    (more (compared refl refl refl refl)
    (more (compared refl refl refl refl)
    (more (compared refl refl refl refl)
    (more (compared refl refl refl refl)
    (more (compared refl refl refl refl)
    (more (compared refl refl refl refl) none)))))))))))

-- So many they are.
pub how_many : length cases ≡ 12
how_many = refl

-- A case's job, and the text of the answer signed: a case that holds is answered by it.
abbrev pub job_of : Case → Job
job_of (comparison left right budget answer written) = compare_job (card_of left) (card_of right) budget
job_of (match_of pattern word budget answer) = match_job (card_of pattern) word budget

abbrev pub signed_text : Case → List ℕ
signed_text (comparison left right budget answer written) = comparison_text (told answer) written
signed_text (match_of pattern word budget answer) = match_text (told-of-match answer)

pub signed_answer : {c : Case} → Holds c → answer_text (job_of c) ≡ signed_text c
unfolding answer_text
signed_answer (compared l r t w) = ap₂ comparison_text t w
signed_answer (matched p t) = ap match_text t

-- The case numbered n of a list.
abbrev pub case_at : List Case → ℕ → Case
case_at cs n = get_or cs n (match_of 𝟘 [] 0 (No 0 0))

held : {cs : List Case} → AllHold cs → (n : ℕ) → n < length cs → Holds (case_at cs n)
held none n l = absurd (omega arith)
held (more first rest) zero l = first
held (more first rest) (suc n) l = held rest n (omega arith)

-- What the program prints for the case numbered n.
printed : (n : ℕ) → n < 12 → answer_text (job_of (case_at cases n)) ≡ signed_text (case_at cases n)
printed n l = signed_answer (held signed n l)

-- Two patterns compared, or a pattern and a word, with all that the program prints.
abbrev Compared : Pattern → Pattern → ℕ → String → Type 0
Compared left right budget text = answer_text (compare_job (card_of left) (card_of right) budget) ≡ ascii text

abbrev Matched : Pattern → String → ℕ → String → Type 0
Matched pattern word budget text = answer_text (match_job (card_of pattern) (ascii word) budget) ≡ ascii text

-- Each case by its number, as document 01 writes it.
pub record Printed : Type 0 where
  pub the_job : Compared (a *) (𝟙 ⊕ a · a *) 100 "verdict=same\npairs=2\nplaces=6\nvisits=10\n"
  pub tidied : Compared h (h ⊕ h · h) 100 "verdict=different\nword=6868\nonly=right\npairs=2\nplaces=6\nvisits=9\n"
  pub tidied_short : Compared h (h ⊕ h · h) 8 "verdict=refused\nreason=8\n"
  pub on_aa : Matched ((a *) * · b) "aa" 100 "verdict=no\nplaces=9\nvisits=13\n"
  pub on_aab : Matched ((a *) * · b) "aab" 100 "verdict=yes\nplaces=9\nvisits=21\n"
  pub two_or_one : Compared (a · a) a 100 "verdict=different\nword=61\nonly=right\npairs=1\nplaces=4\nvisits=3\n"
  pub nothing_or_one : Compared (a · 𝟘) a 100 "verdict=different\nword=61\nonly=right\npairs=1\nplaces=3\nvisits=2\n"
  pub with_empty_or_without : Compared (a ⊕ 𝟙) a 100 "verdict=different\nword=\nonly=left\npairs=0\nplaces=4\nvisits=0\n"
  pub repeat_or_nothing : Compared (𝟘 *) 𝟘 100 "verdict=different\nword=\nonly=left\npairs=0\nplaces=3\nvisits=0\n"
  pub empty_or_repeat : Compared 𝟙 (𝟘 *) 100 "verdict=same\npairs=1\nplaces=3\nvisits=0\n"
  pub either_order : Compared (a ⊕ b) (b ⊕ a) 100 "verdict=same\npairs=3\nplaces=5\nvisits=20\n"
  pub once_or_twice : Compared ((a ⊕ a · a) *) (a *) 100 "verdict=same\npairs=3\nplaces=10\nvisits=35\n"

pub all_printed : Printed
unfolding ascii same_text different_text refused_text two_counts
all_printed =
    record {
      the_job = printed 0 (lit≤ tt);
      tidied = printed 1 (lit≤ tt);
      tidied_short = printed 2 (lit≤ tt);
      on_aa = printed 3 (lit≤ tt);
      on_aab = printed 4 (lit≤ tt);
      two_or_one = printed 5 (lit≤ tt);
      nothing_or_one = printed 6 (lit≤ tt);
      with_empty_or_without = printed 7 (lit≤ tt);
      repeat_or_nothing = printed 8 (lit≤ tt);
      empty_or_repeat = printed 9 (lit≤ tt);
      either_order = printed 10 (lit≤ tt);
      once_or_twice = printed 11 (lit≤ tt);
    }

-- The text printed in document 01, and the whole output printed there.
abbrev pub printed_job : List ℕ
printed_job =
    ascii "job=compare\nleft=02610000000000000500010000000000\nright=01000100000000000261000000000000050001000100000004000000010002000300010000000300\nbudget=100\n"

abbrev pub printed_answer : List ℕ
printed_answer = ascii "verdict=same\npairs=2\nplaces=6\nvisits=10\n"

-- The job that it is the text of: `a*` against `1 + a·a*`.
abbrev pub the_job : Job
the_job = job_of (case_at cases 0)

pub printed_is_the_job : job_text the_job ≡ printed_job
unfolding card_of job_text ascii
printed_is_the_job = refl

-- Whether every number of a list is a byte, as a test that is computed.
unfoldable pub is_bytes : List ℕ → Bool
is_bytes [] = true
is_bytes (c ∷ s) = ltb c 256 && is_bytes s

pub bytes_tested : (s : List ℕ) → is_bytes s ≡ true → Bytes s
unfolding is_bytes
bytes_tested [] e = no_letter
bytes_tested (c ∷ s) e = one (ltb-true c 256 (and_left (ltb c 256) (is_bytes s) e)) (bytes_tested s (and_right (ltb c 256) (is_bytes s) e))

well : WellFormed the_job
unfolding is_bytes card_of
well = well_compare (bytes_tested (card_of (a *)) refl) (bytes_tested (card_of (𝟙 ⊕ a · a *)) refl) (lit≤ tt)

short : length printed_job ≤ most_job
unfolding ascii
short = lit≤ tt

pub the_job_is_answered : Answers printed_job printed_answer
the_job_is_answered =
    subst (λ (t : List ℕ). Answers printed_job t) all_printed.the_job (answered the_job well (sym printed_is_the_job) short)

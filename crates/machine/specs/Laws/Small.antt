-- A small machine, to show that the laws hold water: nine states given by a table, two letters, and so many steps to make, after which it stops by 8.
-- From state 0 and from state 3 it accepts the words of any number of `ab`; from state 7 more than one `a` may stand before each `b`. Searches and checks
-- of these states are computed, and the laws of the search and of the checker hold of them.
use Rattle.std.specs.Prelude.{ℕ, zero, suc, ◌+◌, ◌<◌, ◌≤◌, Bool, true, false, ◌&&◌, List, [], ◌∷◌, ◌++◌, ◌⊎◌, ◌≡◌, refl, eqb, get_or}
use Rattle.std.proofs.Common.{le_refl, arith, inl, inr, ⊎_elim, sym, ◌∙◌, ap, eqb-true, eq-eqb}
use mathlib.Core.List.Memᴰ
use Rattle.language.specs.Word.{Word, Over, IsByte, Listed}
use Rattle.language.specs.Language.{Language, EqualOver, Equal}
use Rattle.language.specs.Order.{Before}
use Rattle.language.proofs.Laws.Equality.{equal_refl}
use Rattle.language.proofs.Laws.Rising.{Rising, none_rise, rises}
use Rattle.language.proofs.Laws.Tests.{and_left, and_right, and_both}
use Rattle.answers.specs.Comparing.{word_room_short}
use Rattle.answers.specs.Checking.{at_opening, at_marks, at_letter}
use Rattle.refusals.specs.Numbers.{no_budget_left, no_place_for_pair}
use Rattle.machine.specs.Laws.Machine.{Stepped, stepped, halted, Machine, Sense, StepLaw, was_stepped, was_halted, Lawful}
use Rattle.machine.specs.Laws.Search.{Search, same, different, stopped, search}
use Rattle.machine.specs.Laws.Check.{accepted, rejected, cut_off, check_list}
use Rattle.machine.specs.Laws.Redoing.{Redone, redone, Redoing}
use Rattle.machine.specs.Laws.Price.{Priced, table_cost}
use Rattle.machine.specs.Laws.Keeps.{Halts}
use Rattle.machine.specs.Laws.Again.{AlsoSearch, within_same, answer_again}
use Rattle.machine.specs.Laws.Cost.{same_cost}
use Rattle.machine.specs.Laws.Outcome.{of_search, WordWanted, at_10}
use Rattle.machine.specs.Laws.Enough.{refused_halts}
use Rattle.machine.specs.Laws.Ends.{Marked, Agreed, Ends, ends_same, ends_different, search_law}
use Rattle.machine.specs.Laws.Meaning.{same_over, good_over}
use Rattle.machine.specs.Laws.Pass.{CheckLaw, was_accepted, check_law}

-- The letters a and b.

abbrev pub a : ℕ
a = 97

abbrev pub b : ℕ
b = 98

-- A line of the table: a state's mark, and the states that a and b lead to. Every other letter leads to state 2, where nothing is accepted.
pub record Line : Type 0 where
  pub marked : Bool
  pub by_a : ℕ
  pub by_b : ℕ

abbrev pub dead : Line
dead = record { marked = false; by_a = 2; by_b = 2 }

unfoldable pub lines : List Line
lines =
    record { marked = true; by_a = 1; by_b = 2 }
    ∷ record { marked = false; by_a = 2; by_b = 0 }
    ∷ dead
    ∷ record { marked = true; by_a = 4; by_b = 2 }
    ∷ record { marked = false; by_a = 2; by_b = 5 }
    ∷ record { marked = true; by_a = 6; by_b = 2 }
    ∷ record { marked = false; by_a = 2; by_b = 3 }
    ∷ record { marked = true; by_a = 8; by_b = 2 }
    ∷ record { marked = false; by_a = 8; by_b = 7 }
    ∷ []

-- The state that a letter leads to.
unfoldable pub next : ℕ → ℕ → ℕ
unfolding lines
next c x =
    elim (eqb c a) as (λ _. ℕ) [
      | true ↦ (get_or lines x dead).by_a
      | false ↦ elim (eqb c b) as (λ _. ℕ) [ true ↦ (get_or lines x dead).by_b | false ↦ 2 ]
    ]

unfoldable pub mark_of : ℕ → Bool
unfolding lines
mark_of x = (get_or lines x dead).marked

-- Whether a state accepts a word: the mark where its letters lead.
unfoldable pub runs : ℕ → Word → Bool
unfolding next mark_of
runs x [] = mark_of x
runs x (c ∷ w) = runs (next c x) w

-- A row of its tables.
pub record Row : Type 0 where
  pub left : ℕ
  pub right : ℕ
  pub origin : ℕ
  pub letter : ℕ

-- A step costs one of the steps left.
abbrev pub step_of : ℕ → ℕ → ℕ → Stepped ℕ ℕ
step_of c x zero = halted no_budget_left 0
step_of c x (suc left) = stepped (next c x) left

abbrev pub small : Machine ℕ ℕ Row
small =
    record {
      mark = λ _ x. mark_of x;
      step = step_of;
      row = λ x y origin letter. record { left = x; right = y; origin = origin; letter = letter };
      left = λ r. r.left;
      right = λ r. r.right;
      origin = λ r. r.origin;
      letter = λ r. r.letter;
      no_row = record { left = 0; right = 0; origin = 0; letter = 0 };
      has_states = λ r x y. eqb r.left x && eqb r.right y;
    }

-- No steps are left where it stops, and then by 8.
pub data Spent : ℕ → ℕ → Type 0 where
  all_spent : Spent 0 no_budget_left

abbrev pub small_sense : Sense ℕ ℕ
small_sense =
    record {
      accepts = λ _ x w. runs x w ≡ true;
      Stands = λ _ _. Unit {0};
      Ready = λ _. Unit {0};
      Grows = λ h k. k ≤ h;
      Leads = λ _ c x y. next c x ≡ y;
      Stops = Spent;
    }

-- It is lawful.
pub small_lawful : Lawful small small_sense
unfolding runs
small_lawful =
    record {
      row_left = λ _ _ _ _. refl;
      row_right = λ _ _ _ _. refl;
      row_origin = λ _ _ _ _. refl;
      row_letter = λ _ _ _ _. refl;
      has_states_tells = λ r x y.
          record {
            sound = λ e.
                record {
                  left = eqb-true r.left x (and_left (eqb r.left x) (eqb r.right y) e);
                  right = eqb-true r.right y (and_right (eqb r.left x) (eqb r.right y) e);
                };
            complete = λ s. and_both (eq-eqb r.left x s.left) (eq-eqb r.right y s.right);
          };
      grows_refl = le_refl;
      grows_trans = λ g k. omega arith;
      stands_kept = λ _ _ _. tt;
      mark_kept = λ _ _ _. refl;
      accepts_kept = λ _ x _. equal_refl _;
      leads_kept = λ _ _ _ _ _ _ _ e. e;
      mark_tells = λ _ x _. record { sound = λ e. e; complete = λ e. e };
      leads_means = λ _ c _ x _ y e. leads_on c x y e;
      leads_once = λ c x e f. sym e ∙ f;
      step_law = λ {h} _ c _ x _. steps c x h;
    }
  where
    leads_on : (c x y : ℕ) → next c x ≡ y → Equal (λ w. runs y w ≡ true) (λ w. runs x (c ∷ w) ≡ true)
    leads_on c x y e = rw (← e) (equal_refl _)

    steps : (c x h : ℕ) → StepLaw small_sense h c x (step_of c x h)
    steps c x zero = was_halted (le_refl 0) tt all_spent
    steps c x (suc left) = let less : left ≤ suc left = omega arith in was_stepped less tt tt refl

-- States 0 and 3 allow the same words: five pairs, by twenty steps. With four pairs there is no place for the fifth, with nineteen steps the last is
-- not made.

abbrev pub pair : ℕ → ℕ → ℕ → ℕ → Row
pair x y origin letter = record { left = x; right = y; origin = origin; letter = letter }

unfoldable pub table : List Row
table = pair 0 3 0 0 ∷ pair 1 4 0 a ∷ pair 2 2 0 b ∷ pair 0 5 1 b ∷ pair 1 6 3 a ∷ []

pub same_found : search small 5 (a ∷ b ∷ []) 0 3 100 ≡ same 80 table
unfolding search next mark_of table
same_found = refl

pub no_fifth_pair : search small 4 (a ∷ b ∷ []) 0 3 100 ≡ stopped no_place_for_pair 86 (pair 0 3 0 0 ∷ pair 1 4 0 a ∷ pair 2 2 0 b ∷ pair 0 5 1 b ∷ [])
unfolding search next mark_of
no_fifth_pair = refl

pub one_step_short : search small 5 (a ∷ b ∷ []) 0 3 19 ≡ stopped no_budget_left 0 table
unfolding search next mark_of table
one_step_short = refl

-- State 7 differs from state 0: `aab` is in its language alone. A word room of two bytes is short of one.
pub twice_found : search small 9 (a ∷ b ∷ []) 0 7 100 ≡ different (a ∷ a ∷ b ∷ []) false 84 (pair 0 7 0 0 ∷ pair 1 8 0 a ∷ pair 2 2 0 b ∷ pair 2 8 1 a ∷ [])
unfolding search next mark_of
twice_found = refl

pub word_of_three : (of_search 2 (search small 9 (a ∷ b ∷ []) 0 7 100)).says ≡ word_room_short 10 3
unfolding search next mark_of
word_of_three = refl

pub three_wanted : WordWanted 2 3 (search small 9 (a ∷ b ∷ []) 0 7 100)
three_wanted = at_10 2 3 (search small 9 (a ∷ b ∷ []) 0 7 100) word_of_three

-- The table found is accepted, by as many steps, and cut off with one step less. Without its last pair it fails where that is reached; with a pair of
-- other marks behind it, it fails there; without the opening pair, at once.

pub table_accepted : check_list small (a ∷ b ∷ []) table 0 3 20 ≡ accepted 0
unfolding check_list next mark_of table
table_accepted = refl

pub table_cut_off : check_list small (a ∷ b ∷ []) table 0 3 19 ≡ cut_off no_budget_left 0
unfolding check_list next mark_of table
table_cut_off = refl

pub last_missing : check_list small (a ∷ b ∷ []) (pair 0 3 0 0 ∷ pair 1 4 0 0 ∷ pair 2 2 0 0 ∷ pair 0 5 0 0 ∷ []) 0 3 20 ≡ rejected (at_letter 3 a) 6
unfolding check_list next mark_of
last_missing = refl

pub other_marks : check_list small (a ∷ b ∷ []) (table ++ pair 0 1 0 0 ∷ []) 0 3 21 ≡ rejected (at_marks 5) 1
unfolding check_list next mark_of table
other_marks = refl

pub no_opening : check_list small (a ∷ b ∷ []) table 0 7 20 ≡ rejected at_opening 20
unfolding check_list next mark_of table
no_opening = refl

-- What the laws say of these searches. The letters rise and are bytes.

abbrev letters : List ℕ
letters = a ∷ b ∷ []

either : (c : ℕ) → Listed letters c → (c ≡ a) ⊎ (c ≡ b)
either c m = ⊎_elim (λ e. inl e) (λ k. inr (Memᴰ.eq_of_singleton k)) (Memᴰ.cases_cons m)

bytes : (c : ℕ) → Listed letters c → IsByte c
bytes c m = ⊎_elim (λ e. omega arith) (λ e. omega arith) (either c m)

rising : Rising letters
rising = rises {c = a} above (rises (λ d m. absurd (Memᴰ.not-nil m)) none_rise)
  where
    above : (d : ℕ) → Listed (b ∷ []) d → a < d
    above d m = let e : d ≡ b = Memᴰ.eq_of_singleton m in omega arith

-- The words that a state accepts.
abbrev pub Accepted : ℕ → Language
Accepted x w = runs x w ≡ true

ended : (pairs x y steps : ℕ) → Ends small small_sense pairs letters (Accepted x) (Accepted y) x y steps (search small pairs letters x y steps)
ended pairs x y steps =
    search_law small_lawful pairs letters bytes (Accepted x) (Accepted y) rising {h₀ = steps} tt x y tt tt (equal_refl (Accepted x)) (equal_refl (Accepted y))

-- States 0 and 3 accept the same words of these letters.
pub same_words : EqualOver (Listed (a ∷ b ∷ [])) (λ w. runs 0 w ≡ true) (λ w. runs 3 w ≡ true)
same_words = go (rw same_found at (ended 5 0 3 100))
  where
    go : Ends small small_sense 5 letters (Accepted 0) (Accepted 3) 0 3 100 (same 80 table) → EqualOver (Listed letters) (Accepted 0) (Accepted 3)
    go (ends_same grows ready f fits) = same_over small_lawful bytes {h = 80} tt f

-- `aab` is in the second language alone, and every word of these letters before it is in both or in neither.
pub first_word : Marked (λ w. runs 0 w ≡ true) (λ w. runs 7 w ≡ true) (a ∷ a ∷ b ∷ []) false true
    × ((v : Word) → Over (Listed (a ∷ b ∷ [])) v → Before v (a ∷ a ∷ b ∷ []) → Agreed (λ w. runs 0 w ≡ true) (λ w. runs 7 w ≡ true) v)
first_word = go (rw twice_found at (ended 9 0 7 100))
  where
    go : {w : Word} {t : List Row} → Ends small small_sense 9 letters (Accepted 0) (Accepted 7) 0 7 100 (different w false 84 t)
        → Marked (Accepted 0) (Accepted 7) w false true × ((v : Word) → Over (Listed letters) v → Before v w → Agreed (Accepted 0) (Accepted 7) v)
    go (ends_different grows ready over marked before short fits) = (marked, before)

-- The accepted table says the same as the search did.
pub same_words_checked : EqualOver (Listed (a ∷ b ∷ [])) (λ w. runs 0 w ≡ true) (λ w. runs 3 w ≡ true)
same_words_checked = go (rw table_accepted at (check_law small_lawful rising bytes table 0 3 {h = 20} tt (λ n l. (tt, tt))))
  where
    go : CheckLaw small small_sense letters table 0 3 20 (accepted 0) → EqualOver (Listed letters) (Accepted 0) (Accepted 3)
    go (was_accepted grows ready good) = good_over small_lawful bytes {h = 0} tt (λ n l. (tt, tt)) good

-- A refusal comes at its moment: with nineteen steps none is left, with four pairs a fifth that agrees and is new finds no place.

pub none_left : Halts small small_sense 5 0 table no_budget_left
none_left = rw one_step_short at (refused_halts small_lawful letters bytes 5 0 {h = 19} tt 0 3 tt tt no_budget_left (ap (λ (s : Search ℕ Row). (of_search 0 s).says) one_step_short))

-- Each step costs one, so the table costs twenty steps, and the search spent them.

unfoldable pub small_priced : Priced small small_sense
small_priced =
    record {
      unspent = λ h. h;
      with_unspent = λ h n. n;
      price = λ _ _. 1;
      marks = λ _ _ _. refl;
      price_kept = λ _ _ _. refl;
      paid = λ {h} _ c _ x _ {y} {k} e. one_paid c x h y k e;
      leads_again = λ c x y e rest. rw (one_more rest) (ap (λ (z : ℕ). stepped z rest) e);
    }
  where
    one_more : (n : ℕ) → 1 + n ≡ suc n
    one_more n = omega arith

    one_paid : (c x h y k : ℕ) → step_of c x h ≡ stepped y k → h ≡ 1 + k
    one_paid c x zero y k e = let z : ◌≡◌ {A = ℕ} 0 1 = cc in absurd (omega arith)
    one_paid c x (suc left) y k e = let f : left ≡ k = cc in omega arith

pub twenty_steps : table_cost small_priced (a ∷ b ∷ []) 80 table ≡ 20
unfolding table_cost small_priced table
twenty_steps = refl

pub twenty_spent : small_priced.unspent 100 ≡ table_cost small_priced (a ∷ b ∷ []) 80 table + small_priced.unspent 80
twenty_spent = same_cost small_lawful small_priced 5 letters bytes 0 3 {h = 100} tt tt tt same_found

-- With more steps or fewer it takes the same way, as long as they are enough: what is left at the end is the rest.

pub record Beside (end rest h h' : ℕ) : Type 0 where
  pub pays : h' + end ≡ h + rest

pub small_redoing : (end rest : ℕ) → Redoing small small_sense end (Beside end rest)
small_redoing end rest = record { marks = λ _ _. refl; steps = λ {h} {h'} b _ c _ x _ {y} {k} done g. again c x h h' y k b.pays done g }
  where
    again : (c x h h' y k : ℕ) → h' + end ≡ h + rest → step_of c x h ≡ stepped y k → end ≤ k → Redone (Beside end rest) y k (step_of c x h')
    again c x zero h' y k p d g = let z : ◌≡◌ {A = ℕ} 0 1 = cc in absurd (omega arith)
    again c x (suc h) zero y k p d g = let f : h ≡ k = cc in absurd (omega arith)
    again c x (suc h) (suc h') y k p d g =
        let f : h ≡ k = cc in
        let n : next c x ≡ y = cc in
        let q : h' + end ≡ k + rest = omega arith in
        rw n (redone (record { pays = q }))

-- So with any number of steps beyond twenty, and any pair room of five pairs or more.
pub same_again : (rest pairs' : ℕ) → 5 ≤ pairs' → AlsoSearch (Beside 80 rest) (same 80 table) (search small pairs' (a ∷ b ∷ []) 0 3 (20 + rest))
unfolding table
same_again rest pairs' l =
    let pays : 20 + rest + 80 ≡ 100 + rest = omega arith in
    let enough : Beside 80 rest 100 (20 + rest) = record { pays = pays } in
    answer_again small_lawful letters bytes (small_redoing 80 rest) 5 pairs' {h = 100} tt enough 0 3 tt tt same_found (within_same (record { grows = le_refl 80; fits = l }))

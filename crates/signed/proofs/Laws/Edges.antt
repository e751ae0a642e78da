-- One small call for each number, in each call that has it, at its edge: just refused, and just not. Each is computed from the outcome's definition, so that
-- another number, order, limit or layout, in definition and code alike, is refused here.
use Rattle.std.specs.Prelude.{ℕ, ◌≤◌, true, false, List, [], ◌∷◌, ◌++◌, ◌≡◌, refl, replicate}
use Rattle.std.proofs.Common.{arith, lit≤}
use Rattle.language.specs.Language.{nothing as 𝟘, empty_word as 𝟙}
use Rattle.refusals.specs.Order.{Refused}
use Rattle.records.specs.Record.{record_of, bytes_of, run_of}
use Rattle.store.specs.Room.{laid}
use Rattle.store.specs.Making.{make}
use Rattle.loading.specs.Loading.{load}
use Rattle.derivative.specs.Derivative.{derive}
use Rattle.answers.specs.declared.Match.{Match}
use Rattle.answers.specs.declared.Match.TheVariants.{Yes, No, Refused as NotMatched}
use Rattle.answers.specs.declared.Comparison.{Comparison}
use Rattle.answers.specs.declared.Comparison.TheVariants.{Same, Different, Refused as NotCompared, WordRoomShort}
use Rattle.answers.specs.declared.Checked.{Checked}
use Rattle.answers.specs.declared.Checked.TheVariants.{Accepted, OpeningMissing, MarksDiffer, NotListed, Refused as NotChecked}
use Rattle.answers.specs.Matching.{told as told-of-match}
use Rattle.answers.specs.Comparing.{told as told-of-comparison}
use Rattle.answers.specs.Checking.{told as told-of-check}
use Rattle.matching.specs.Refusals.{standing_of}
use Rattle.matching.specs.Fits.{fits_outcome}
use Rattle.pairs.specs.Pair.{pair_of, bytes_of_pair, run_of_pairs}
use Rattle.pairs.specs.Room.{laid_pairs}
use Rattle.searching.specs.ReadOff.{word_to}
use Rattle.comparing.specs.Compare.{compare_outcome}
use Rattle.checking.specs.Outcome.{check_outcome}
use Rattle.text.specs.Ascii.{ascii}
use Rattle.jobform.specs.Form.{Job, match_job, job_text, WellFormed, well_match}
use Rattle.jobtext.specs.Answer.{answer_text, refused_text}
use Rattle.jobtext.specs.Promise.{Answers, answered, refused_12}
use Rattle.signed.specs.Samples.{◌⊕◌, ◌·◌, ◌*, a, b, card_of}
use Rattle.signed.proofs.Laws.Signed.{is_bytes, bytes_tested}

-- The 8 bytes of a record with small fields.
abbrev bytes : ℕ → ℕ → ℕ → ℕ → ℕ → ℕ → List ℕ
bytes kind letter mark fourth left right = kind ∷ letter ∷ mark ∷ fourth ∷ left ∷ 0 ∷ right ∷ 0 ∷ []

-- Cards that get 2 and 3: `a*` whose repeat is its own child, and `a` with the mark of a yes.
abbrev own_child : List ℕ
own_child = bytes 2 97 0 0 0 0 ++ bytes 5 0 1 0 1 0

abbrev marked_letter : List ℕ
marked_letter = bytes 2 97 1 0 0 0

-- A call of `fits`: card, word, bytes of the work room, budget, and the answer.
abbrev pub Fitting : List ℕ → List ℕ → ℕ → ℕ → Match → Type 0
Fitting card word room budget answer = (fits_outcome card word room budget).tells ≡ told-of-match answer

pub record MatchingEdges : Type 0 where
  -- 1, "card length 0, not a multiple of 8, or too long": no byte, one too many, 512 and 513 records.
  pub no_byte : Fitting [] [] 16 0 (NotMatched 1 0 0)
  pub ninth_byte : Fitting (card_of 𝟘 ++ 0 ∷ []) [] 16 0 (NotMatched 1 0 0)
  pub records_512 : Fitting (replicate 4096 0) [] 32768 0 (No 2 0)
  pub records_513 : Fitting (replicate 4104 0) [] 32768 0 (NotMatched 1 0 0)
  -- 2, "a record breaks the kind table, its fourth byte isn't zero, or a child isn't lower": each where nothing else is wrong; a lower child passes.
  pub sixth_kind : Fitting (bytes 6 0 0 0 0 0) [] 16 0 (NotMatched 2 0 0)
  pub letter_of_nothing : Fitting (bytes 0 1 0 0 0 0) [] 16 0 (NotMatched 2 0 0)
  pub fourth_byte : Fitting (bytes 0 0 0 1 0 0) [] 16 0 (NotMatched 2 0 0)
  pub child_itself : Fitting own_child [] 32 0 (NotMatched 2 0 0)
  pub child_below : Fitting (card_of (a *)) [] 32 0 (Yes 4 0)
  -- 3, "a mark is wrong": of a letter, and a mark of 2. 1 first, 2 before 3 in a record, and record by record.
  pub letter_marked : Fitting marked_letter [] 24 0 (NotMatched 3 0 0)
  pub letter_unmarked : Fitting (card_of a) [] 24 0 (No 3 0)
  pub mark_of_2 : Fitting (bytes 1 0 2 0 0 0) [] 16 0 (NotMatched 3 0 0)
  pub length_first : Fitting (bytes 6 0 0 0 0 0 ++ 0 ∷ []) [] 16 0 (NotMatched 1 0 0)
  pub table_next : Fitting (bytes 2 97 1 1 0 0) [] 16 0 (NotMatched 2 0 0)
  pub record_by_record : Fitting (marked_letter ++ bytes 6 0 0 0 0 0) [] 16 0 (NotMatched 3 0 0)
  -- 4, "word too long": 65,535 and 65,536 bytes. Behind the card, and before 5.
  pub longest_word : Fitting (card_of 𝟘) (replicate 65535 97) 16 0 (NotMatched 8 2 0)
  pub too_long_word : Fitting (card_of 𝟘) (replicate 65536 97) 16 0 (NotMatched 4 0 0)
  pub card_before_word : standing_of marked_letter 65536 0 ≡ Refused 3
  pub word_before_room : standing_of (card_of 𝟘) 65536 0 ≡ Refused 4
  pub room_behind_word : standing_of (card_of 𝟘) 65535 0 ≡ Refused 5
  -- 5, "work room under 16 bytes, over 32,768, or not a multiple of 8".
  pub room_15 : Fitting (card_of 𝟘) [] 15 0 (NotMatched 5 0 0)
  pub smallest_room : Fitting (card_of 𝟘) [] 16 0 (No 2 0)
  pub room_20 : Fitting (card_of 𝟘) [] 20 0 (NotMatched 5 0 0)
  pub room_32768 : Fitting (card_of 𝟘) [] 32768 0 (No 2 0)
  pub room_32776 : Fitting (card_of 𝟘) [] 32776 0 (NotMatched 5 0 0)
  -- 7, "a new record, and no free place": "a letter card gets 7" in 16 bytes, and not in 24.
  pub letter_finds_no_room : Fitting (card_of a) [] 16 100 (NotMatched 7 2 0)
  pub letter_finds_room : Fitting (card_of a) [] 24 100 (No 3 0)
  -- 8, "a visit, and no budget". "Budget 0 with the empty word is judged."
  pub no_budget_no_letter : Fitting (card_of ((a *) * · b)) [] 32768 0 (No 7 0)
  pub one_visit_short : Fitting (card_of ((a *) * · b)) (ascii "aab") 32768 20 (NotMatched 8 9 20)
  pub visits_enough : Fitting (card_of ((a *) * · b)) (ascii "aab") 32768 21 (Yes 9 21)

pub matching_edges : MatchingEdges
unfolding card_of fits_outcome load make derive ascii
matching_edges =
    record {
      no_byte = refl;
      ninth_byte = refl;
      records_512 = refl;
      records_513 = refl;
      sixth_kind = refl;
      letter_of_nothing = refl;
      fourth_byte = refl;
      child_itself = refl;
      child_below = refl;
      letter_marked = refl;
      letter_unmarked = refl;
      mark_of_2 = refl;
      length_first = refl;
      table_next = refl;
      record_by_record = refl;
      longest_word = refl;
      too_long_word = refl;
      card_before_word = refl;
      word_before_room = refl;
      room_behind_word = refl;
      room_15 = refl;
      smallest_room = refl;
      room_20 = refl;
      room_32768 = refl;
      room_32776 = refl;
      letter_finds_no_room = refl;
      letter_finds_room = refl;
      no_budget_no_letter = refl;
      one_visit_short = refl;
      visits_enough = refl;
    }

-- A call of `compare`: both cards, bytes of the work room, the pair room and the word room, budget, and the answer.
abbrev pub Comparing : List ℕ → List ℕ → ℕ → ℕ → ℕ → ℕ → Comparison → Type 0
Comparing left right work pairs word budget answer = (compare_outcome left right work pairs word budget).tells ≡ told-of-comparison answer

pub record ComparingEdges : Type 0 where
  -- 1, of either card: no byte, 512 and 513 records.
  pub no_left : Comparing [] (card_of a) 24 24 0 6 (NotCompared 1 0 0 0)
  pub no_right : Comparing (card_of a) [] 24 24 0 6 (NotCompared 1 0 0 0)
  pub records_512 : Comparing (replicate 4096 0) (replicate 4096 0) 16 8 0 0 (Same 1 2 0)
  pub left_513 : Comparing (replicate 4104 0) (card_of a) 24 24 0 6 (NotCompared 1 0 0 0)
  pub right_513 : Comparing (card_of a) (replicate 4104 0) 24 24 0 6 (NotCompared 1 0 0 0)
  -- 2 and 3, of either card.
  pub broken_left : Comparing own_child (card_of a) 24 24 0 6 (NotCompared 2 0 0 0)
  pub broken_right : Comparing (card_of a) own_child 24 24 0 6 (NotCompared 2 0 0 0)
  pub left_marked : Comparing marked_letter (card_of a) 24 24 0 6 (NotCompared 3 0 0 0)
  pub right_marked : Comparing (card_of a) marked_letter 24 24 0 6 (NotCompared 3 0 0 0)
  -- 5 and 6, "pair room empty, over 8,192 bytes, or not a multiple of 8".
  pub room_15 : Comparing (card_of 𝟘) (card_of 𝟘) 15 8 0 0 (NotCompared 5 0 0 0)
  pub room_20 : Comparing (card_of 𝟘) (card_of 𝟘) 20 8 0 0 (NotCompared 5 0 0 0)
  pub room_32776 : Comparing (card_of 𝟘) (card_of 𝟘) 32776 8 0 0 (NotCompared 5 0 0 0)
  pub no_pair_room : Comparing (card_of 𝟘) (card_of 𝟘) 16 0 0 0 (NotCompared 6 0 0 0)
  pub pair_room_12 : Comparing (card_of 𝟘) (card_of 𝟘) 16 12 0 0 (NotCompared 6 0 0 0)
  pub pair_room_8200 : Comparing (card_of 𝟘) (card_of 𝟘) 16 8200 0 0 (NotCompared 6 0 0 0)
  pub smallest_room : Comparing (card_of 𝟘) (card_of 𝟘) 16 8 0 0 (Same 1 2 0)
  pub largest_room : Comparing (card_of 𝟘) (card_of 𝟘) 32768 8192 0 0 (Same 1 2 0)
  -- The order: left card, right card, 5, 6, whatever else is lent.
  pub left_first : (right : List ℕ) (work pairs word budget : ℕ) → Comparing marked_letter right work pairs word budget (NotCompared 3 0 0 0)
  pub right_next : (work pairs word budget : ℕ) → Comparing (card_of a) own_child work pairs word budget (NotCompared 2 0 0 0)
  pub work_room_next : (pairs word budget : ℕ) → Comparing (card_of a) (card_of a) 15 pairs word budget (NotCompared 5 0 0 0)
  pub pair_room_last : (word budget : ℕ) → Comparing (card_of a) (card_of a) 24 0 word budget (NotCompared 6 0 0 0)
  -- 7 in loading, of either card, and on the way.
  pub left_finds_no_room : Comparing (card_of a) (card_of b) 16 8 1 2 (NotCompared 7 0 2 0)
  pub right_finds_no_room : Comparing (card_of a) (card_of b) 24 8 1 2 (NotCompared 7 0 3 0)
  pub both_find_room : Comparing (card_of a) (card_of b) 32 8 1 2 (Different 1 true 1 4 2)
  pub derived_finds_no_room : Comparing (card_of a) (card_of (a ⊕ a · a)) 40 16 2 9 (NotCompared 7 1 5 5)
  pub derived_finds_room : Comparing (card_of a) (card_of (a ⊕ a · a)) 48 16 2 9 (Different 2 false 2 6 9)
  -- 8: `a` against itself makes 6 visits.
  pub one_visit_short : Comparing (card_of a) (card_of a) 24 24 0 5 (NotCompared 8 3 3 5)
  pub visits_enough : Comparing (card_of a) (card_of a) 24 24 0 6 (Same 3 3 6)
  -- 9, "an agreeing new pair, and no free place for it": it places 3 pairs. A pair that is listed asks for no place, and one whose marks differ for none.
  pub one_pair_short : Comparing (card_of a) (card_of a) 24 16 0 6 (NotCompared 9 2 3 4)
  pub one_pair_record : Comparing (card_of (a *)) (card_of (a *)) 32 8 0 4 (Same 1 4 4)
  pub marks_before_room : Comparing (card_of a) (card_of (a · a)) 32 8 1 3 (Different 1 true 1 4 3)
  -- 10, ""different", and the word room is shorter than the word". The empty word fits any; a word may be shorter than the pairs placed.
  pub word_finds_no_room : Comparing (card_of (a ⊕ b)) (card_of (a ⊕ b · b)) 56 16 0 14 (WordRoomShort 1 2 7 14)
  pub word_finds_room : Comparing (card_of (a ⊕ b)) (card_of (a ⊕ b · b)) 56 16 1 14 (Different 1 true 2 7 14)
  pub empty_word_fits : Comparing (card_of (a ⊕ 𝟙)) (card_of a) 32 8 0 0 (Different 0 true 0 4 0)
  -- A letter that nothing reaches takes a place and is tried: a loose `b` before one of the cards.
  pub with_loose_letter : Comparing (card_of b ++ card_of a) (card_of a) 32 24 0 12 (Same 3 4 12)

pub comparing_edges : ComparingEdges
unfolding card_of compare_outcome make derive word_to
comparing_edges =
    record {
      no_left = refl;
      no_right = refl;
      records_512 = refl;
      left_513 = refl;
      right_513 = refl;
      broken_left = refl;
      broken_right = refl;
      left_marked = refl;
      right_marked = refl;
      room_15 = refl;
      room_20 = refl;
      room_32776 = refl;
      no_pair_room = refl;
      pair_room_12 = refl;
      pair_room_8200 = refl;
      smallest_room = refl;
      largest_room = refl;
      left_first = λ right work pairs word budget. refl;
      right_next = λ work pairs word budget. refl;
      work_room_next = λ pairs word budget. refl;
      pair_room_last = λ word budget. refl;
      left_finds_no_room = refl;
      right_finds_no_room = refl;
      both_find_room = refl;
      derived_finds_no_room = refl;
      derived_finds_room = refl;
      one_visit_short = refl;
      visits_enough = refl;
      one_pair_short = refl;
      one_pair_record = refl;
      marks_before_room = refl;
      word_finds_no_room = refl;
      word_finds_room = refl;
      empty_word_fits = refl;
      with_loose_letter = refl;
    }

-- What `a` against itself leaves: the store as a proof card, and the table, whose opening pair has 0 for the last three fields.
abbrev a_store : List ℕ
a_store = bytes 0 0 0 0 0 0 ++ bytes 1 0 1 0 0 0 ++ bytes 2 97 0 0 0 0

abbrev a_table : List ℕ
a_table = 2 ∷ 0 ∷ 2 ∷ 0 ∷ 0 ∷ 0 ∷ 0 ∷ 0 ∷ 1 ∷ 0 ∷ 1 ∷ 0 ∷ 0 ∷ 0 ∷ 97 ∷ 0 ∷ 0 ∷ 0 ∷ 0 ∷ 0 ∷ 1 ∷ 0 ∷ 97 ∷ 0 ∷ []

-- A listed pair: what stands behind its two places is not read.
abbrev pair : ℕ → ℕ → List ℕ
pair left right = left ∷ 0 ∷ right ∷ 0 ∷ 9 ∷ 9 ∷ 9 ∷ 9 ∷ []

-- A call of `check`: the two pattern cards, the proof card, the list, bytes of the work room, budget, and the answer.
abbrev pub Checking : List ℕ → List ℕ → List ℕ → List ℕ → ℕ → ℕ → Checked → Type 0
Checking left right proof list room budget answer = (check_outcome left right proof list room budget).tells ≡ told-of-check answer

-- `a` against itself.
abbrev CheckingA : List ℕ → List ℕ → ℕ → ℕ → Checked → Type 0
CheckingA proof list room budget answer = Checking (card_of a) (card_of a) proof list room budget answer

-- Nothing against itself, which has no letter: every pair of nothing with itself passes.
abbrev Checking𝟘 : List ℕ → List ℕ → ℕ → Checked → Type 0
Checking𝟘 proof list room answer = Checking (card_of 𝟘) (card_of 𝟘) proof list room 0 answer

pub record CheckingEdges : Type 0 where
  -- What a comparison left is accepted, and so is a list in another order, with other bytes behind the places.
  pub honest : CheckingA a_store a_table 24 6 (Accepted 3 6)
  pub another_order : CheckingA a_store (pair 0 0 ++ pair 1 1 ++ pair 2 2) 24 6 (Accepted 3 6)
  -- 1, of each card: no byte; 512 and 513 records, in a proof card 4,096 and 4,097.
  pub no_left : Checking [] (card_of a) a_store a_table 24 6 (NotChecked 1 0 0)
  pub no_right : Checking (card_of a) [] a_store a_table 24 6 (NotChecked 1 0 0)
  pub no_proof : CheckingA [] a_table 24 6 (NotChecked 1 0 0)
  pub records_512 : Checking (replicate 4096 0) (replicate 4096 0) a_store (pair 0 0) 24 0 (Accepted 3 0)
  pub left_513 : Checking (replicate 4104 0) (card_of a) a_store a_table 24 6 (NotChecked 1 0 0)
  pub right_513 : Checking (card_of a) (replicate 4104 0) a_store a_table 24 6 (NotChecked 1 0 0)
  pub proof_4096 : Checking𝟘 (replicate 32768 0) (pair 0 0) 16 (Accepted 2 0)
  pub proof_4097 : Checking𝟘 (replicate 32776 0) (pair 0 0) 16 (NotChecked 1 0 0)
  -- 2 and 3, of each card.
  pub broken_left : Checking own_child (card_of a) a_store a_table 24 6 (NotChecked 2 0 0)
  pub broken_right : Checking (card_of a) own_child a_store a_table 24 6 (NotChecked 2 0 0)
  pub broken_proof : CheckingA (a_store ++ bytes 5 0 1 0 3 0) a_table 32 6 (NotChecked 2 0 0)
  pub left_marked : Checking marked_letter (card_of a) a_store a_table 24 6 (NotChecked 3 0 0)
  pub right_marked : Checking (card_of a) marked_letter a_store a_table 24 6 (NotChecked 3 0 0)
  pub proof_marked : CheckingA (a_store ++ marked_letter) a_table 32 6 (NotChecked 3 0 0)
  -- 5, and 6 of the list: "Its pair list obeys number 6 as a pair room does."
  pub room_15 : Checking𝟘 a_store (pair 0 0) 15 (NotChecked 5 0 0)
  pub room_28 : Checking𝟘 a_store (pair 0 0) 28 (NotChecked 5 0 0)
  pub room_32776 : Checking𝟘 a_store (pair 0 0) 32776 (NotChecked 5 0 0)
  pub room_32768 : Checking𝟘 a_store (pair 0 0) 32768 (Accepted 3 0)
  pub no_list : Checking𝟘 a_store [] 24 (NotChecked 6 0 0)
  pub list_12 : Checking𝟘 a_store (pair 0 0 ++ replicate 4 0) 24 (NotChecked 6 0 0)
  pub list_8192 : Checking𝟘 a_store (replicate 8192 0) 24 (Accepted 3 0)
  pub list_8200 : Checking𝟘 a_store (replicate 8200 0) 24 (NotChecked 6 0 0)
  -- 11, "a listed pair names no record of the proof card", which has 3: on either side, and in any pair.
  pub left_names_none : Checking𝟘 a_store (pair 0 0 ++ pair 3 0) 24 (NotChecked 11 0 0)
  pub right_names_none : Checking𝟘 a_store (pair 0 0 ++ pair 0 3) 24 (NotChecked 11 0 0)
  pub last_is_named : Checking𝟘 a_store (pair 0 0 ++ pair 2 2) 24 (Accepted 3 0)
  -- The order: left card, right card, proof card, 5, 6, 11, whatever else is lent.
  pub left_first : (right proof list : List ℕ) (room budget : ℕ) → Checking marked_letter right proof list room budget (NotChecked 3 0 0)
  pub right_next : (proof list : List ℕ) (room budget : ℕ) → Checking (card_of a) own_child proof list room budget (NotChecked 2 0 0)
  pub proof_next : (list : List ℕ) (room budget : ℕ) → CheckingA [] list room budget (NotChecked 1 0 0)
  pub work_room_next : (list : List ℕ) (budget : ℕ) → CheckingA a_store list 15 budget (NotChecked 5 0 0)
  pub list_before_names : (budget : ℕ) → CheckingA a_store (pair 3 3 ++ replicate 4 0) 24 budget (NotChecked 6 0 0)
  pub names_last : (budget : ℕ) → CheckingA a_store (pair 3 3) 24 budget (NotChecked 11 0 0)
  -- 7 in loading, of a pattern card and of the proof card, and on the way.
  pub pattern_finds_no_room : CheckingA a_store a_table 16 6 (NotChecked 7 2 0)
  pub proof_finds_no_room : CheckingA (a_store ++ card_of b) a_table 24 6 (NotChecked 7 3 0)
  pub proof_finds_room : CheckingA (a_store ++ card_of b) a_table 32 6 (Accepted 4 6)
  pub derived_finds_no_room : Checking (card_of (a ⊕ a · a)) (card_of (a ⊕ a · a)) (card_of (a ⊕ a · a)) (pair 2 2) 40 8 (NotChecked 7 5 4)
  pub derived_finds_room : Checking (card_of (a ⊕ a · a)) (card_of (a ⊕ a · a)) (card_of (a ⊕ a · a)) (pair 2 2) 48 8 (NotListed 0 97 6 8)
  -- 8: the list costs 6 visits; a pair listed twice is judged twice.
  pub one_visit_short : CheckingA a_store a_table 24 5 (NotChecked 8 3 5)
  pub listed_twice : CheckingA a_store (a_table ++ pair 2 2) 24 8 (Accepted 3 8)
  -- Rejected: "opening pair missing; else, pair by pair in list order, marks differ, then for each letter .. the pair reached is not in the list".
  pub opening_missing : CheckingA a_store (pair 1 0) 24 6 (OpeningMissing 3 0)
  pub marks_differ : CheckingA a_store (pair 2 2 ++ pair 1 0 ++ pair 1 1) 24 6 (MarksDiffer 1 3 2)
  pub not_listed : CheckingA a_store (pair 2 2 ++ pair 1 1 ++ pair 1 0) 24 6 (NotListed 1 97 3 4)

pub checking_edges : CheckingEdges
unfolding card_of check_outcome make derive
checking_edges =
    record {
      honest = refl;
      another_order = refl;
      no_left = refl;
      no_right = refl;
      no_proof = refl;
      records_512 = refl;
      left_513 = refl;
      right_513 = refl;
      proof_4096 = refl;
      proof_4097 = refl;
      broken_left = refl;
      broken_right = refl;
      broken_proof = refl;
      left_marked = refl;
      right_marked = refl;
      proof_marked = refl;
      room_15 = refl;
      room_28 = refl;
      room_32776 = refl;
      room_32768 = refl;
      no_list = refl;
      list_12 = refl;
      list_8192 = refl;
      list_8200 = refl;
      left_names_none = refl;
      right_names_none = refl;
      last_is_named = refl;
      left_first = λ right proof list room budget. refl;
      right_next = λ proof list room budget. refl;
      proof_next = λ list room budget. refl;
      work_room_next = λ list budget. refl;
      list_before_names = λ budget. refl;
      names_last = λ budget. refl;
      pattern_finds_no_room = refl;
      proof_finds_no_room = refl;
      proof_finds_room = refl;
      derived_finds_no_room = refl;
      derived_finds_room = refl;
      one_visit_short = refl;
      listed_twice = refl;
      opening_missing = refl;
      marks_differ = refl;
      not_listed = refl;
    }

-- What stands in the rooms, byte for byte.
pub record Layout : Type 0 where
  -- "Bytes: kind, letter, mark, zero, left (low byte first, two bytes), right (likewise)."
  pub record_laid : bytes_of (record { kind = 1; letter = 2; mark = 3; fourth = 4; left = 0x605; right = 0x807 }) ≡ 1 ∷ 2 ∷ 3 ∷ 4 ∷ 5 ∷ 6 ∷ 7 ∷ 8 ∷ []
  pub record_read : record_of (1 ∷ 2 ∷ 3 ∷ 4 ∷ 5 ∷ 6 ∷ 7 ∷ 8 ∷ []) ≡ record { kind = 1; letter = 2; mark = 3; fourth = 4; left = 0x605; right = 0x807 }
  -- "A pair record has 8 bytes: left place, right place (two bytes each), number of the pair it came from (two bytes), letter, zero."
  pub pair_laid : bytes_of_pair (record { left = 0x201; right = 0x403; origin = 0x605; letter = 7 }) ≡ 1 ∷ 2 ∷ 3 ∷ 4 ∷ 5 ∷ 6 ∷ 7 ∷ 0 ∷ []
  pub pair_read : pair_of (1 ∷ 2 ∷ 3 ∷ 4 ∷ 5 ∷ 6 ∷ 7 ∷ 8 ∷ []) ≡ record { left = 0x201; right = 0x403; origin = 0x605; letter = 7 }
  -- After a comparison, in rooms of 32 bytes that held 9s: the store, the table, and the word; at 10 no word.
  pub store_left : laid (compare_outcome (card_of a) (card_of a) 32 32 0 6).store (replicate 32 9) ≡ a_store ++ replicate 8 9
  pub table_left : laid_pairs (compare_outcome (card_of a) (card_of a) 32 32 0 6).table (replicate 32 9) ≡ a_table ++ replicate 8 9
  pub word_left : (compare_outcome (card_of (a ⊕ b)) (card_of (a ⊕ b · b)) 56 16 1 14).written ≡ 98 ∷ []
  pub no_word_left : (compare_outcome (card_of (a ⊕ b)) (card_of (a ⊕ b · b)) 56 16 0 14).written ≡ []
  -- "Numbers 1 to 6 and 11 leave all rooms untouched": the last of each call.
  pub fits_at_5 : (fits_outcome (card_of a) [] 15 0).store ≡ []
  pub compare_at_6 : compare_outcome (card_of a) (card_of a) 24 0 0 0 ≡ record { tells = told-of-comparison (NotCompared 6 0 0 0); store = []; table = []; written = [] }
  pub check_at_11 : (check_outcome (card_of a) (card_of a) a_store (pair 3 3) 24 0).store ≡ []

pub layout : Layout
unfolding card_of fits_outcome compare_outcome check_outcome run_of run_of_pairs make derive word_to
layout =
    record {
      record_laid = refl;
      record_read = refl;
      pair_laid = refl;
      pair_read = refl;
      store_left = refl;
      table_left = refl;
      word_left = refl;
      no_word_left = refl;
      fits_at_5 = refl;
      compare_at_6 = refl;
      check_at_11 = refl;
    }

-- A job whose text has 65,534 bytes and the digits of its budget.
abbrev long_job : ℕ → Job
long_job budget = match_job (card_of 𝟘) (replicate 32744 97) budget

pub record JobEdges : Type 0 where
  -- 12, "job over 65,536 bytes": with a budget of two digits the job is judged, with one of three it is not.
  pub bytes_65536 : Answers (job_text (long_job 99)) (ascii "verdict=refused\nreason=8\n")
  pub bytes_65537 : Answers (job_text (long_job 100)) (ascii "verdict=refused\nreason=12\n")

well : WellFormed (long_job 99)
unfolding card_of is_bytes
well = well_match (bytes_tested (card_of 𝟘) refl) (bytes_tested (replicate 32744 97) refl) (lit≤ tt)

pub job_edges : JobEdges
unfolding card_of job_text answer_text refused_text load make derive ascii
job_edges =
    record {
      bytes_65536 = answered (long_job 99) well refl (lit≤ tt);
      bytes_65537 = refused_12 (λ j w e short. let long : 65537 ≤ 65536 = short in absurd (omega arith));
    }

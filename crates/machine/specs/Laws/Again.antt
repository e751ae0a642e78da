-- A search done again: what comes to "same" or "different" comes to it again, with the same table, wherever its steps are done again and the pair room
-- has as many places as that table has pairs. Room for another pair is asked only where one is placed, and where every pair has been taken more turns
-- change nothing.
use Prim.Native.Nat.{ℕ, zero, suc, ◌+◌, ◌<◌, ◌≤◌}
use Rattle.std.proofs.Common.{arith}
use Rattle.std.specs.Prelude.{Bool, ◌≡◌, length}
use Rattle.std.proofs.Math.Bool.{true, false}
use mathlib.Core.List.Memᴰ
use mathlib.Core.List.{List, [], ◌∷◌, ◌++◌}
use Rattle.std.proofs.Math.Path.{refl}
use Rattle.std.proofs.Math.Dec.{ltb}
use borrow.Author.Tests.{ltb-true, lt-ltb, le-ltb}
use Rattle.language.specs.Word.{IsByte, Listed}
use Rattle.machine.specs.Laws.Machine.{Stepped, Machine, Sense, StepLaw, was_stepped, Lawful, was_halted}
use Rattle.machine.specs.Laws.Search.{Search, same, different, Going, on, ends, after_going, search_after, after_step, turned, looked, row_at, word_of, stands_in, marks_agree, look, by_letter, by_letters, take_pairs, search}
use Rattle.machine.specs.Laws.Redoing.{Redone, redone, Redoing}
use Rattle.machine.specs.Laws.Keeps.{Tabled, tabled_none, length_next, extends_length, KeptBoth, step_kept, KeepsSearch, keeps_same, keeps_different, KeepsGoing, keeps_on, keeps_ends_different, look_next, right_next, look_keeps, look_next_keeps, right_next_keeps, by_letter_keeps, by_letters_keeps, take_pairs_keeps, keeps_stopped, keeps_ends_stopped}

-- The second search comes to the first one's answer, with the same table, and what it has stands beside what the first has.
pub data AlsoSearch {Has Row : Type 0} (Beside : Has → Has → Type 0) : Search Has Row → Search Has Row → Type 0 where
  also_same : {k k' : Has} {table : List Row} → Beside k k' → AlsoSearch Beside (same k table) (same k' table)
  also_different : {word : List ℕ} {left_has : Bool} {k k' : Has} {table : List Row} → Beside k k'
      → AlsoSearch Beside (different word left_has k table) (different word left_has k' table)

-- A part of the search goes on, or ends, as the first did.
data AlsoGoing {Has Row : Type 0} (Beside : Has → Has → Type 0) : Going Has Row → Going Has Row → Type 0 where
  also_on : {k k' : Has} {table : List Row} → Beside k k' → AlsoGoing Beside (on k table) (on k' table)
  also_ends : {word : List ℕ} {left_has : Bool} {k k' : Has} {table : List Row} → Beside k k'
      → AlsoGoing Beside (ends (different word left_has k table)) (ends (different word left_has k' table))

module _ {State Has Row : Type 0} (S : Sense State Has) (end : Has) (pairs : ℕ) where
  -- What the machine has grows to the end given, and the table fits the pair room.
  pub record Within (k : Has) (table : List Row) : Type 0 where
    pub grows : S.Grows k end
    pub fits : length table ≤ pairs

  -- The search comes to an answer, within these bounds; a part of it goes on within them, or comes to an answer.

  pub data WithinSearch : Search Has Row → Type 0 where
    within_same : {k : Has} {table : List Row} → Within k table → WithinSearch (same k table)
    within_different : {word : List ℕ} {left_has : Bool} {k : Has} {table : List Row} → Within k table → WithinSearch (different word left_has k table)

  data WithinGoing : Going Has Row → Type 0 where
    within_on : {k : Has} {table : List Row} → Within k table → WithinGoing (on k table)
    within_ends : {word : List ℕ} {left_has : Bool} {k : Has} {table : List Row} → Within k table → WithinGoing (ends (different word left_has k table))

module _ {State Has Row : Type 0} {M : Machine State Has Row} {S : Sense State Has} (laws : Lawful M S) {end : Has} {Beside : Has → Has → Type 0}
    (redoing : Redoing M S end Beside) (pairs pairs' : ℕ) where
  -- Where a part of the search leaves what is within the bounds, what was before it is within them.

  within_before : {h k : Has} {a b : List Row} → KeptBoth M S pairs h a k b → Within S end pairs' k b → Within S end pairs' h a
  within_before kept w =
      record { grows = laws.grows_trans kept.grows w.grows; fits = let l = w.fits in omega (arith, extends_length kept.extends) }

  before_going : {h : Has} {table : List Row} {g : Going Has Row} → KeepsGoing M S pairs h table g → WithinGoing S end pairs' g → Within S end pairs' h table
  before_going (keeps_on k) (within_on w) = within_before k w
  before_going (keeps_ends_different k) (within_ends w) = within_before k w
  before_going (keeps_ends_stopped _ _) x7 = elim x7 [ ]

  before_search : {h : Has} {table : List Row} {s : Search Has Row} → KeepsSearch M S pairs h table s → WithinSearch S end pairs' s → Within S end pairs' h table
  before_search (keeps_same k) (within_same w) = within_before k w
  before_search (keeps_different k) (within_different w) = within_before k w
  before_search (keeps_stopped _ _) x7 = elim x7 [ ]

  -- A reached pair is looked at.
  look_again : (x y : State) (origin letter : ℕ) (word : List ℕ) {h h' : Has} (table : List Row) → Beside h h'
      → WithinGoing S end pairs' (look M pairs x y origin letter word h table)
      → AlsoGoing Beside (look M pairs x y origin letter word h table) (look M pairs' x y origin letter word h' table)
  look_again x y origin letter word {h} {h'} table beside =
      rw (redoing.marks beside x, redoing.marks beside y) (go (marks_agree M h x y) (stands_in M table x y) (ltb (length table) pairs))
    where
      reached : Row
      reached = M.row x y origin letter

      go : (p q r : Bool) → WithinGoing S end pairs' (looked reached word (M.mark h x) h table p q r)
          → AlsoGoing Beside (looked reached word (M.mark h x) h table p q r) (looked reached word (M.mark h x) h' table p q (ltb (length table) pairs'))
      go false q r _ = also_ends beside
      go true true r _ = also_on beside
      go true false true (within_on w) =
          let l = w.fits in
          let free : length table < pairs' = omega (arith, length_next table reached) in
          rw (lt-ltb (length table) pairs' free) (also_on beside)
      go true false false x4 = elim x4 [ ]

  -- A step, and a part of the search from the state it comes to.
  step_again : {h h' : Has} {table : List Row} → S.Ready h → Tabled M S pairs h table → Beside h h' → (c : ℕ) → IsByte c → (x : State) → S.Stands h x
      → (next next' : State → Has → Going Has Row)
      → ((y : State) (k : Has) → KeptBoth M S pairs h table k table → S.Stands k y → KeepsGoing M S pairs k table (next y k))
      → ((y : State) (k k' : Has) → KeptBoth M S pairs h table k table → S.Stands k y → Beside k k'
      → WithinGoing S end pairs' (next y k) → AlsoGoing Beside (next y k) (next' y k'))
      → WithinGoing S end pairs' (after_step table (M.step c x h) next)
      → AlsoGoing Beside (after_step table (M.step c x h) next) (after_step table (M.step c x h') next')
  step_again {h} {h'} {table} ready tabled beside c byte x stands next next' keeps again = go (M.step c x h) refl (laws.step_law ready c byte x stands)
    where
      go : (s : Stepped State Has) → M.step c x h ≡ s → StepLaw S h c x s → WithinGoing S end pairs' (after_step table s next)
          → AlsoGoing Beside (after_step table s next) (after_step table (M.step c x h') next')
      go s e (was_stepped {y} {k} grows k-ready y-stands leads) within =
          then (redoing.steps beside ready c byte x stands e (before_going (keeps y k kept y-stands) within).grows)
        where
          kept : KeptBoth M S pairs h table k table
          kept = step_kept laws tabled grows k-ready

          then : {s' : Stepped State Has} → Redone Beside y k s' → AlsoGoing Beside (next y k) (after_step table s' next')
          then (redone {k'} b) = again y k k' kept y-stands b within
      go _ e (was_halted _ _ _) within = elim within [ ]

  -- The pair n by one letter.
  by_letter_again : (n c : ℕ) → IsByte c → {h h' : Has} {table : List Row} → n < length table → S.Ready h → Tabled M S pairs h table → Beside h h'
      → WithinGoing S end pairs' (by_letter M pairs n c h table) → AlsoGoing Beside (by_letter M pairs n c h table) (by_letter M pairs' n c h' table)
  by_letter_again n c byte {table = table} inside ready tabled beside =
      step_again ready tabled beside c byte (M.left (row_at M table n)) (tabled.stands n inside).0 (right_next M pairs n c table) (right_next M pairs' n c table)
      (right_next_keeps laws n c byte inside)
      (λ x k k' kept x-stands b.
      step_again kept.ready kept.tabled b c byte (M.right (row_at M table n)) (kept.tabled.stands n inside).1
      (look_next M pairs n c table x) (look_next M pairs' n c table x)
      (look_next_keeps laws n c byte inside x x-stands)
      (λ y l l' _ _ b₂. look_again x y n c (word_of M table n ++ c ∷ []) table b₂))

  -- A part of the search, and another, or the search, from there.

  going_then_again : {h : Has} {table : List Row} {g g' : Going Has Row} → KeepsGoing M S pairs h table g → (WithinGoing S end pairs' g → AlsoGoing Beside g g')
      → (next next' : Has → List Row → Going Has Row)
      → ((k : Has) (t : List Row) → KeptBoth M S pairs h table k t → KeepsGoing M S pairs k t (next k t))
      → ((k k' : Has) (t : List Row) → KeptBoth M S pairs h table k t → Beside k k'
      → WithinGoing S end pairs' (next k t) → AlsoGoing Beside (next k t) (next' k' t))
      → WithinGoing S end pairs' (after_going g next) → AlsoGoing Beside (after_going g next) (after_going g' next')
  going_then_again (keeps_on {k} {table' = t} kept) first next next' keeps again within = then (first (within_on (before_going (keeps k t kept) within)))
    where
      then : {g' : Going Has Row} → AlsoGoing Beside (on k t) g' → AlsoGoing Beside (next k t) (after_going g' next')
      then (also_on {k' = k'} b) = again k k' t kept b within
  going_then_again (keeps_ends_different {word} {left_has} {k} {table' = t} kept) first next next' keeps again (within_ends w) = then (first (within_ends w))
    where
      then : {g' : Going Has Row} → AlsoGoing Beside (ends (different word left_has k t)) g' → AlsoGoing Beside (ends (different word left_has k t)) (after_going g' next')
      then (also_ends b) = also_ends b
  going_then_again (keeps_ends_stopped _ _) first next next' keeps again within = elim within [ ]

  search_then_again : {h : Has} {table : List Row} {g g' : Going Has Row} → KeepsGoing M S pairs h table g → (WithinGoing S end pairs' g → AlsoGoing Beside g g')
      → (next next' : Has → List Row → Search Has Row)
      → ((k : Has) (t : List Row) → KeptBoth M S pairs h table k t → KeepsSearch M S pairs k t (next k t))
      → ((k k' : Has) (t : List Row) → KeptBoth M S pairs h table k t → Beside k k'
      → WithinSearch S end pairs' (next k t) → AlsoSearch Beside (next k t) (next' k' t))
      → WithinSearch S end pairs' (search_after g next) → AlsoSearch Beside (search_after g next) (search_after g' next')
  search_then_again (keeps_on {k} {table' = t} kept) first next next' keeps again within = then (first (within_on (before_search (keeps k t kept) within)))
    where
      then : {g' : Going Has Row} → AlsoGoing Beside (on k t) g' → AlsoSearch Beside (next k t) (search_after g' next')
      then (also_on {k' = k'} b) = again k k' t kept b within
  search_then_again (keeps_ends_different {word} {left_has} {k} {table' = t} kept) first next next' keeps again (within_different w) = then (first (within_ends w))
    where
      then : {g' : Going Has Row} → AlsoGoing Beside (ends (different word left_has k t)) g' → AlsoSearch Beside (different word left_has k t) (search_after g' next')
      then (also_ends b) = also_different b
  search_then_again (keeps_ends_stopped _ _) first next next' keeps again within = elim within [ ]

  -- The pair n by each of these letters.
  by_letters_again : (n : ℕ) (rest : List ℕ) → ((c : ℕ) → Listed rest c → IsByte c) → {h h' : Has} {table : List Row} → n < length table → S.Ready h
      → Tabled M S pairs h table → Beside h h'
      → WithinGoing S end pairs' (by_letters M pairs n rest h table) → AlsoGoing Beside (by_letters M pairs n rest h table) (by_letters M pairs' n rest h' table)
  unfolding by_letters
  by_letters_again n [] bytes inside ready tabled beside = λ _. also_on beside
  by_letters_again n (c ∷ rest) bytes {h} {h'} {table} inside ready tabled beside =
      let byte = bytes c (Memᴰ.head refl) in
      let those : (d : ℕ) → Listed rest d → IsByte d = λ d m. bytes d (Memᴰ.tail m) in
      going_then_again (by_letter_keeps laws n c byte inside ready tabled)
      (by_letter_again n c byte inside ready tabled beside)
      (by_letters M pairs n rest) (by_letters M pairs' n rest)
      (λ k t kept. by_letters_keeps laws n rest those kept.ready kept.tabled (omega (arith, extends_length kept.extends)))
      (λ k k' t kept. by_letters_again n rest those (omega (arith, extends_length kept.extends)) kept.ready kept.tabled)

-- Where every pair has been taken, more turns change nothing.
none_left : {State Has Row : Type 0} (M : Machine State Has Row) (turns pairs : ℕ) (letters : List ℕ) (n : ℕ) (h : Has) (table : List Row) → length table ≤ n
    → take_pairs M turns pairs letters n h table ≡ same h table
unfolding take_pairs
none_left M zero pairs letters n h table l = refl
none_left M (suc turns) pairs letters n h table l = rw (le-ltb n (length table) l)

module _ {State Has Row : Type 0} {M : Machine State Has Row} {S : Sense State Has} (laws : Lawful M S)
    (letters : List ℕ) (bytes : (c : ℕ) → Listed letters c → IsByte c) {end : Has} {Beside : Has → Has → Type 0}
    (redoing : Redoing M S end Beside) (pairs pairs' : ℕ) where
  -- The pairs from number n on, with turns enough for both pair rooms.
  take_pairs_again : (turns turns' n : ℕ) → pairs ≤ n + turns → pairs' ≤ n + turns' → {h h' : Has} {table : List Row} → S.Ready h → Tabled M S pairs h table
      → Beside h h' → WithinSearch S end pairs' (take_pairs M turns pairs letters n h table)
      → AlsoSearch Beside (take_pairs M turns pairs letters n h table) (take_pairs M turns' pairs' letters n h' table)
  unfolding take_pairs
  take_pairs_again zero turns' n l l' {h} {h'} {table} ready tabled beside _ =
      let fits = tabled.fits in
      rw (none_left M turns' pairs' letters n h' table (omega arith)) (also_same beside)
  take_pairs_again (suc turns) zero n l l' {h} {h'} {table} ready tabled beside within =
      let fits = (before_search laws redoing pairs pairs' (take_pairs_keeps laws letters bytes (suc turns) n ready tabled) within).fits in
      rw (none_left M (suc turns) pairs letters n h table (omega arith)) (also_same beside)
  take_pairs_again (suc turns) (suc turns') n l l' {h} {h'} {table} ready tabled beside within =
      go (ltb n (length table)) refl
      (λ k k' t kept. take_pairs_again turns turns' (suc n) (omega arith) (omega arith) kept.ready kept.tabled)
      within
    where
      go : (b : Bool) → ltb n (length table) ≡ b
          → ((k k' : Has) (t : List Row) → KeptBoth M S pairs h table k t → Beside k k' → WithinSearch S end pairs' (take_pairs M turns pairs letters (suc n) k t)
          → AlsoSearch Beside (take_pairs M turns pairs letters (suc n) k t) (take_pairs M turns' pairs' letters (suc n) k' t))
          → WithinSearch S end pairs' (turned b (by_letters M pairs n letters h table) (take_pairs M turns pairs letters (suc n)) h table)
          → AlsoSearch Beside (turned b (by_letters M pairs n letters h table) (take_pairs M turns pairs letters (suc n)) h table)
          (turned b (by_letters M pairs' n letters h' table) (take_pairs M turns' pairs' letters (suc n)) h' table)
      go true e again =
          let inside = ltb-true n (length table) e in
          search_then_again laws redoing pairs pairs' (by_letters_keeps laws n letters bytes ready tabled inside)
          (by_letters_again laws redoing pairs pairs' n letters bytes inside ready tabled beside)
          (take_pairs M turns pairs letters (suc n)) (take_pairs M turns' pairs' letters (suc n))
          (λ k t kept. take_pairs_keeps laws letters bytes turns (suc n) kept.ready kept.tabled)
          again
      go false e again = λ _. also_same beside

  -- The search from the opening pair.
  pub search_again : {h h' : Has} → S.Ready h → Beside h h' → (x y : State) → S.Stands h x → S.Stands h y
      → WithinSearch S end pairs' (search M pairs letters x y h) → AlsoSearch Beside (search M pairs letters x y h) (search M pairs' letters x y h')
  unfolding search
  search_again {h} {h'} ready beside x y x-stands y-stands =
      search_then_again laws redoing pairs pairs'
      (look_keeps laws x y 0 0 [] ready (tabled_none M S pairs h) x-stands y-stands (omega arith) (omega arith))
      (look_again laws redoing pairs pairs' x y 0 0 [] [] beside)
      (take_pairs M pairs pairs letters 0) (take_pairs M pairs' pairs' letters 0)
      (λ k t kept. take_pairs_keeps laws letters bytes pairs 0 kept.ready kept.tabled)
      (λ k k' t kept. take_pairs_again pairs pairs' 0 (omega arith) (omega arith) kept.ready kept.tabled)

  -- The same where the answer is known.
  pub answer_again : {h h' : Has} → S.Ready h → Beside h h' → (x y : State) → S.Stands h x → S.Stands h y → {s : Search Has Row}
      → search M pairs letters x y h ≡ s → WithinSearch S end pairs' s → AlsoSearch Beside s (search M pairs' letters x y h')
  answer_again ready beside x y x-stands y-stands e within = rw e at (search_again ready beside x y x-stands y-stands (rw e within))

-- The comparer's search is the search over the store as a machine. Part by part both do the same, and what a part goes on with stands in the room
-- that it began in: so the second is the first with the room put in, and the first is the second with the room left out.
use Rattle.std.specs.Prelude.{ℕ, zero, suc, Bool, true, false, ◌≡◌, refl, ltb, length}
use Rattle.std.specs.Bool.{beq}
use mathlib.Core.List.{List, [], ◌∷◌, ◌++◌}
use Rattle.std.proofs.Common.{sym, ◌∙◌, ap}
use Rattle.machine.specs.Laws.Search as machine
use Rattle.records.specs.declared.record.Record.{Record}
use Rattle.records.specs.Record.{child}
use Rattle.cards.specs.Mark.{marked}
use Rattle.derivative.specs.Derivative.{Deriving, derived, stopped as unfinished, derive}
use Rattle.pairs.specs.declared.pair.Pair.{Pair}
use Rattle.pairs.specs.Pair.{pair_at, stands_in}
use Rattle.pairs.specs.Laws.Table as found
use Rattle.searching.specs.ReadOff.{word_to, word_of}
use Rattle.searching.specs.Search.{Search, same, different, stopped, Going, on, ends, look, by_letter, by_letters, take_pairs, search}
use Rattle.searching.proofs.Laws.Parts.{after_deriving, after_going, search_after, turned, looked}
use Rattle.searching.specs.Laws.StoreMachine.{Having, having, of_deriving, store_machine}

-- What the search over the machine comes to, with the room left out.

abbrev pub told : machine.Search Having Pair → Search
told (machine.same h table) = same h.store table h.budget
told (machine.different word left_has h table) = different word left_has h.store table h.budget
told (machine.stopped number h table) = stopped number h.store table h.budget

abbrev pub told_going : machine.Going Having Pair → Going
told_going (machine.on h table) = on h.store table h.budget
told_going (machine.ends s) = ends (told s)

-- What the search comes to, with a room put in.

abbrev pub in_room : ℕ → Search → machine.Search Having Pair
in_room room (same store table budget) = machine.same (having room store budget) table
in_room room (different word left_has store table budget) = machine.different word left_has (having room store budget) table
in_room room (stopped number store table budget) = machine.stopped number (having room store budget) table

abbrev pub going_in_room : ℕ → Going → machine.Going Having Pair
going_in_room room (on store table budget) = machine.on (having room store budget) table
going_in_room room (ends s) = machine.ends (in_room room s)

-- Put in and left out, it is what it was.

told_in_room : (room : ℕ) (s : Search) → told (in_room room s) ≡ s
told_in_room room (same store table budget) = refl
told_in_room room (different word left_has store table budget) = refl
told_in_room room (stopped number store table budget) = refl

going_left_out : (room : ℕ) {g : Going} {m : machine.Going Having Pair} → m ≡ going_in_room room g → g ≡ told_going m
going_left_out room {g} e = sym (ap told_going e ∙ go g)
  where
    go : (g : Going) → told_going (going_in_room room g) ≡ g
    go (on store table budget) = refl
    go (ends s) = ap ends (told_in_room room s)

left_out : (room : ℕ) {s : Search} {m : machine.Search Having Pair} → m ≡ in_room room s → s ≡ told m
left_out room {s} e = sym (ap told e ∙ told_in_room room s)

-- What follows a part.

after_within : (room : ℕ) (g : Going) (next : List Record → List Pair → ℕ → Going) (next' : Having → List Pair → machine.Going Having Pair)
    → ((store : List Record) (table : List Pair) (budget : ℕ) → next' (having room store budget) table ≡ going_in_room room (next store table budget))
    → machine.after_going (going_in_room room g) next' ≡ going_in_room room (after_going g next)
after_within room (on store table budget) next next' e = e store table budget
after_within room (ends s) next next' e = refl

search_after_within : (room : ℕ) (g : Going) (next : List Record → List Pair → ℕ → Search) (next' : Having → List Pair → machine.Search Having Pair)
    → ((store : List Record) (table : List Pair) (budget : ℕ) → next' (having room store budget) table ≡ in_room room (next store table budget))
    → machine.search_after (going_in_room room g) next' ≡ in_room room (search_after g next)
search_after_within room (on store table budget) next next' e = e store table budget
search_after_within room (ends s) next next' e = refl

-- The word that leads to a pair.
pub word_is : (depth : ℕ) (table : List Pair) (n : ℕ) → word_to depth table n ≡ machine.word_to store_machine depth table n
unfolding word_to machine.word_to
word_is zero table n = refl
word_is (suc depth) table zero = refl
word_is (suc depth) table (suc n) = ap (λ (w : List ℕ). w ++ (pair_at table (suc n)).letter ∷ []) (word_is depth table (pair_at table (suc n)).origin)

-- Whether two places stand in the table as a pair.
pub stands_is : (table : List Pair) (x y : ℕ) → stands_in table x y ≡ machine.stands_in store_machine table x y
unfolding machine.stands_in
stands_is table x y = found.stands_is table x y

-- A pair that is looked at.
module _ (pairs x y origin letter : ℕ) (word : List ℕ) (h : Having) (table : List Pair) where
  pub look_within : machine.look store_machine pairs x y origin letter word h table
      ≡ going_in_room h.room (look pairs x y origin letter word h.store table h.budget)
  look_within =
      rw (← stands_is table x y)
      (go (beq (marked (child h.store x)) (marked (child h.store y))) (stands_in table x y) (ltb (length table) pairs))
    where
      go : (p q r : Bool) → machine.looked (store_machine.row x y origin letter) word (marked (child h.store x)) h table p q r
          ≡ going_in_room h.room (looked (store_machine.row x y origin letter) word h.store table p q r h.budget)
      go false q r = refl
      go true true r = refl
      go true false true = refl
      go true false false = refl

  pub look_is : look pairs x y origin letter word h.store table h.budget ≡ told_going (machine.look store_machine pairs x y origin letter word h table)
  look_is = going_left_out h.room look_within

-- A pair by one letter.
module _ (pairs n letter : ℕ) (h : Having) (table : List Pair) where
  right_within : (x : ℕ) (d : Deriving)
      → machine.after_step table (of_deriving h.room d)
      (λ y k. machine.look store_machine pairs x y n letter (machine.word_of store_machine table n ++ letter ∷ []) k table)
      ≡ going_in_room h.room (after_deriving table d (λ y s b. look pairs x y n letter (word_of table n ++ letter ∷ []) s table b))
  right_within x (derived y s b) =
      rw (word_is (suc n) table n) (look_within pairs x y n letter (machine.word_of store_machine table n ++ letter ∷ []) (having h.room s b) table)
  right_within x (unfinished number s b) = refl

  left_within : (d : Deriving)
      → machine.after_step table (of_deriving h.room d)
      (λ x k.
      machine.after_step table (store_machine.step letter (pair_at table n).right k)
      (λ y k₂. machine.look store_machine pairs x y n letter (machine.word_of store_machine table n ++ letter ∷ []) k₂ table))
      ≡ going_in_room h.room
      (after_deriving table d
      (λ x s b.
      after_deriving table (derive h.room letter (pair_at table n).right s b)
      (λ y s₂ b₂. look pairs x y n letter (word_of table n ++ letter ∷ []) s₂ table b₂)))
  left_within (derived x s b) = right_within x (derive h.room letter (pair_at table n).right s b)
  left_within (unfinished number s b) = refl

  pub by_letter_within : machine.by_letter store_machine pairs n letter h table
      ≡ going_in_room h.room (by_letter h.room pairs n letter h.store table h.budget)
  by_letter_within = left_within (derive h.room letter (pair_at table n).left h.store h.budget)

  pub by_letter_is : by_letter h.room pairs n letter h.store table h.budget ≡ told_going (machine.by_letter store_machine pairs n letter h table)
  by_letter_is = going_left_out h.room by_letter_within

-- A pair by letters.
pub by_letters_within : (pairs n : ℕ) (letters : List ℕ) (h : Having) (table : List Pair)
    → machine.by_letters store_machine pairs n letters h table
    ≡ going_in_room h.room (by_letters h.room pairs n letters h.store table h.budget)
unfolding by_letters machine.by_letters
by_letters_within pairs n [] h table = refl
by_letters_within pairs n (letter ∷ rest) h table =
    rw (by_letter_within pairs n letter h table)
    (after_within h.room (by_letter h.room pairs n letter h.store table h.budget)
    (λ s t b. by_letters h.room pairs n rest s t b)
    (λ k t. machine.by_letters store_machine pairs n rest k t)
    (λ s t b. by_letters_within pairs n rest (having h.room s b) t))

pub by_letters_is : (pairs n : ℕ) (letters : List ℕ) (h : Having) (table : List Pair)
    → by_letters h.room pairs n letters h.store table h.budget ≡ told_going (machine.by_letters store_machine pairs n letters h table)
by_letters_is pairs n letters h table = going_left_out h.room (by_letters_within pairs n letters h table)

-- The pairs from number n on.
turned_within : (more : Bool) (g : Going) (next : List Record → List Pair → ℕ → Search) (next' : Having → List Pair → machine.Search Having Pair)
    (h : Having) (table : List Pair)
    → ((store : List Record) (table₁ : List Pair) (budget : ℕ) → next' (having h.room store budget) table₁ ≡ in_room h.room (next store table₁ budget))
    → machine.turned more (going_in_room h.room g) next' h table ≡ in_room h.room (turned more g next h.store table h.budget)
turned_within true g next next' h table e = search_after_within h.room g next next' e
turned_within false g next next' h table e = refl

pub take_pairs_within : (turns pairs : ℕ) (letters : List ℕ) (n : ℕ) (h : Having) (table : List Pair)
    → machine.take_pairs store_machine turns pairs letters n h table
    ≡ in_room h.room (take_pairs turns h.room pairs letters n h.store table h.budget)
unfolding take_pairs machine.take_pairs
take_pairs_within zero pairs letters n h table = refl
take_pairs_within (suc turns) pairs letters n h table =
    rw (by_letters_within pairs n letters h table)
    (turned_within (ltb n (length table)) (by_letters h.room pairs n letters h.store table h.budget)
    (λ s t b. take_pairs turns h.room pairs letters (suc n) s t b)
    (λ k t. machine.take_pairs store_machine turns pairs letters (suc n) k t)
    h
    table
    (λ s t b. take_pairs_within turns pairs letters (suc n) (having h.room s b) t))

pub take_pairs_is : (turns pairs : ℕ) (letters : List ℕ) (n : ℕ) (h : Having) (table : List Pair)
    → take_pairs turns h.room pairs letters n h.store table h.budget ≡ told (machine.take_pairs store_machine turns pairs letters n h table)
take_pairs_is turns pairs letters n h table = left_out h.room (take_pairs_within turns pairs letters n h table)

-- The search from the opening pair.
module _ (pairs : ℕ) (letters : List ℕ) (x y : ℕ) (h : Having) where
  pub search_within : machine.search store_machine pairs letters x y h ≡ in_room h.room (search h.room pairs letters x y h.store h.budget)
  unfolding search machine.search
  search_within =
      rw (look_within pairs x y 0 0 [] h [])
      (search_after_within h.room (look pairs x y 0 0 [] h.store [] h.budget)
      (λ s t b. take_pairs pairs h.room pairs letters 0 s t b)
      (λ k t. machine.take_pairs store_machine pairs pairs letters 0 k t)
      (λ s t b. take_pairs_within pairs pairs letters 0 (having h.room s b) t))

  pub search_is : search h.room pairs letters x y h.store h.budget ≡ told (machine.search store_machine pairs letters x y h)
  search_is = left_out h.room search_within

-- The law of the derivative: the language at the derived place is the quotient, the cost is the visits, and the wall is kept.
use Rattle.std.specs.Prelude.{ℕ, zero, suc, ◌+◌, ◌-◌, ◌<◌, ◌≤◌, Bool, cond, List, ◌≡◌, refl, eqb, length}
use Rattle.std.proofs.Common.{add-zero, zero-add, le_refl, arith, ⊎_elim, sym, ◌∙◌, subst, lt-ltb, le-ltb}
use Rattle.std.proofs.Math.Decide.{dec_lt}
use Rattle.std.proofs.Math.Bool.{true, false}
use Rattle.std.proofs.lemmas.Bool.{false≢true}
use Rattle.std.proofs.Math.Path.{ap}
use Rattle.std.proofs.Math.ListN.{get_or-append}
use Rattle.language.specs.Word.{IsByte}
use Rattle.language.specs.Language.{Language, Union, Concatenation, Pattern, language, Equal}
use Rattle.language.proofs.Laws.Equality.{equal_refl, equal_sym, equal_trans, union_equal, concatenation_equal}
use Rattle.language.proofs.Laws.Quotient.{Quotient}
use Rattle.language.specs.Laws.Derivative.{nullable}
use Rattle.language.proofs.Laws.Derivative.{nullable_right, quotient_equal, quotient_empty_word, quotient_same_letter, quotient_other_letter, quotient_marked, quotient_unmarked, quotient_star}
use Rattle.records.specs.declared.kind.Kind.{Kind}
use Rattle.records.specs.declared.kind.Kind.TheVariants.{Nothing, EmptyWord, Letter, Choice, Sequence, Repeat, Unknown}
use Rattle.records.specs.declared.record.Record.{Record}
use Rattle.records.specs.Record.{child}
use Rattle.records.specs.Kind.{kind_of, columns, choice_kind, sequence_kind}
use Rattle.cards.specs.Mark.{bit, marked}
use Rattle.cards.specs.Meaning.{patterns, numbered}
use Rattle.cards.specs.Standing.{LineOf, Line}
use Rattle.cards.proofs.Laws.Line.{lower_left}
use Rattle.store.specs.Laws.Wall.{Grows, Ready}
use Rattle.store.proofs.Laws.Wall.{grows_trans, grows_length, grows_language, kept_refl, course_grows}
use Rattle.store.proofs.Laws.Making.{language_of_record, language_at_0, language_at_1, marked_nullable}
use Rattle.store.proofs.Laws.Languages.{language_at, operator_over}
use Rattle.derivative.specs.Derivative.{Deriving, derived, stopped, price, and_then, making, choice_with, after_product, derive_choice, derive_sequence, derive_repeat, derive_record, derive_visited, derive_to, derive}
use Rattle.derivative.specs.Visits.{child_visits, visits}
use Rattle.derivative.proofs.Laws.Visits.{counted, visits_kept, counted_says, visits_of_record}
use Rattle.derivative.proofs.Laws.Steps.{Step, no_budget, StepLaw, was_done, was_ended, joined_law, two_makeable, making_law, answer_law}

-- The place means the language.
abbrev pub Means : Language → List Record → ℕ → Type 0
Means A store place = Equal (language_at store place) A

-- The same law said of an equal cost, of a language that is equal, or of a step that does the same.

at_cost : {f : Step} {room : ℕ} {store : List Record} {budget cost cost' : ℕ} {Mean : List Record → ℕ → Type 0} {d : Deriving}
    → cost ≡ cost' → StepLaw f room store budget cost Mean d → StepLaw f room store budget cost' Mean d
at_cost {f} {room} {store} {budget} {Mean = Mean} {d} e h = subst (λ (n : ℕ). StepLaw f room store budget n Mean d) e h

at_language : {f : Step} {room : ℕ} {store : List Record} {budget cost : ℕ} {A B : Language} {d : Deriving}
    → Equal A B → StepLaw f room store budget cost (Means A) d → StepLaw f room store budget cost (Means B) d
at_language e (was_done h) =
    was_done (record { kept = h.kept; inside = h.inside; means = equal_trans h.means e; paid = h.paid; again = h.again })
at_language e (was_ended h) = was_ended h

as_step : {f g : Step} {room : ℕ} {store : List Record} {budget cost : ℕ} {Mean : List Record → ℕ → Type 0} {d : Deriving}
    → ((room' : ℕ) (s : List Record) (b : ℕ) → Grows store s → f room' s b ≡ g room' s b)
    → StepLaw g room store budget cost Mean d → StepLaw f room store budget cost Mean d
as_step {cost = cost} e (was_done h) =
    was_done
    (record {
      kept = h.kept;
      inside = h.inside;
      means = h.means;
      paid = h.paid;
      again = λ room' left s s' c. e room' s (cost + left) (course_grows h.kept.grows c) ∙ h.again room' left s s' c;
    })
as_step e (was_ended h) = was_ended h

either_equal : (b : Bool) {A A' B B' : Language} → Equal A A' → Equal B B' → Equal (cond b A B) (cond b A' B')
either_equal true e f = e
either_equal false e f = f

-- The law of the derivative at every place below a depth.
abbrev LawTo : ℕ → ℕ → Type 0
LawTo depth letter =
    (room place : ℕ) (store : List Record) (budget : ℕ) → place < depth → place < length store → Ready room store
    → StepLaw (λ r s b. derive_to depth r letter place s b) room store budget (visits store place) (Means (Quotient letter (language_at store place)))
    (derive_to depth room letter place store budget)

module _ (depth letter : ℕ) (byte : IsByte letter) (ih : LawTo depth letter) where
  abbrev D : ℕ → ℕ → List Record → ℕ → Deriving
  D room p s b = derive_to depth room letter p s b

  -- Derive the place, and make the choice of x and that.
  choice_with_law : {room : ℕ} {store : List Record} {budget : ℕ} → Ready room store → (x place : ℕ) → x < length store → place < depth → place < length store
      → {A : Language} → Equal (language_at store x) A
      → StepLaw (λ r s b. choice_with (D r) r x place s b) room store budget (visits store place)
      (Means (Union A (Quotient letter (language_at store place)))) (choice_with (D room) room x place store budget)
  choice_with_law {room} {store} {budget} ready x place l m n {A} e =
      at_cost (add-zero (visits store place))
      (joined_law (λ r s b. D r place s b) (λ y r s b. making r choice_kind x y s b)
      (ih room place store budget m n ready)
      (λ y store₁ budget₁ done.
      let inside : x < length store₁ = omega (arith, grows_length done.kept.grows) in
      making_law done.kept.ready
      (two_makeable choice_kind refl inside done.inside)
      (λ p store₂ placed.
      equal_trans placed.means
      (union_equal (equal_trans (grows_language done.kept.grows x l) e) done.means))))

  -- Choice.
  choice_law : {room : ℕ} {store : List Record} {budget : ℕ} → Ready room store → (left right : ℕ) → left < depth → right < depth → left < length store → right < length store
      → StepLaw (λ r s b. derive_choice (D r) r left right s b) room store budget (visits store left + visits store right)
      (Means (Union (Quotient letter (language_at store left)) (Quotient letter (language_at store right)))) (derive_choice (D room) room left right store budget)
  choice_law {room} {store} {budget} ready left right ld rd l m =
      joined_law (λ r s b. D r left s b) (λ x r s b. choice_with (D r) r x right s b)
      (ih room left store budget ld l ready)
      (λ x store₁ budget₁ done.
      let inside : right < length store₁ = omega (arith, grows_length done.kept.grows) in
      at_cost (visits_kept done.kept.grows right m)
      (at_language
      (union_equal (equal_refl (Quotient letter (language_at store left))) (quotient_equal byte (grows_language done.kept.grows right m)))
      (choice_with_law done.kept.ready x right done.inside rd inside done.means)))

  -- Sequence.
  product_law : {room : ℕ} {store : List Record} {budget : ℕ} → Ready room store → (right product : ℕ) → right < depth → right < length store → product < length store
      → (left_marked : Bool) {A : Language} → Equal (language_at store product) A
      → StepLaw (λ r s b. after_product (D r) r right left_marked product s b) room store budget (cond left_marked (visits store right) 0)
      (Means (cond left_marked (Union A (Quotient letter (language_at store right))) A)) (after_product (D room) room right left_marked product store budget)
  product_law ready right product rd m l true e = choice_with_law ready product right l rd m e
  product_law ready right product rd m l false e = answer_law ready product l e

  sequence_law : {room : ℕ} {store : List Record} {budget : ℕ} → Ready room store → (left right : ℕ) → left < depth → right < depth → left < length store → right < length store
      → (left_marked : Bool)
      → StepLaw (λ r s b. derive_sequence (D r) r left right left_marked s b) room store budget (visits store left + cond left_marked (visits store right) 0)
      (Means (cond left_marked (Union (Concatenation (Quotient letter (language_at store left)) (language_at store right)) (Quotient letter (language_at store right)))
      (Concatenation (Quotient letter (language_at store left)) (language_at store right))))
      (derive_sequence (D room) room left right left_marked store budget)
  sequence_law {room} {store} {budget} ready left right ld rd l m left_marked =
      joined_law (λ r s b. D r left s b) (λ x r s b. and_then (making r sequence_kind x right s b) (λ y s₂ b₂. after_product (D r) r right left_marked y s₂ b₂))
      (ih room left store budget ld l ready)
      (λ x store₁ budget₁ done.
      let g₁ = done.kept.grows in
      let inside₁ : right < length store₁ = omega (arith, grows_length g₁) in
      at_cost (zero-add (cond left_marked (visits store right) 0))
      (joined_law (λ r s b. making r sequence_kind x right s b) (λ y r s b. after_product (D r) r right left_marked y s b)
      (making_law done.kept.ready
      (two_makeable sequence_kind refl done.inside inside₁)
      {Mean = Means (Concatenation (Quotient letter (language_at store left)) (language_at store right))}
      (λ p store₂ placed. equal_trans placed.means (concatenation_equal done.means (grows_language g₁ right m))))
      (λ y store₂ budget₂ done₂.
      let g₂ = grows_trans g₁ done₂.kept.grows in
      let inside₂ : right < length store₂ = omega (arith, grows_length g₂) in
      at_cost (ap (λ (n : ℕ). cond left_marked n 0) (visits_kept g₂ right m))
      (at_language
      (either_equal left_marked
      (union_equal (equal_refl (Concatenation (Quotient letter (language_at store left)) (language_at store right))) (quotient_equal byte (grows_language g₂ right m)))
      (equal_refl (Concatenation (Quotient letter (language_at store left)) (language_at store right))))
      (product_law done₂.kept.ready right y rd inside₂ done₂.inside left_marked done₂.means)))))

  -- Repeat.
  repeat_law : {room : ℕ} {store : List Record} {budget : ℕ} → Ready room store → (left self : ℕ) → left < depth → left < length store → self < length store
      → StepLaw (λ r s b. derive_repeat (D r) r left self s b) room store budget (visits store left)
      (Means (Concatenation (Quotient letter (language_at store left)) (language_at store self))) (derive_repeat (D room) room left self store budget)
  repeat_law {room} {store} {budget} ready left self ld l m =
      at_cost (add-zero (visits store left))
      (joined_law (λ r s b. D r left s b) (λ x r s b. making r sequence_kind x self s b)
      (ih room left store budget ld l ready)
      (λ x store₁ budget₁ done.
      let inside : self < length store₁ = omega (arith, grows_length done.kept.grows) in
      making_law done.kept.ready
      (two_makeable sequence_kind refl done.inside inside)
      (λ p store₂ placed. equal_trans placed.means (concatenation_equal done.means (grows_language done.kept.grows self m)))))

  -- A record that was visited, by its line of the kind table.
  module _ {room : ℕ} {store : List Record} (ready : Ready room store) (place : ℕ) (inside : place < length store) (below : place ≤ depth) where
    abbrev r : Record
    r = child store place

    abbrev m : Bool
    m = marked (child store (child store place).left)

    abbrev QuotientHere : Language
    QuotientHere = Quotient letter (language_at store place)

    -- The quotient of the record's language, by its operator.
    by_operator : Equal (Quotient letter (operator_over (kind_of r.kind) r.letter (language_at store r.left) (language_at store r.right))) QuotientHere
    by_operator = quotient_equal byte (equal_sym (language_of_record ready.good place inside))

    abbrev L : Language
    L = language_at store (child store place).left

    abbrev R : Language
    R = language_at store (child store place).right

    -- The law of the record, were its kind K.
    abbrev KindLaw : Kind → ℕ → Type 0
    KindLaw K budget =
        StepLaw (λ r' s b. derive_record K (D r') r' letter r m place s b) room store budget
        (child_visits K (counted store r.left) (counted store r.right))
        (Means (Quotient letter (operator_over K r.letter L R))) (derive_record K (D room) room letter r m place store budget)

    two : 2 ≤ length store
    two = ready.good.some

    nothing_law : (budget : ℕ) → KindLaw Nothing budget
    nothing_law budget = answer_law ready 0 (omega (arith, two)) (language_at_0 ready.good)

    empty_word_law : (budget : ℕ) → KindLaw EmptyWord budget
    empty_word_law budget =
        answer_law ready 0 (omega (arith, two)) (equal_trans (language_at_0 ready.good) (equal_sym (quotient_empty_word letter)))

    letter_law : (budget : ℕ) → KindLaw Letter budget
    letter_law budget = go (eqb r.letter letter) refl
      where
        go : (b : Bool) → eqb r.letter letter ≡ b
            → StepLaw (λ r' s b'. derived (bit b) s b') room store budget 0 (Means (Quotient letter (language (Pattern.letter r.letter)))) (derived (bit b) store budget)
        go true e = answer_law ready 1 (omega (arith, two)) (equal_trans (language_at_1 ready.good) (equal_sym (quotient_same_letter letter r.letter e)))
        go false e = answer_law ready 0 (omega (arith, two)) (equal_trans (language_at_0 ready.good) (equal_sym (quotient_other_letter letter r.letter e)))

    left_inside : r.left < place → r.left < length store
    left_inside l = omega (arith, inside)

    -- The quotient of a sequence goes by the mark of the left part.
    by_mark : r.left < place
        → Equal (cond m (Union (Concatenation (Quotient letter L) R) (Quotient letter R)) (Concatenation (Quotient letter L) R)) (Quotient letter (Concatenation L R))
    by_mark l = go m (marked_nullable ready.good r.left (left_inside l))
      where
        go : (b : Bool) → b ≡ nullable (numbered (patterns store) r.left)
            → Equal (cond b (Union (Concatenation (Quotient letter L) R) (Quotient letter R)) (Concatenation (Quotient letter L) R)) (Quotient letter (Concatenation L R))
        go true e = equal_sym (quotient_marked letter L R ((nullable_right (numbered (patterns store) r.left)).sound (sym e)))
        go false e =
            equal_sym
            (quotient_unmarked letter L R
            (λ h. false≢true (e ∙ (nullable_right (numbered (patterns store) r.left)).complete h)))

    record_law : (budget : ℕ) → Line place (child store place)
        → StepLaw (λ r' s b. derive_record (kind_of r.kind) (D r') r' letter r m place s b) room store budget
        (child_visits (kind_of r.kind) (counted store r.left) (counted store r.right))
        (Means QuotientHere) (derive_record (kind_of r.kind) (D room) room letter r m place store budget)
    record_law budget line = at_language by_operator (go (kind_of r.kind) refl line)
      where
        go : (k : Kind) → kind_of r.kind ≡ k → LineOf (columns k) place (child store place) → KindLaw k budget
        go Nothing e o = nothing_law budget
        go EmptyWord e o = empty_word_law budget
        go Letter e o = letter_law budget
        go Choice e o =
            choice_law ready r.left r.right (omega (arith, o.left)) (omega (arith, o.right)) (omega (arith, o.left)) (omega (arith, o.right))
        go Sequence e o =
            at_cost (ap (λ (b : Bool). visits store r.left + cond b (visits store r.right) 0) (sym (counted_says store r.left (left_inside o.left))))
            (at_language (by_mark o.left)
            (sequence_law ready r.left r.right (omega (arith, o.left)) (omega (arith, o.right)) (omega (arith, o.left)) (omega (arith, o.right)) m))
        go Repeat e o =
            at_language
            (equal_trans
            (concatenation_equal (equal_refl (Quotient letter L))
            (subst (λ (k : Kind). Equal (language_at store place) (operator_over k r.letter L R)) e (language_of_record ready.good place inside)))
            (equal_sym (quotient_star letter L)))
            (repeat_law ready r.left place (omega (arith, o.left)) (omega (arith, o.left)) inside)
        go Unknown e o = absurd (false≢true o.known)

    -- The record that a later store holds at the place is the same.
    as_there : (room' : ℕ) (s : List Record) (b : ℕ) → Grows store s → r.left < length store
        → derive_visited (D room') room' letter place s b ≡ derive_record (kind_of r.kind) (D room') room' letter r m place s b
    as_there room' s b g l =
        let same : (i : ℕ) → i < length store → child s i ≡ child store i
        = λ i n. ap (λ (t : List Record). child t i) g.is ∙ get_or-append store g.more _ i n in
        rw (same place inside, same r.left l) refl

    visited_law : (budget : ℕ)
        → StepLaw (λ r' s b. derive_visited (D r') r' letter place s b) room store budget
        (child_visits (kind_of r.kind) (counted store r.left) (counted store r.right))
        (Means QuotientHere) (derive_visited (D room) room letter place store budget)
    visited_law budget =
        let line = (ready.good.obeys place inside).line in
        as_step (λ room' s b g. as_there room' s b g (⊎_elim (λ l. omega arith) (λ l. omega (arith, two)) (lower_left line)))
        (record_law budget line)

-- The law, by depth.

price_at_most_one : (place : ℕ) → price place ≤ 1
price_at_most_one place = omega arith

module _ (depth letter place : ℕ) where
  abbrev visited : Step
  visited r s b = derive_visited (λ p s' b'. derive_to depth r letter p s' b') r letter place s b

  abbrev whole : Step
  whole r s b = derive_to (suc depth) r letter place s b

  pub is_unpaid : (room : ℕ) (store : List Record) (budget : ℕ) → budget < price place → whole room store budget ≡ stopped 8 store budget
  unfolding derive_to
  is_unpaid room store budget l =
      ap (λ (t : Bool). elim t as (λ _. Deriving) [ true ↦ stopped 8 store budget | false ↦ visited room store (budget - price place) ]) (lt-ltb budget (price place) l)

  pub is_paid : (room : ℕ) (store : List Record) (budget : ℕ) → price place ≤ budget → whole room store budget ≡ visited room store (budget - price place)
  unfolding derive_to
  is_paid room store budget l =
      ap (λ (t : Bool). elim t as (λ _. Deriving) [ true ↦ stopped 8 store budget | false ↦ visited room store (budget - price place) ]) (le-ltb budget (price place) l)

  module _ (room : ℕ) (store : List Record) (budget cost : ℕ) (Mean : List Record → ℕ → Type 0) where
    -- A visit that can't be paid.
    unpaid_law : Ready room store → budget < price place → StepLaw whole room store budget (price place + cost) Mean (whole room store budget)
    unpaid_law ready l =
        let none : budget ≡ 0 = omega (arith, price_at_most_one place) in
        let part : budget ≤ price place + cost + budget = omega arith in
        rw (is_unpaid room store budget l)
        (was_ended
        (record {
          kept = kept_refl ready;
          why = no_budget none;
          spent = le_refl budget;
          part = part;
        }))

    -- A visit that is paid, and what follows.
    after_visit : price place ≤ budget → {d : Deriving} → StepLaw visited room store (budget - price place) cost Mean d → StepLaw whole room store budget (price place + cost) Mean d
    after_visit l (was_done {budget'} h) =
        let total : budget ≡ price place + cost + budget' = let p = h.paid in omega arith in
        was_done
        (record {
          kept = h.kept;
          inside = h.inside;
          means = h.means;
          paid = total;
          again = λ room' left s s' c.
              let rest : price place + cost + left - price place ≡ cost + left = omega arith in
              is_paid room' s (price place + cost + left) (omega arith) ∙ ap (visited room' s) rest ∙ h.again room' left s s' c;
        })
    after_visit l (was_ended {budget'} h) =
        let spent : budget' ≤ budget = let p = h.spent in omega arith in
        let part : budget ≤ price place + cost + budget' = let p = h.part in omega arith in
        was_ended (record { kept = h.kept; why = h.why; spent = spent; part = part })

    paid_law : price place ≤ budget → StepLaw visited room store (budget - price place) cost Mean (visited room store (budget - price place))
        → StepLaw whole room store budget (price place + cost) Mean (whole room store budget)
    paid_law l h = rw (is_paid room store budget l) (after_visit l h)

one_deeper : (depth letter : ℕ) → IsByte letter → LawTo depth letter → LawTo (suc depth) letter
one_deeper depth letter byte ih room place store budget below inside ready =
    at_cost (sym (visits_of_record store place inside (ready.good.obeys place inside).line)) (go (dec_lt budget (price place)))
  where
    go : Dec (budget < price place)
        → StepLaw (λ r s b. derive_to (suc depth) r letter place s b) room store budget
        (price place + child_visits (kind_of (child store place).kind) (counted store (child store place).left) (counted store (child store place).right))
        (Means (Quotient letter (language_at store place))) (derive_to (suc depth) room letter place store budget)
    go (yes l) = unpaid_law depth letter place room store budget _ _ ready l
    go (no l) =
        paid_law depth letter place room store budget _ _ (omega arith)
        (visited_law depth letter byte ih ready place inside (omega arith) (budget - price place))

-- The law of the derivative, at any depth above the place.
pub derive_to_law : (letter : ℕ) → IsByte letter → (depth : ℕ) → LawTo depth letter
derive_to_law letter byte zero = λ room place store budget below inside ready. absurd (omega arith)
derive_to_law letter byte (suc depth) = one_deeper depth letter byte (derive_to_law letter byte depth)

pub derive_law : (letter : ℕ) → IsByte letter → (room place : ℕ) (store : List Record) (budget : ℕ) → place < length store → Ready room store
    → StepLaw (λ r s b. derive r letter place s b) room store budget (visits store place) (Means (Quotient letter (language_at store place))) (derive room letter place store budget)
unfolding derive
derive_law letter byte room place store budget inside ready = derive_to_law letter byte (suc place) room place store budget (omega arith) inside ready

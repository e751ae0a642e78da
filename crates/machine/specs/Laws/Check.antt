-- The checker's pass over a list of pairs, over any machine, and what accepted and rejected mean there. The opening pair is looked for; then pair by
-- pair in list order the marks, and for each letter the pair reached, the left's step before the right's.
use Rattle.std.specs.Prelude.{ℕ, suc, ◌<◌, Bool, true, false, ◌≡◌, length}
use mathlib.Core.List.{List, [], ◌∷◌}
use Rattle.answers.specs.Checking.{Point, at_opening, at_marks, at_letter}
use Rattle.language.specs.Word.{Listed}
use Rattle.machine.specs.Laws.Machine.{Stepped, stepped, halted, Machine, Sense}
use Rattle.machine.specs.Laws.Search.{row_at, stands_in, StandsAt, marks_agree}

-- What checking comes to, with what the machine then has.
pub data Checking (Has : Type 0) : Type 0 where
  accepted : (has : Has) → Checking Has
  rejected : (point : Point) (has : Has) → Checking Has
  cut_off : (number : ℕ) (has : Has) → Checking Has

-- Passes, or an end.
pub data Passing (Has : Type 0) : Type 0 where
  passes : (has : Has) → Passing Has
  ends : Checking Has → Passing Has

-- What follows a part of the pass.

abbrev pub checking_after : {Has : Type 0} → Passing Has → (Has → Checking Has) → Checking Has
checking_after {Has} g next = elim g as (λ _. Checking Has) [ passes h ↦ next h | ends c ↦ c ]

abbrev pub passing_after_step : {State Has : Type 0} → Stepped State Has → (State → Has → Passing Has) → Passing Has
passing_after_step {State} {Has} s next = elim s as (λ _. Passing Has) [ stepped x h ↦ next x h | halted number h ↦ ends (cut_off number h) ]

-- By whether the pair reached is listed, the marks agree, the opening pair is listed.

abbrev pub by_listed : {Has : Type 0} → ℕ → ℕ → Bool → Passing Has → Has → Passing Has
by_listed {Has} n letter listed next h = elim listed as (λ _. Passing Has) [ true ↦ next | false ↦ ends (rejected (at_letter n letter) h) ]

abbrev pub by_marks : {Has : Type 0} → ℕ → Bool → Checking Has → Has → Checking Has
by_marks {Has} n agree next h = elim agree as (λ _. Checking Has) [ true ↦ next | false ↦ rejected (at_marks n) h ]

abbrev pub by_opening : {Has : Type 0} → Bool → Checking Has → Has → Checking Has
by_opening {Has} listed next h = elim listed as (λ _. Checking Has) [ true ↦ next | false ↦ rejected at_opening h ]

module _ {State Has Row : Type 0} (M : Machine State Has Row) where
  -- The pair numbered n, of states x and y, by each of these letters in turn.
  unfoldable pub check_letters : List Row → ℕ → State → State → List ℕ → Has → Passing Has
  unfolding stands_in
  check_letters list n x y [] h = passes h
  check_letters list n x y (letter ∷ rest) h =
      passing_after_step (M.step letter x h)
      (λ x₁ h₁.
      passing_after_step (M.step letter y h₁) (λ y₂ h₂. by_listed n letter (stands_in M list x₁ y₂) (check_letters list n x y rest h₂) h₂))

  -- These pairs in order, of which the first is numbered n in the list.
  unfoldable pub check_pairs : List ℕ → List Row → ℕ → List Row → Has → Checking Has
  unfolding check_letters
  check_pairs letters list n [] h = accepted h
  check_pairs letters list n (r ∷ rest) h =
      by_marks n (marks_agree M h (M.left r) (M.right r))
      (checking_after (check_letters list n (M.left r) (M.right r) letters h) (λ h₁. check_pairs letters list (suc n) rest h₁))
      h

  -- The list, for the opening pair of states x and y.
  unfoldable pub check_list : List ℕ → List Row → State → State → Has → Checking Has
  unfolding check_pairs stands_in
  check_list letters list x y h = by_opening (stands_in M list x y) (check_pairs letters list 0 list h) h

  module _ (S : Sense State Has) where
    -- The states of every listed pair stand.
    abbrev pub Inside : Has → List Row → Type 0
    Inside h list = (n : ℕ) → n < length list → S.Stands h (M.left (row_at M list n)) × S.Stands h (M.right (row_at M list n))

    -- There is a listed pair to which both steps by the letter lead.
    pub record Reaches (h : Has) (list : List Row) (x y : State) (letter : ℕ) : Type 0 where
      pub to : ℕ
      pub listed : to < length list
      pub left : S.Leads h letter x (M.left (row_at M list to))
      pub right : S.Leads h letter y (M.right (row_at M list to))

    -- Both steps by the letter lead to two states that are no listed pair.
    pub record Misses (h : Has) (list : List Row) (x y : State) (letter : ℕ) : Type 0 where
      pub x_to : State
      pub y_to : State
      pub left : S.Leads h letter x x_to
      pub right : S.Leads h letter y y_to
      pub unlisted : StandsAt M list x_to y_to → ⊥

    -- The pair of states is right: their marks agree, and by each letter they lead to a listed pair.
    pub record RightPair (letters : List ℕ) (h : Has) (list : List Row) (x y : State) : Type 0 where
      pub agree : M.mark h x ≡ M.mark h y
      pub reaches : (c : ℕ) → Listed letters c → Reaches h list x y c

    -- A good table: the opening pair is listed, and every listed pair is right.
    pub record GoodTable (letters : List ℕ) (h : Has) (list : List Row) (x y : State) : Type 0 where
      pub opening : StandsAt M list x y
      pub right : (n : ℕ) → n < length list → RightPair letters h list (M.left (row_at M list n)) (M.right (row_at M list n))

    -- The first failing point: the list fails there, and at no point before it.
    pub data FailsAt (letters : List ℕ) (h : Has) (list : List Row) (x y : State) : Point → Type 0 where
      opening_missing : (StandsAt M list x y → ⊥) → FailsAt letters h list x y at_opening
      marks_differ : (n : ℕ) → n < length list → StandsAt M list x y
          → ((i : ℕ) → i < n → RightPair letters h list (M.left (row_at M list i)) (M.right (row_at M list i)))
          → (M.mark h (M.left (row_at M list n)) ≡ M.mark h (M.right (row_at M list n)) → ⊥)
          → FailsAt letters h list x y (at_marks n)
      not_listed : (n c : ℕ) → n < length list → StandsAt M list x y
          → ((i : ℕ) → i < n → RightPair letters h list (M.left (row_at M list i)) (M.right (row_at M list i)))
          → M.mark h (M.left (row_at M list n)) ≡ M.mark h (M.right (row_at M list n))
          → Listed letters c
          → ((d : ℕ) → Listed letters d → d < c → Reaches h list (M.left (row_at M list n)) (M.right (row_at M list n)) d)
          → Misses h list (M.left (row_at M list n)) (M.right (row_at M list n)) c
          → FailsAt letters h list x y (at_letter n c)

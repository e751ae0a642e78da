-- The pass done again. From beside what the machine had it takes the same way, step by step: every step on the way grows to the end of the pass, and so is
-- done again where the end grows to the end given. So it is accepted again, or rejected at the same point.
use Rattle.std.specs.Prelude.{ℕ, suc, Bool, true, false, ◌≡◌, refl}
use Rattle.std.proofs.Common.{arith}
use mathlib.Core.List.Memᴰ
use mathlib.Core.List.{List, [], ◌∷◌}
use Rattle.answers.specs.Checking.{Point, at_opening, at_marks, at_letter}
use Rattle.language.specs.Word.{IsByte, Listed}
use Rattle.machine.specs.Laws.Machine.{Stepped, StepLaw, was_stepped, was_halted, Machine, Sense, Lawful}
use Rattle.machine.specs.Laws.Search.{stands_in, marks_agree}
use Rattle.machine.specs.Laws.Check.{Checking, accepted, rejected, cut_off, Passing, checking_after, passing_after_step, by_listed, by_marks, by_opening}
use Rattle.machine.specs.Laws.Check.{check_letters, check_pairs, check_list, Inside}
use Rattle.machine.specs.Laws.Redoing.{Redone, redone, Redoing}
use Rattle.machine.specs.Laws.Pass.{inside_kept}

-- What the machine has at the end of a pass.
abbrev pub checking_has : {Has : Type 0} → Checking Has → Has
checking_has {Has} c = elim c as (λ _. Has) [ accepted k ↦ k | rejected point k ↦ k | cut_off number k ↦ k ]

-- The second pass comes to what the first came to, with what it has beside. Of a pass that was cut off nothing is said.
pub data AlsoChecking {Has : Type 0} (Beside : Has → Has → Type 0) : Checking Has → Checking Has → Type 0 where
  also_accepted : {k k' : Has} → Beside k k' → AlsoChecking Beside (accepted k) (accepted k')
  also_rejected : {point : Point} {k k' : Has} → Beside k k' → AlsoChecking Beside (rejected point k) (rejected point k')
  nothing_said : {number : ℕ} {k : Has} {c : Checking Has} → AlsoChecking Beside (cut_off number k) c

module _ {State Has Row : Type 0} {M : Machine State Has Row} {S : Sense State Has} (laws : Lawful M S) {end : Has} {Beside : Has → Has → Type 0}
    (redoing : Redoing M S end Beside) where
  -- A part of the pass and what follows it, from what the machine has: it grows, and is done again.
  record Goes (pass : Has → Checking Has) (h : Has) : Type 0 where
    grows : S.Grows h (checking_has (pass h))
    again : {h' : Has} → Beside h h' → S.Grows (checking_has (pass h)) end → AlsoChecking Beside (pass h) (pass h')

  -- A rejection, and a pass by a test that does not ask what the machine has.

  rejects : (point : Point) (h : Has) → Goes (rejected point) h
  rejects point h = record { grows = laws.grows_refl h; again = λ beside g. also_rejected beside }

  by_test : {h : Has} (pass : Bool → Has → Checking Has) → Goes (pass true) h → Goes (pass false) h → (t : Bool) → Goes (pass t) h
  by_test pass f g true = f
  by_test pass f g false = g

  -- A step, and what follows from the state it leads to.
  step_goes : (c : ℕ) → IsByte c → (z : State) (then : State → Has → Passing Has) (next : Has → Checking Has) {h : Has} → S.Ready h → S.Stands h z
      → ((k : Has) → S.Grows h k → S.Ready k → (z₁ : State) → Goes (λ l. checking_after (then z₁ l) next) k)
      → Goes (λ l. checking_after (passing_after_step (M.step c z l) then) next) h
  step_goes c byte z then next {h} ready stands after = go refl (laws.step_law ready c byte z stands)
    where
      again_from : {z₁ : State} {k : Has} → Goes (λ l. checking_after (then z₁ l) next) k → S.Grows (checking_has (checking_after (then z₁ k) next)) end
          → {s : Stepped State Has} → Redone Beside z₁ k s → AlsoChecking Beside (checking_after (then z₁ k) next) (checking_after (passing_after_step s then) next)
      again_from f g (redone beside) = f.again beside g

      go : {s : Stepped State Has} → M.step c z h ≡ s → StepLaw S h c z s → Goes (λ l. checking_after (passing_after_step (M.step c z l) then) next) h
      go e (was_stepped {y = z₁} {k} g ready₁ there leads) =
          let f = after k g ready₁ z₁ in
          record {
            grows = rw (e) (laws.grows_trans g f.grows);
            again = λ beside m. rw (e) (again_from f (rw (e) at m) (redoing.steps beside ready c byte z stands e (laws.grows_trans f.grows (rw (e) at m))));
          }
      go e (was_halted g ready₁ stops) = record { grows = rw (e) g; again = λ beside m. rw (e) nothing_said }

  module _ {letters : List ℕ} (bytes : (c : ℕ) → Listed letters c → IsByte c) (list : List Row) where
    -- The pair numbered n, of states x and y, by each of these letters, and what follows.
    letters_go : (n : ℕ) (x y : State) (next : Has → Checking Has) (rest : List ℕ) → ((c : ℕ) → Listed rest c → IsByte c)
        → {h : Has} → S.Ready h → S.Stands h x → S.Stands h y → ((k : Has) → S.Grows h k → S.Ready k → Goes next k)
        → Goes (λ k. checking_after (check_letters M list n x y rest k) next) h
    unfolding check_letters
    letters_go n x y next [] among {h} ready p q later = later h (laws.grows_refl h) ready
    letters_go n x y next (c ∷ rest) among {h} ready p q later =
        let byte = among c (Memᴰ.head refl) in
        step_goes c byte x _ next ready p
        (λ k₁ g₁ ready₁ x₁.
        step_goes c byte y _ next ready₁ (laws.stands_kept g₁ y q)
        (λ k₂ g₂ ready₂ y₂.
        let g : S.Grows h k₂ = laws.grows_trans g₁ g₂ in
        by_test (λ t k. checking_after (by_listed n c t (check_letters M list n x y rest k) k) next)
        (letters_go n x y next rest (λ d m. among d (Memᴰ.tail m)) ready₂ (laws.stands_kept g x p) (laws.stands_kept g y q) (λ k m. later k (laws.grows_trans g m)))
        (rejects (at_letter n c) k₂)
        (stands_in M list x₁ y₂)))

    -- These pairs in order, of which the first is numbered n in the list.
    pairs_go : (n : ℕ) (rest : List Row) {h : Has} → S.Ready h → Inside M S h rest → Goes (check_pairs M letters list n rest) h
    unfolding check_pairs
    pairs_go n [] {h} ready inside = record { grows = laws.grows_refl h; again = λ beside g. also_accepted beside }
    pairs_go n (r ∷ rest) {h} ready inside =
        let here = inside 0 (omega arith) in
        let f = by_test
        (λ t k. by_marks n t (checking_after (check_letters M list n (M.left r) (M.right r) letters k) (check_pairs M letters list (suc n) rest)) k)
        (letters_go n (M.left r) (M.right r) (check_pairs M letters list (suc n) rest) letters bytes ready here.0 here.1
        (λ k g ready₁. pairs_go (suc n) rest ready₁ (inside_kept laws g rest (λ i l. inside (suc i) (omega arith)))))
        (rejects (at_marks n) h)
        (marks_agree M h (M.left r) (M.right r)) in
        record {
          grows = f.grows;
          again = λ beside g. rw (redoing.marks beside (M.left r), redoing.marks beside (M.right r)) (f.again beside g);
        }

    -- The pass, done again from beside what the machine had, comes to the same where what it came to grows to the end given.
    pub check_again : (x y : State) {h h' : Has} → S.Ready h → Inside M S h list → Beside h h' → S.Grows (checking_has (check_list M letters list x y h)) end
        → AlsoChecking Beside (check_list M letters list x y h) (check_list M letters list x y h')
    unfolding check_list
    check_again x y {h} ready inside =
        (by_test (λ t k. by_opening t (check_pairs M letters list 0 list k) k) (pairs_go 0 list ready inside) (rejects at_opening h) (stands_in M list x y)).again

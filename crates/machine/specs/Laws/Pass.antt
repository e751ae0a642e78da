-- The law of the checker's pass over any machine. Accepted: the table is good with what the machine then has. Rejected: the list fails there, at the
-- point told, and at none before it. Cut off: a step stopped. What was found of a pair stays true while the machine grows, so it holds at the end.
use Rattle.std.specs.Prelude.{ℕ, suc, ◌+◌, ◌<◌, ◌≤◌, Bool, ◌⊎◌, ◌≡◌, length}
use Rattle.std.proofs.Math.Decide.{dec_lt}
use Rattle.std.proofs.Math.Nat.{add-zero}
use Rattle.std.proofs.Common.{arith, inl, inr, ⊎_elim, sym, ◌∙◌}
use Rattle.std.proofs.Math.Bool.{true, false}
use Rattle.std.proofs.lemmas.Bool.{false≢true}
use mathlib.Core.List.Memᴰ
use mathlib.Core.List.{List, [], ◌∷◌}
use Rattle.std.proofs.Math.Path.{refl, ap}
use Rattle.answers.specs.Checking.{Point}
use Rattle.language.specs.Word.{IsByte, Listed}
use Rattle.language.proofs.Laws.Rising.{Rising, none_rise, rises}
use Rattle.language.proofs.Laws.Tests.{beq_tells}
use Rattle.machine.specs.Laws.Machine.{Stepped, StepLaw, was_stepped, was_halted, Machine, Sense, Lawful}
use Rattle.machine.specs.Laws.Search.{row_at, stands_in, StandsAt, marks_agree}
use Rattle.machine.specs.Laws.Check.{Checking, accepted, rejected, cut_off, Passing, checking_after, passing_after_step, by_listed, by_marks, by_opening}
use Rattle.machine.specs.Laws.Check.{check_letters, check_pairs, check_list, Inside, Reaches, RightPair, GoodTable, FailsAt, opening_missing, marks_differ, not_listed}
use Rattle.machine.specs.Laws.Table.{stands_at, stands_nowhere}

module _ {State Has Row : Type 0} (M : Machine State Has Row) (S : Sense State Has) where
  -- The law of the pass over a list, for the opening pair of states x and y.
  pub data CheckLaw (letters : List ℕ) (list : List Row) (x y : State) (h : Has) : Checking Has → Type 0 where
    was_accepted : {k : Has} → S.Grows h k → S.Ready k → GoodTable M S letters k list x y → CheckLaw letters list x y h (accepted k)
    was_rejected : {point : Point} {k : Has} → S.Grows h k → S.Ready k → FailsAt M S letters k list x y point → CheckLaw letters list x y h (rejected point k)
    was_cut_off : {number : ℕ} {k : Has} → S.Grows h k → S.Ready k → S.Stops k number → CheckLaw letters list x y h (cut_off number k)

module _ {State Has Row : Type 0} {M : Machine State Has Row} {S : Sense State Has} (laws : Lawful M S) where
  -- A good table fails at no point: a letter leads to one pair.
  pub good_not_failing : {letters : List ℕ} {h : Has} {list : List Row} {x y : State} {point : Point}
      → GoodTable M S letters h list x y → FailsAt M S letters h list x y point → ⊥
  good_not_failing t (opening_missing none) = none t.opening
  good_not_failing t (marks_differ n l o before differ) = differ (t.right n l).agree
  good_not_failing t (not_listed n c l o before agree listed reached misses) =
      let r = (t.right n l).reaches c listed in
      misses.unlisted
      (record {
        at = r.to;
        inside = r.listed;
        states = record { left = laws.leads_once c _ r.left misses.left; right = laws.leads_once c _ r.right misses.right };
      })

  -- What was found of a pair stays true while the machine grows.
  module _ {h k : Has} (g : S.Grows h k) where
    pub inside_kept : (list : List Row) → Inside M S h list → Inside M S k list
    inside_kept list inside n l = (laws.stands_kept g _ (inside n l).0, laws.stands_kept g _ (inside n l).1)

    module _ {x y : State} (l : S.Stands h x) (m : S.Stands h y) where
      pub agree_kept : M.mark h x ≡ M.mark h y → M.mark k x ≡ M.mark k y
      agree_kept e = laws.mark_kept g x l ∙ e ∙ sym (laws.mark_kept g y m)

      pub reaches_kept : {list : List Row} → S.Ready h → (c : ℕ) → IsByte c → Reaches M S h list x y c → Reaches M S k list x y c
      reaches_kept ready c byte r =
          record {
            to = r.to;
            listed = r.listed;
            left = laws.leads_kept ready g c byte x l _ r.left;
            right = laws.leads_kept ready g c byte y m _ r.right;
          }

      pub right_kept : {list : List Row} {letters : List ℕ} → S.Ready h → ((c : ℕ) → Listed letters c → IsByte c)
          → RightPair M S letters h list x y → RightPair M S letters k list x y
      right_kept ready bytes p = record { agree = agree_kept p.agree; reaches = λ c j. reaches_kept ready c (bytes c j) (p.reaches c j) }

  -- The pass from a start, over a list that has the opening pair.
  module _ {letters : List ℕ} (rising : Rising letters) (bytes : (c : ℕ) → Listed letters c → IsByte c) (list : List Row) (x y : State)
      (opening : StandsAt M list x y) (start : Has) where
    -- The two states of the pair numbered n.

    abbrev left_at : ℕ → State
    left_at n = M.left (row_at M list n)

    abbrev right_at : ℕ → State
    right_at n = M.right (row_at M list n)

    -- That pair by these letters.
    abbrev letters_at : ℕ → List ℕ → Has → Passing Has
    letters_at n rest h = check_letters M list n (left_at n) (right_at n) rest h

    -- The law of the pass from the start.
    abbrev Law : Checking Has → Type 0
    Law c = CheckLaw M S letters list x y start c

    -- The pass has come to the pair numbered n: the pairs before it are right.
    record Before (h : Has) (n : ℕ) : Type 0 where
      grows : S.Grows start h
      ready : S.Ready h
      inside : Inside M S h list
      fits : n ≤ length list
      right : (i : ℕ) → i < n → RightPair M S letters h list (left_at i) (right_at i)

    -- It has come to these letters of that pair: the marks agree, and each letter is one of these or leads to a listed pair.
    record Along (h : Has) (n : ℕ) (rest : List ℕ) : Type 0 where
      before : Before h n
      listed : n < length list
      agree : M.mark h (left_at n) ≡ M.mark h (right_at n)
      reached : (c : ℕ) → Listed letters c → Listed rest c ⊎ Reaches M S h list (left_at n) (right_at n) c

    -- Where the pass has come, when the machine has grown.
    module _ {h k : Has} (g : S.Grows h k) (ready : S.Ready k) {n : ℕ} where
      before_kept : Before h n → Before k n
      before_kept f =
          record {
            grows = laws.grows_trans f.grows g;
            ready = ready;
            inside = inside_kept g list f.inside;
            fits = f.fits;
            right = λ i l.
                let t = f.inside i (let m = f.fits in omega arith) in
                right_kept g t.0 t.1 f.ready bytes (f.right i l);
          }

      along_kept : {rest : List ℕ} → Along h n rest → Along k n rest
      along_kept f =
          let t = f.before.inside n f.listed in
          record {
            before = before_kept f.before;
            listed = f.listed;
            agree = agree_kept g t.0 t.1 f.agree;
            reached = λ c l. ⊎_elim inl (λ r. inr (reaches_kept g t.0 t.1 f.before.ready c (bytes c l) r)) (f.reached c l);
          }

    -- With no letter left the pair is right.
    passed : {h : Has} {n : ℕ} → Along h n [] → Before h (suc n)
    passed {h} {n} f =
        record {
          grows = f.before.grows;
          ready = f.before.ready;
          inside = f.before.inside;
          fits = f.listed;
          right = λ i l. go i l (dec_lt i n);
        }
      where
        go : (i : ℕ) → i < suc n → Dec (i < n) → RightPair M S letters h list (left_at i) (right_at i)
        go i l (yes m) = f.before.right i m
        go i l (no m) =
            let e : i ≡ n = omega arith in
            rw (e) (record { agree = f.agree; reaches = λ c j. ⊎_elim (λ k. absurd (Memᴰ.not-nil k)) (λ r. r) (f.reached c j) })

    -- The pair numbered n by a letter that is lower than those behind it, and what follows.
    module _ (n c : ℕ) (rest : List ℕ) (among : Listed letters c) (first : (d : ℕ) → Listed rest d → c < d) (next : Has → Checking Has)
        (later : (h : Has) → Along h n rest → Law (checking_after (letters_at n rest h) next)) where
      -- The pair reached is looked for in the list.
      looked_law : {h : Has} → Along h n (c ∷ rest) → {x₁ y₂ : State} → S.Leads h c (left_at n) x₁ → S.Leads h c (right_at n) y₂
          → Law (checking_after (by_listed n c (stands_in M list x₁ y₂) (letters_at n rest h) h) next)
      looked_law {h} f {x₁} {y₂} p q = go (stands_in M list x₁ y₂) refl
        where
          go : (t : Bool) → stands_in M list x₁ y₂ ≡ t → Law (checking_after (by_listed n c t (letters_at n rest h) h) next)
          go true e =
              let s = stands_at laws list x₁ y₂ e in
              let here : Reaches M S h list (left_at n) (right_at n) c =
              record { to = s.at; listed = s.inside; left = rw s.states.left p; right = rw s.states.right q } in
              later h
              (record {
                before = f.before;
                listed = f.listed;
                agree = f.agree;
                reached = λ d m. ⊎_elim (λ k. ⊎_elim (λ is. inr (rw (is) here)) inl (Memᴰ.cases_cons k)) inr (f.reached d m);
              })
          go false e =
              was_rejected f.before.grows f.before.ready
              (not_listed n c f.listed opening f.before.right f.agree among
              (λ d m j.
              ⊎_elim (λ k. ⊎_elim (λ is. absurd (omega arith)) (λ behind. let l = first d behind in absurd (omega arith)) (Memᴰ.cases_cons k)) (λ r. r) (f.reached d m))
              (record { x_to = x₁; y_to = y₂; left = p; right = q; unlisted = stands_nowhere laws list x₁ y₂ e }))

      -- A step by the letter, and what follows from the state it leads to.
      stepped_law : (z : State) (then : State → Has → Passing Has) {h : Has} → Along h n (c ∷ rest) → S.Stands h z
          → ((k : Has) → S.Grows h k → Along k n (c ∷ rest) → (z₁ : State) → S.Leads k c z z₁ → Law (checking_after (then z₁ k) next))
          → Law (checking_after (passing_after_step (M.step c z h) then) next)
      stepped_law z then {h} f stands after = go (laws.step_law f.before.ready c (bytes c among) z stands)
        where
          go : {s : Stepped State Has} → StepLaw S h c z s → Law (checking_after (passing_after_step s then) next)
          go (was_stepped g ready there leads) = after _ g (along_kept g ready f) _ leads
          go (was_halted g ready stops) = was_cut_off (laws.grows_trans f.before.grows g) ready stops

      -- The letter: the left's step, then the right's.
      letter_law : {h : Has} → Along h n (c ∷ rest) → Law (checking_after (letters_at n (c ∷ rest) h) next)
      unfolding check_letters
      letter_law f =
          stepped_law (left_at n) _ f (f.before.inside n f.listed).0
          (λ k g f₁ x₁ p.
          let t = f₁.before.inside n f.listed in
          stepped_law (right_at n) _ f₁ t.1
          (λ l m f₂ y₂ q. looked_law f₂ (laws.leads_kept f₁.before.ready m c (bytes c among) (left_at n) t.0 x₁ p) q))

    -- The pair numbered n by letters that rise, and what follows.
    letters_law : (n : ℕ) (next : Has → Checking Has) → ((h : Has) → Before h (suc n) → Law (next h)) → {rest : List ℕ} → Rising rest
        → ((c : ℕ) → Listed rest c → Listed letters c) → {h : Has} → Along h n rest → Law (checking_after (letters_at n rest h) next)
    unfolding check_letters
    letters_law n next later none_rise among {h} f = later h (passed f)
    letters_law n next later (rises {c} {l = rest} first rise) among f =
        letter_law n c rest (among c (Memᴰ.head refl)) first next (λ k. letters_law n next later rise (λ d m. among d (Memᴰ.tail m))) f

    -- The pair numbered n, and what follows.
    pair_law : (n : ℕ) → n < length list → (next : Has → Checking Has) → ((h : Has) → Before h (suc n) → Law (next h)) → {h : Has} → Before h n
        → Law (by_marks n (marks_agree M h (left_at n) (right_at n)) (checking_after (letters_at n letters h) next) h)
    pair_law n l next later {h} f = go (marks_agree M h (left_at n) (right_at n)) refl
      where
        go : (t : Bool) → marks_agree M h (left_at n) (right_at n) ≡ t → Law (by_marks n t (checking_after (letters_at n letters h) next) h)
        go true e = letters_law n next later rising (λ c m. m) (record { before = f; listed = l; agree = (beq_tells _ _).sound e; reached = λ c m. inl m })
        go false e = was_rejected f.grows f.ready (marks_differ n l opening f.right (λ same. false≢true (sym e ∙ (beq_tells _ _).complete same)))

    -- These pairs in order, of which the first is numbered n in the list.
    pairs_law : (n : ℕ) (rest : List Row) → n + length rest ≡ length list → ((i : ℕ) → row_at M rest i ≡ row_at M list (n + i)) → {h : Has} → Before h n
        → Law (check_pairs M letters list n rest h)
    unfolding check_pairs
    pairs_law n [] e same f = was_accepted f.grows f.ready (record { opening = opening; right = λ i l. f.right i (omega arith) })
    pairs_law n (r ∷ rest) e same f =
        rw (same 0, add-zero n)
        (pair_law n (omega arith) (check_pairs M letters list (suc n) rest)
        (λ k. pairs_law (suc n) rest (omega arith) (λ i. same (suc i) ∙ ap (row_at M list) (omega arith))) f)

  -- The law of the pass.
  pub check_law : {letters : List ℕ} → Rising letters → ((c : ℕ) → Listed letters c → IsByte c) → (list : List Row) (x y : State) {h : Has} → S.Ready h → Inside M S h list
      → CheckLaw M S letters list x y h (check_list M letters list x y h)
  unfolding check_list
  check_law {letters} rising bytes list x y {h} ready inside = go (stands_in M list x y) refl
    where
      go : (t : Bool) → stands_in M list x y ≡ t → CheckLaw M S letters list x y h (by_opening t (check_pairs M letters list 0 list h) h)
      go false e = was_rejected (laws.grows_refl h) ready (opening_missing (stands_nowhere laws list x y e))
      go true e =
          pairs_law rising bytes list x y (stands_at laws list x y e) h 0 list (omega arith) (λ i. ap (row_at M list) (omega arith))
          (record { grows = laws.grows_refl h; ready = ready; inside = inside; fits = omega arith; right = λ i l. absurd (omega arith) })

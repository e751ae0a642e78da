-- The store as a machine: its places are the states, and what it has is a work room of so many places, the store in it and the budget left.
-- It is lawful, its steps have the price of their visits, and they can be done again, since all this holds of a derivation.
use Rattle.std.specs.Prelude.{ℕ, ◌+◌, ◌-◌, ◌<◌, ◌≤◌, List, [], ◌≡◌, refl, length}
use Rattle.std.proofs.Common.{arith, sym, ◌∙◌, ap, subst}
use Rattle.std.proofs.Math.ListN.{get_or-append}
use Rattle.language.specs.Word.{IsByte}
use Rattle.language.proofs.Laws.Tests.{Tells}
use Rattle.language.proofs.Laws.Quotient.{Quotient}
use Rattle.language.proofs.Laws.Derivative.{nullable_right}
use Rattle.machine.specs.Laws.Machine.{stepped, Sense, StepLaw, was_stepped, was_halted, Lawful}
use Rattle.machine.specs.Laws.Price.{Priced}
use Rattle.machine.specs.Laws.Redoing.{Redone, redone, Redoing}
use Rattle.records.specs.declared.record.Record.{Record}
use Rattle.records.specs.Record.{child}
use Rattle.cards.specs.Mark.{marked}
use Rattle.cards.specs.Meaning.{patterns, numbered}
use Rattle.store.specs.Good.{Good}
use Rattle.store.specs.Laws.Wall.{Grows, Ready}
use Rattle.store.proofs.Laws.Wall.{grows_refl, grows_trans, grows_length, grows_language, replay, anew}
use Rattle.store.proofs.Laws.Making.{marked_nullable}
use Rattle.store.proofs.Laws.Languages.{language_at}
use Rattle.derivative.specs.Derivative.{Deriving, derived, derive}
use Rattle.derivative.specs.Visits.{visits}
use Rattle.derivative.proofs.Laws.Steps.{Done, Why, was_done, was_ended}
use Rattle.derivative.proofs.Laws.Visits.{visits_kept}
use Rattle.derivative.proofs.Laws.Derivative.{Means, derive_law}
use Rattle.pairs.specs.Laws.Table.{has_both, both_had}
use Rattle.searching.specs.Laws.StoreMachine.{Having, having, of_deriving, store_machine}
use Rattle.searching.proofs.Laws.Parts.{DeriveLaw}

-- The second has the first's room, its store with records added at the end, and no more budget.
pub record Grown (h k : Having) : Type 0 where
  pub room : k.room ≡ h.room
  pub store : Grows h.store k.store
  pub spent : k.budget ≤ h.budget

-- In the store the letter leads from one place to the other at the cost of the visits, and nothing is added.
abbrev pub LeadsTo : List Record → ℕ → ℕ → ℕ → Type 0
LeadsTo store c x y = (room rest : ℕ) → derive room c x store (visits store x + rest) ≡ derived y store rest

-- What is meant: the language at a place of the store.
abbrev pub store_sense : Sense ℕ Having
store_sense =
    record {
      accepts = λ h x. language_at h.store x;
      Stands = λ h x. x < length h.store;
      Ready = λ h. Ready h.room h.store;
      Grows = Grown;
      Leads = λ h c x y. LeadsTo h.store c x y;
      Stops = λ h number. Why h.room h.store h.budget number;
    }

-- The mark at a place of a good store tells whether the empty word is in its language.
pub mark_tells : {store : List Record} → Good store → (place : ℕ) → place < length store → Tells (marked (child store place)) (language_at store place [])
mark_tells {store} g place l =
    let e = marked_nullable g place l in
    record {
      sound = λ m. (nullable_right (numbered (patterns store) place)).sound (sym e ∙ m);
      complete = λ h. e ∙ (nullable_right (numbered (patterns store) place)).complete h;
    }

-- It stays as it is when records are added.
pub marks_kept : {store store' : List Record} → Grows store store' → (place : ℕ) → place < length store → marked (child store' place) ≡ marked (child store place)
marks_kept {store} g place l = ap marked (ap (λ (s : List Record). child s place) g.is ∙ get_or-append store g.more _ place l)

-- The derivation from h of the place x by the letter c was done, and came to the place y and to k.
abbrev pub Derived : Having → ℕ → ℕ → ℕ → Having → Type 0
Derived h c x y k =
    Done (λ r s b. derive r c x s b) h.room h.store h.budget (visits h.store x) (Means (Quotient c (language_at h.store x))) y k.store k.budget

module _ {h : Having} (ready : Ready h.room h.store) (c : ℕ) (byte : IsByte c) (x : ℕ) (l : x < length h.store) where
  -- A step that comes to a place is such a derivation.
  pub step_done : {y : ℕ} {k : Having} → store_machine.step c x h ≡ stepped y k → Derived h c x y k
  step_done {y} {k} e = go (derive_law c byte h.room x h.store h.budget l ready) e
    where
      go : {d : Deriving} → DeriveLaw c x h.room h.store h.budget d → of_deriving h.room d ≡ stepped y k → Derived h c x y k
      go (was_done {place} {store'} {budget'} a) f =
          let p : place ≡ y = cc in
          let q : having h.room store' budget' ≡ k = cc in
          subst (λ (z : ℕ). Derived h c x z k) p (subst (Derived h c x place) q a)
      go (was_ended a) f = let z : ◌≡◌ {A = ℕ} 0 1 = cc in absurd (omega arith)

  -- The law of a step is the law of the derivative.
  step_law : StepLaw store_sense h c x (store_machine.step c x h)
  step_law = go (derive_law c byte h.room x h.store h.budget l ready)
    where
      go : {d : Deriving} → DeriveLaw c x h.room h.store h.budget d → StepLaw store_sense h c x (of_deriving h.room d)
      go (was_done {store'} {budget'} a) =
          let spent : budget' ≤ h.budget = omega arith in
          was_stepped (record { room = refl; store = a.kept.grows; spent = spent }) a.kept.ready a.inside
          (λ room' rest. rw (visits_kept a.kept.grows x l) (a.again room' rest store' store' (replay (grows_refl store'))))
      go (was_ended a) = was_halted (record { room = refl; store = a.kept.grows; spent = a.spent }) a.kept.ready a.why

-- The letter leads to one place.
pub leads_once : {store : List Record} (c x : ℕ) {y z : ℕ} → LeadsTo store c x y → LeadsTo store c x z → y ≡ z
leads_once {store} c x {y} {z} h k =
    let e : derived y store 0 ≡ derived z store 0 = sym (h 0 0) ∙ k 0 0 in
    cc

module _ {room : ℕ} {store : List Record} (ready : Ready room store) (c : ℕ) (byte : IsByte c) where
  -- A derivation that leads to a place was done: the place stands in the store and means the quotient.
  pub leads_done : (x : ℕ) {y : ℕ} → x < length store → LeadsTo store c x y → Derived (having room store (visits store x + 0)) c x y (having room store 0)
  leads_done x l leads = step_done {h = having room store (visits store x + 0)} ready c byte x l (ap (of_deriving room) (leads room 0))

  -- It leads there again in a store that has grown.
  pub leads_grows : {store' : List Record} → Grows store store' → (x : ℕ) {y : ℕ} → x < length store → LeadsTo store c x y → LeadsTo store' c x y
  leads_grows {store'} g x l leads = λ room' rest. rw (visits_kept g x l) ((leads_done x l leads).again room' rest store' store' (replay g))

-- The machine is lawful.
pub store_lawful : Lawful store_machine store_sense
store_lawful =
    record {
      row_left = λ x y n c. refl;
      row_right = λ x y n c. refl;
      row_origin = λ x y n c. refl;
      row_letter = λ x y n c. refl;
      has_states_tells = λ p x y.
          record {
            sound = λ e. let both = has_both p x y e in record { left = both.0; right = both.1 };
            complete = λ s. both_had p x y s.left s.right;
          };
      grows_refl = λ h. record { room = refl; store = grows_refl h.store; spent = omega arith };
      grows_trans = λ g i. record { room = i.room ∙ g.room; store = grows_trans g.store i.store; spent = omega arith };
      stands_kept = λ g x l. omega (arith, grows_length g.store);
      mark_kept = λ g x l. marks_kept g.store x l;
      accepts_kept = λ g x l. grows_language g.store x l;
      leads_kept = λ ready g c byte x l y leads. leads_grows ready c byte g.store x l leads;
      mark_tells = λ ready x l. mark_tells ready.good x l;
      leads_means = λ ready c byte x l y leads. (leads_done ready c byte x l leads).means;
      leads_once = leads_once;
      step_law = λ {h} ready c byte x l. step_law {h = h} ready c byte x l;
    }

-- A step costs the visits of its place.
unfoldable pub store_priced : Priced store_machine store_sense
store_priced =
    record {
      unspent = λ h. h.budget;
      with_unspent = λ h n. having h.room h.store n;
      price = λ h x. visits h.store x;
      marks = λ h n x. refl;
      price_kept = λ g x l. visits_kept g.store x l;
      paid = λ {h} ready c byte x l e. (step_done {h = h} ready c byte x l e).paid;
      leads_again = λ {h} c x y leads rest. ap (of_deriving h.room) (leads h.room rest);
    }

-- Beside h: the same store, in a room that holds the end's store, with a budget that leaves `rest` where h leaves the end's budget.
pub record Beside (e : Having) (rest : ℕ) (h h' : Having) : Type 0 where
  pub store : h'.store ≡ h.store
  pub budget : h'.budget + e.budget ≡ h.budget + rest
  pub fits : length e.store ≤ h'.room

-- A derivation that was done on the way to the end is done again beside.
module _ (e : Having) (rest : ℕ) {h h' : Having} (b : Beside e rest h h') (c x : ℕ) {y : ℕ} {k : Having} (done : Derived h c x y k) (g : Grown k e) where
  abbrev left : ℕ
  left = k.budget - e.budget + rest

  done_again : Redone (Beside e rest) y k (store_machine.step c x h')
  done_again =
      let now : h'.budget ≡ visits h.store x + left = omega arith in
      let then : left + e.budget ≡ k.budget + rest = omega arith in
      rw (b.store, now, done.again h'.room left h.store k.store (anew (omega (arith, grows_length g.store))))
      (redone (record { store = refl; budget = then; fits = b.fits }))

-- So every step on the way to the end is.
pub store_redoing : (e : Having) (rest : ℕ) → Redoing store_machine store_sense e (Beside e rest)
store_redoing e rest =
    record {
      marks = λ b x. ap (λ (s : List Record). marked (child s x)) b.store;
      steps = λ {h} b ready c byte x l eq g. done_again e rest b c x (step_done {h = h} ready c byte x l eq) g;
    }

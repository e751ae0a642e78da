-- Matching in a work room: what the code answers of following and of judging, with what it leaves, is what the next step goes on from, since the
-- store that stands in the room is good again.
use Rattle.std.specs.Prelude.{ℕ, suc, ◌+◌, ◌<◌, ◌≤◌, Bool, List, [], ◌≡◌, refl, length, get_or}
use Rattle.std.proofs.Common.{add-one, arith, sym, ◌∙◌, ap₂, drop-cons}
use Rattle.std.proofs.Math.Path.{ap}
use Rattle.std.proofs.Math.ListN.{drop, drop_of_length-le}
use Rattle.std.specs.declared.result.Result.{Result}
use Rattle.std.specs.declared.result.Result.TheVariants.{Ok, Err}
use Rattle.refusals.specs.declared.refusal.Refusal.{Refusal}
use Rattle.language.specs.Word.{Bytes}
use Rattle.records.specs.declared.record.Record.{Record}
use Rattle.records.specs.Record.{records, child}
use Rattle.refusals.specs.Order.{Good}
use Rattle.cards.specs.Examine.{pattern_card}
use Rattle.cards.specs.Mark.{marked}
use Rattle.store.specs.declared.work.Work.{Work}
use Rattle.store.specs.Room.{places_of, store_in, laid}
use Rattle.store.specs.Work.{store_of, space_of}
use Rattle.store.proofs.Laws.Room.{laid_same, laid_laid}
use Rattle.store.specs.Laws.Wall.{Ready, Kept}
use Rattle.store.proofs.Laws.Wall.{grows_length, kept_refl, kept_trans}
use Rattle.store.proofs.Laws.GoodRoom.{room_ready, length_store_in, places_after, store_after}
use Rattle.loading.specs.Loading.{root, Loading, loaded, load, after_loading}
use Rattle.loading.specs.Told.{Enters, entering_answer}
use Rattle.loading.proofs.Laws.Loading.{LoadLaw, all_loaded, was_full, load_law}
use Rattle.loading.proofs.Laws.Cards.{good_card, card_loaded}
use Rattle.derivative.specs.Derivative.{Deriving, and_then, derive}
use Rattle.derivative.specs.Told.{deriving_told, Comes}
use Rattle.derivative.proofs.Laws.Derivative.{derive_law}
use Rattle.derivative.proofs.Laws.Rooms.{Keeps, derives, stops, step_keeps, in_store}
use Rattle.matching.specs.Fits.{Outcome, follow, judged, follow_loaded}
use Rattle.matching.specs.Told.{Judges}
use Rattle.matching.proofs.Laws.Follow.{left_of, follow_law, follow_visits}

-- What following a word from a place of the store comes to.
abbrev pub following_in : Work → List ℕ → ℕ → Deriving
following_in w word place = follow (space_of w) word place (store_of w) w.budget

-- What a derivation keeps, by the answer that tells it.

kept_told : {cap : ℕ} {store store' : List Record} (answer : Result ℕ Refusal) (left : ℕ) → Keeps cap store (deriving_told answer store' left)
    → Kept cap store store'
kept_told (Ok place) left (derives k l) = k
kept_told (Err refusal) left (stops k) = k

left_told : (answer : Result ℕ Refusal) (store : List Record) (left : ℕ) → left_of (deriving_told answer store left) ≡ left
left_told (Ok place) store left = refl
left_told (Err refusal) store left = refl

-- The store of a work room, and the places then taken.
work_ready : (w : Work) → Ready (space_of w) (store_of w)
work_ready w = room_ready w.good

taken_in : (w : Work) → length (store_of w) ≡ w.places
taken_in w = length_store_in w.room.now w.places

-- The first `at` letters of the word are followed from the work `w₀`: `here` is reached, from where the rest is followed.
pub record Underway (w₀ : Work) (place : ℕ) (word : List ℕ) (w : Work) (here at : ℕ) : Type 0 where
  pub same_room : w.room.ghost_name ≡ w₀.room.ghost_name
  pub room_is : w.room.now ≡ laid (store_of w) w₀.room.now
  pub kept : Kept (space_of w₀) (store_of w₀) (store_of w)
  pub inside : here < w.places
  pub rest : following_in w₀ word place ≡ follow (space_of w₀) (drop at word) here (store_of w) w.budget

-- At first none is followed.
pub at_first : (w : Work) {place : ℕ} (word : List ℕ) → place < w.places → Underway w place word w place 0
at_first w word l =
    record {
      same_room = refl;
      room_is = sym (laid_same w.places w.room.now w.good.fits w.good.bytes);
      kept = kept_refl (work_ready w);
      inside = l;
      rest = refl;
    }

module _ {w₀ : Work} {place : ℕ} {word : List ℕ} {w : Work} {here at : ℕ} (u : Underway w₀ place word w here at) where
  same_space : space_of w ≡ space_of w₀
  same_space = ap places_of u.room_is ∙ places_after w₀.room.now u.kept

  -- Where no letter is left, the place reached is the answer.
  pub at_last : length word ≤ at → Comes w₀ (following_in w₀ word place) (Ok here) w
  unfolding follow
  at_last l =
      let e : drop at word ≡ [] = drop_of_length-le word {i = at} l in
      record {
        is = u.rest ∙ ap (λ (rest : List ℕ). follow (space_of w₀) rest here (store_of w) w.budget) e;
        leaves = u.room_is;
      }

  -- One step, by the letter numbered `at`.
  module _ (l : at < length word) (byte : get_or word at 0 < 256) {answer : Result ℕ Refusal} {w₁ : Work}
      (c : Comes w (derive (space_of w) (get_or word at 0) here (store_of w) w.budget) answer w₁) where
    abbrev first : Deriving
    first = derive (space_of w₀) (get_or word at 0) here (store_of w) w.budget

    abbrev onward : ℕ → List Record → ℕ → Deriving
    onward p s b = follow (space_of w₀) (drop (suc at) word) p s b

    first_told : first ≡ deriving_told answer (store_of w₁) w₁.budget
    first_told = rw same_space at c.is

    keeps : Keeps (space_of w₀) (store_of w) (deriving_told answer (store_of w₁) w₁.budget)
    keeps =
        rw first_told at
        (step_keeps
        (derive_law (get_or word at 0) byte (space_of w₀) here (store_of w) w.budget (in_store w.room.now u.inside) u.kept.ready))

    kept_on : Kept (space_of w₀) (store_of w) (store_of w₁)
    kept_on = kept_told answer w₁.budget keeps

    room_on : w₁.room.now ≡ laid (store_of w₁) w₀.room.now
    room_on =
        c.leaves ∙ ap (laid (store_of w₁)) u.room_is ∙ laid_laid (store_of w) (store_of w₁) w₀.room.now (grows_length kept_on.grows)

    goes_on : following_in w₀ word place ≡ and_then (deriving_told answer (store_of w₁) w₁.budget) onward
    unfolding follow
    goes_on =
        u.rest
        ∙ ap (λ (rest : List ℕ). follow (space_of w₀) rest here (store_of w) w.budget) (drop-cons word at 0 l)
        ∙ ap (λ (d : Deriving). and_then d onward) first_told

    -- It stopped, and so does the whole.
    pub when_stopped : {refusal : Refusal} → answer ≡ Err refusal → Comes w₀ (following_in w₀ word place) (Err refusal) w₁
    when_stopped e =
        record {
          is = goes_on ∙ ap (λ (r : Result ℕ Refusal). and_then (deriving_told r (store_of w₁) w₁.budget) onward) e;
          leaves = room_on;
        }

    -- A place was derived, from where the rest is followed.
    pub when_derived : w₁.room.ghost_name ≡ w.room.ghost_name → {next : ℕ} → answer ≡ Ok next → next < w₁.places → Underway w₀ place word w₁ next (at + 1)
    when_derived same {next} e inside =
        record {
          same_room = same ∙ u.same_room;
          room_is = room_on;
          kept = kept_trans u.kept kept_on;
          inside = inside;
          rest =
              rw add-one
              (goes_on ∙ ap (λ (r : Result ℕ Refusal). and_then (deriving_told r (store_of w₁) w₁.budget) onward) e);
        }

-- A word of bytes, followed from a place of the store.
module _ {w : Work} {place : ℕ} (inside : place < w.places) {word : List ℕ} (letters : Bytes word)
    {answer : Result ℕ Refusal} {w' : Work} (c : Comes w (following_in w word place) answer w') where
  followed_keeps : Keeps (space_of w) (store_of w) (deriving_told answer (store_of w') w'.budget)
  followed_keeps =
      rw c.is at
      (step_keeps (follow_law letters (space_of w) place (store_of w) w.budget (in_store w.room.now inside) (work_ready w)))

  followed_spent : w'.budget ≤ w.budget
  followed_spent =
      let left : left_of (following_in w word place) ≡ w'.budget =
      ap left_of c.is ∙ left_told answer (store_of w') w'.budget
      in
      omega (arith, left, follow_visits letters (space_of w) place (store_of w) w.budget (in_store w.room.now inside) (work_ready w))

-- A card and a word of bytes, the card in good standing.
pub record Asked (card word : List ℕ) : Type 0 where
  pub cards : Bytes card
  pub letters : Bytes word
  pub good : pattern_card card ≡ Good

-- What loading the card into the store comes to, and the outcome of following the word from there.
abbrev pub loading_in : Work → List ℕ → Loading
loading_in w card = load (space_of w) (store_of w) (records card)

abbrev pub outcome_in : Work → List ℕ → List ℕ → Outcome
outcome_in w card word = follow_loaded (space_of w) word w.budget (loading_in w card)

-- What the code told of entering is one thing.
not_both : {answer : Result ℕ Refusal} {place : ℕ} {refusal : Refusal} → answer ≡ Ok place → answer ≡ Err refusal → ⊥
not_both e f = let z : ◌≡◌ {A = ℕ} 0 1 = cc in omega arith

-- The card was loaded: `start` is its root's place, and `store` stands in the room.
record LoadedAt (w : Work) (l : Loading) (start : ℕ) (w₁ : Work) : Type 0 where
  places : List ℕ
  store : List Record
  is : l ≡ loaded places store
  start_is : start ≡ root places
  taken_is : w₁.places ≡ length store
  room_is : w₁.room.now ≡ laid store w.room.now
  kept : Kept (space_of w) (store_of w) store

loaded_followed : {w : Work} {l : Loading} {start : ℕ} {w₁ : Work} (n : LoadedAt w l start w₁) → w₁.budget ≡ w.budget → (word : List ℕ)
    → follow_loaded (space_of w) word w.budget l ≡ judged w.budget (following_in w₁ word start)
loaded_followed {w} {w₁} n unspent word =
    let space : space_of w₁ ≡ space_of w = ap places_of n.room_is ∙ places_after w.room.now n.kept in
    let stood : store_of w₁ ≡ n.store = ap₂ store_in n.room_is n.taken_is ∙ store_after w.room.now n.kept in
    ap (follow_loaded (space_of w) word w.budget) n.is ∙ rw (space, stood, n.start_is, unspent) refl

module _ (w : Work) {card word : List ℕ} (a : Asked card word) where
  loading_law : LoadLaw (space_of w) (records card) (store_of w) [] (records card) (loading_in w card)
  loading_law = load_law (space_of w) (records card) (good_card card a.cards a.good) (store_of w) (work_ready w)

  -- The outcome's store grew from the one that stood.

  judged_kept : {store : List Record} {d : Deriving} → Keeps (space_of w) store d → Kept (space_of w) store (judged w.budget d).store
  judged_kept (derives k l) = k
  judged_kept (stops k) = k

  loaded_kept : {l : Loading} → LoadLaw (space_of w) (records card) (store_of w) [] (records card) l
      → Kept (space_of w) (store_of w) (follow_loaded (space_of w) word w.budget l).store
  loaded_kept (was_full h) = h.kept
  loaded_kept (all_loaded {places' = places} {store' = store} h) =
      kept_trans h.kept
      (judged_kept
      (step_keeps (follow_law a.letters (space_of w) (root places) store w.budget (card_loaded card a.good h).inside h.kept.ready)))

  pub outcome_kept : Kept (space_of w) (store_of w) (outcome_in w card word).store
  outcome_kept = loaded_kept loading_law

-- The card was entered, and the code told its root's place.
pub record Entered (w : Work) (card word : List ℕ) (start : ℕ) (w₁ : Work) : Type 0 where
  pub asked : Asked card word
  pub enters : Enters w (loading_in w card) (Ok start) w₁
  pub inside : start < w₁.places

module _ {w : Work} {card word : List ℕ} {start : ℕ} {w₁ : Work} (n : Entered w card word start w₁) where
  stands : LoadedAt w (loading_in w card) start w₁
  stands = go (loading_law w n.asked) n.enters.answers n.enters.holds.taken n.enters.holds.leaves
    where
      go : {l : Loading} → LoadLaw (space_of w) (records card) (store_of w) [] (records card) l
          → Ok start ≡ entering_answer l → w₁.places ≡ length (after_loading l) → w₁.room.now ≡ laid (after_loading l) w.room.now
          → LoadedAt w l start w₁
      go (all_loaded {places' = places} {store' = store} h) i t r =
          record {
            places = places;
            store = store;
            is = refl;
            start_is = cc;
            taken_is = t;
            room_is = r;
            kept = h.kept;
          }
      go (was_full h) i t r = absurd (not_both refl i)

  -- The word was followed from the root.
  module _ {told : Result ℕ Refusal} {w₂ : Work} (c : Comes w₁ (following_in w₁ word start) told w₂) where
    room_left : w₂.room.now ≡ laid (store_of w₂) w.room.now
    room_left =
        let kept = kept_told told w₂.budget (followed_keeps n.inside n.asked.letters c) in
        let longer : length stands.store ≤ length (store_of w₂) =
        omega (arith, grows_length kept.grows, taken_in w₁, stands.taken_is)
        in
        c.leaves ∙ ap (laid (store_of w₂)) stands.room_is ∙ laid_laid stands.store (store_of w₂) w.room.now longer

    pub all_spent : w₂.budget ≤ w.budget
    all_spent = omega (arith, followed_spent n.inside n.asked.letters c, n.enters.unspent)

    outcome_told : {answer : Result ℕ Refusal} → told ≡ answer
        → outcome_in w card word ≡ judged w.budget (deriving_told answer (store_of w₂) w₂.budget)
    outcome_told f =
        loaded_followed stands n.enters.unspent word
        ∙ ap (judged w.budget) c.is
        ∙ ap (λ (answer : Result ℕ Refusal). judged w.budget (deriving_told answer (store_of w₂) w₂.budget)) f

    -- It stopped on the way.
    pub judges_stopped : {refusal : Refusal} → told ≡ Err refusal → Judges w (outcome_in w card word) (Err refusal) w₂
    judges_stopped f = rw (outcome_told f) (record { tells = rw (taken_in w₂) refl; leaves = room_left })

    -- A place was reached, and its mark says the answer.
    pub judges_mark : {last : ℕ} → told ≡ Ok last → {mark : Bool} → mark ≡ marked (child (store_of w₂) last)
        → Judges w (outcome_in w card word) (Ok mark) w₂
    judges_mark f m = rw (outcome_told f) (record { tells = rw (m, taken_in w₂) refl; leaves = room_left })

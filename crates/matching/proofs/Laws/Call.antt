-- The call `fits` by its parts: refused at once it leaves the room as it is; else it begins with a fresh store in the room, and what is judged from
-- there is judged of the call.
use Rattle.std.specs.Prelude.{ℕ, ◌-◌, ◌/◌, ◌≤◌, false, Bool, List, ◌≡◌, length}
use Rattle.std.proofs.Common.{arith, sym, ◌∙◌, ap}
use Rattle.std.proofs.Math.Path.{refl}
use Rattle.std.specs.declared.result.Result.{Result}
use Rattle.std.specs.declared.result.Result.TheVariants.{Ok, Err}
use Rattle.refusals.specs.declared.refusal.Refusal.{Refusal}
use Rattle.answers.specs.declared.Match.{Match}
use Rattle.answers.specs.declared.Match.TheVariants.{Refused as RefusedMatch}
use Rattle.answers.specs.Matching.{told}
use Rattle.language.specs.Word.{Bytes}
use Rattle.records.specs.Record.{run_of}
use Rattle.refusals.specs.Number.{number}
use Rattle.refusals.specs.Order.{Standing, Good}
use Rattle.refusals.specs.Told.{standing_told}
use Rattle.cards.specs.Examine.{pattern_card}
use Rattle.store.specs.declared.work.Work.{Work}
use Rattle.store.specs.Room.{wrong_room, places_of, laid, fresh_store}
use Rattle.store.specs.Work.{space_of}
use Rattle.store.proofs.Laws.Room.{laid_laid}
use Rattle.store.proofs.Laws.Wall.{grows_length}
use Rattle.store.proofs.Laws.LegalRoom.{LegalRoom, legal_room}
use Rattle.loading.specs.Told.{Begun}
use Rattle.loading.proofs.Laws.FreshRoom.{length_fresh}
use Rattle.matching.specs.Refusals.{standing_of}
use Rattle.matching.specs.Fits.{Outcome, fits_in, fits_standing, fits_outcome}
use Rattle.matching.specs.Promise.{Fits}
use Rattle.matching.specs.Told.{judged_told, Judges}
use Rattle.matching.proofs.Laws.Refusals.{Unrefused, unrefused}
use Rattle.matching.proofs.Laws.Fits.{fits_true}
use Rattle.matching.proofs.Laws.Rooms.{Asked, outcome_in, outcome_kept}

-- What was lent to a call of `fits` are bytes, and `found` tells the first refusal that needs no work.
pub record Lent (card word room : List ℕ) (found : Result (Unit {0}) Refusal) : Type 0 where
  pub cards : Bytes card
  pub letters : Bytes word
  pub standing : standing_told found ≡ standing_of card (length word) (length room)

-- The call, by its parts.
module _ {card word room : List ℕ} (budget : ℕ) {found : Result (Unit {0}) Refusal} (k : Lent card word room found) where
  abbrev outcome : Outcome
  outcome = fits_outcome card word (length room) budget

  is_by : {s : Standing} → standing_told found ≡ s → outcome ≡ fits_standing s card word (length room) budget
  unfolding fits_outcome
  is_by e = ap (λ (s : Standing). fits_standing s card word (length room) budget) (sym k.standing ∙ e)

  -- An answer that tells the outcome is true.
  promised : {o : Outcome} → outcome ≡ o → {answer : Match} {room' : List ℕ} → told answer ≡ o.tells → room' ≡ laid o.store room
      → Fits card word room budget answer room'
  promised e {answer} t l =
      let tells : told answer ≡ outcome.tells = t ∙ ap (λ (o : Outcome). o.tells) (sym e) in
      record {
        tells = tells;
        leaves = l ∙ ap (λ (o : Outcome). laid o.store room) (sym e);
        means = rw tells (fits_true card word k.cards k.letters (length room) budget);
      }

  -- A call that is refused at once leaves the room as it is.
  pub refused_at_once : {refusal : Refusal} → found ≡ Err refusal → Fits card word room budget (RefusedMatch (number refusal) 0 0) room
  unfolding run_of
  refused_at_once e = promised (is_by (ap standing_told e)) refl refl

  -- A call that is not has a good card and a legal room.
  module _ (e : found ≡ Ok tt) where
    not_refused : Unrefused card word (length room)
    not_refused = unrefused card word (length room) (sym k.standing ∙ ap standing_told e)

    pub right_room : wrong_room (length room) ≡ false
    right_room = not_refused.room_legal

    pub good : pattern_card card ≡ Good
    good = not_refused.card_good

    legal : LegalRoom (length room)
    legal = legal_room (length room) right_room

    -- It works in the room, with a fresh store and the whole budget.
    module _ {w : Work} (b : Begun w) (r : w.room.now ≡ laid fresh_store room) (whole : w.budget ≡ budget) where
      outcome_is : outcome ≡ outcome_in w card word
      unfolding fits_in
      outcome_is =
          let space : space_of w ≡ places_of room = ap places_of r ∙ ap (λ (n : ℕ). n / 8) (length_fresh room legal.enough) in
          is_by (ap standing_told e) ∙ rw (space, b.fresh, whole) refl

      -- What is judged there is told of the call.
      pub judged_call : {answer : Result Bool Refusal} {w' : Work}
          → Judges w (outcome_in w card word) answer w'
          → {match : Match} → told match ≡ judged_told answer w'.places (budget - w'.budget) → {room' : List ℕ} → room' ≡ w'.room.now
          → Fits card word room budget match room'
      judged_call {answer} {w'} j t l =
          let o = outcome_in w card word in
          let asked : Asked card word = record { cards = k.cards; letters = k.letters; good = good } in
          let longer : length fresh_store ≤ length o.store =
          omega (arith, ap length b.fresh, grows_length (outcome_kept w {word = word} asked).grows)
          in
          promised outcome_is
          (t ∙ ap (λ (n : ℕ). judged_told answer w'.places (n - w'.budget)) (sym whole) ∙ j.tells)
          (l ∙ j.leaves ∙ ap (laid o.store) r ∙ laid_laid fresh_store o.store room longer)

-- A good store of no more places than a room can have, as a card, is in good standing: it has no more records than a proof card may have, its
-- records obey the kind table, and each mark is the empty-word test of its record's pattern.
use Rattle.std.specs.Prelude.{ℕ, ◌*◌, ◌<◌, ◌≤◌, List, [], ◌≡◌, length, drop}
use native.Mathlib.Omega.{arith}
use Rattle.std.proofs.Math.Path.{sym}
use Rattle.language.specs.Word.{none, Bytes}
use Rattle.language.proofs.Laws.Words.{front_over}
use Rattle.records.specs.declared.record.Record.{Record}
use Rattle.refusals.specs.Order.{Good as InGoodStanding}
use Rattle.records.specs.Record.{run_of}
use Rattle.cards.specs.Examine.{proof_card}
use Rattle.refusals.specs.Limits.{most_proof_records, most_places}
use Rattle.cards.specs.Standing.{Right, in_good_standing}
use Rattle.records.specs.Laws.Record.{length_run, records_of_run}
use Rattle.cards.proofs.Laws.Examine.{mark_of_test, examined_only}
use Rattle.store.specs.Good.{Good}
use Rattle.store.proofs.Laws.Room.{bytes_laid}
use Rattle.store.proofs.Laws.GoodRoom.{good_fits}

module _ (store : List Record) (good : Good store) (few : length store ≤ most_places) where
  -- Each record is right.
  record_right : (at : ℕ) → at < length store → Right store at
  record_right at l = record { obeys = good.obeys at l; mark = mark_of_test _ _ (good.mark at l) }

  -- The store's bytes, as a proof card.
  pub own_card_good : proof_card (run_of store) ≡ InGoodStanding
  unfolding proof_card
  own_card_good =
      let n = length_run store in
      let some = good.some in
      sym
      (examined_only most_proof_records (run_of store)
      (in_good_standing (record { some = omega arith; whole = omega arith; not_long = omega arith })
      (λ at l. rw (records_of_run store) (record_right at (omega arith)))))

  -- They are bytes.
  pub own_bytes : Bytes (run_of store)
  own_bytes = front_over (run_of store) (drop (8 * length store) []) (bytes_laid store (good_fits good few) none)

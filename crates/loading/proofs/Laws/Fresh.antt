-- The fresh store is good.
use Rattle.std.specs.Prelude.{ℕ, zero, suc, ◌<◌, ◌≤◌, true, ◌≡◌, refl}
use Rattle.std.proofs.Common.{arith, ap}
use Rattle.std.proofs.lemmas.Bool.{false≢true}
use Rattle.language.specs.Laws.Derivative.{nullable}
use Rattle.records.specs.declared.record.Record.{Record}
use Rattle.cards.specs.InOrder.{in_order_after, in_order}
use Rattle.records.specs.Record.{child}
use Rattle.records.specs.Kind.{kind_of}
use Rattle.cards.specs.Mark.{bit}
use Rattle.cards.specs.Meaning.{patterns, numbered}
use Rattle.cards.specs.Standing.{Obeys}
use Rattle.store.specs.Room.{fresh_store}
use Rattle.store.specs.Making.{placed, find_from, find, intern, make}
use Rattle.store.specs.Good.{is_set, Good, IsSet, make_again}
use Rattle.store.specs.Laws.Wall.{Ready}

-- What holds at 0 and at 1 holds at both places.
both_places : (P : ℕ → Type 0) → P 0 → P 1 → (at : ℕ) → at < 2 → P at
both_places P p q zero l = p
both_places P p q (suc zero) l = q
both_places P p q (suc (suc at)) l = absurd (omega arith)

settled_0 : (room : ℕ) → make_again room fresh_store (child fresh_store 0) ≡ placed 0 fresh_store
unfolding make intern find find_from
settled_0 room = refl

settled_1 : (room : ℕ) → make_again room fresh_store (child fresh_store 1) ≡ placed 1 fresh_store
unfolding make intern find find_from
settled_1 room = refl

mark_0 : 0 ≡ bit (nullable (numbered (patterns fresh_store) 0))
unfolding nullable in_order in_order_after
mark_0 = refl

mark_1 : 1 ≡ bit (nullable (numbered (patterns fresh_store) 1))
unfolding nullable in_order in_order_after
mark_1 = refl

apart : (i j : ℕ) → i < 2 → j < 2 → child fresh_store i ≡ child fresh_store j → i ≡ j
apart zero zero l m e = refl
apart zero (suc zero) l m e = ap (λ (r : Record). r.kind) e
apart (suc zero) zero l m e = ap (λ (r : Record). r.kind) e
apart (suc zero) (suc zero) l m e = refl
apart zero (suc (suc j)) l m e = absurd (omega arith)
apart (suc zero) (suc (suc j)) l m e = absurd (omega arith)
apart (suc (suc i)) j l m e = absurd (omega arith)

pub fresh_good : Good fresh_store
fresh_good =
    record {
      some = omega arith;
      nothing = refl;
      empty_word = refl;
      obeys =
          both_places (λ (at : ℕ). Obeys at (child fresh_store at))
          (record { fourth = refl; line = record { known = refl; letter = refl; left = refl; right = refl } })
          (record { fourth = refl; line = record { known = refl; letter = refl; left = refl; right = refl } });
      letter = both_places (λ (at : ℕ). (child fresh_store at).letter < 256) (omega arith) (omega arith);
      mark = both_places (λ (at : ℕ). (child fresh_store at).mark ≡ bit (nullable (numbered (patterns fresh_store) at))) mark_0 mark_1;
      once = apart;
      sets =
          both_places
          (λ (at : ℕ). is_set (kind_of (child fresh_store at).kind) ≡ true → IsSet (child fresh_store at).kind fresh_store (child fresh_store at))
          (λ e. absurd (false≢true e)) (λ e. absurd (false≢true e));
      settled = both_places (λ (at : ℕ). (room : ℕ) → make_again room fresh_store (child fresh_store at) ≡ placed at fresh_store) settled_0 settled_1;
      in_turn = λ at two l. absurd (omega arith);
    }

pub fresh_ready : (room : ℕ) → 2 ≤ room → Ready room fresh_store
fresh_ready room l = record { within = l; good = fresh_good }

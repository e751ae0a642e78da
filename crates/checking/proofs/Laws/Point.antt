-- Good tables and failing points, in a store: they are those over the store as a machine. So a good table fails at no point, and its languages are equal.
use Rattle.std.specs.Prelude.{ℕ, List}
use Rattle.answers.specs.Checking.{Point}
use Rattle.language.specs.Word.{IsByte, Word, Bytes, Listed}
use Rattle.language.specs.Language.{Language, Equal}
use Rattle.language.proofs.Laws.Equality.{equal_sym, equal_trans, equal_narrow}
use Rattle.language.proofs.Laws.StandIn.{Represented, equal_of_tried}
use Rattle.machine.specs.Laws.Search as search
use Rattle.machine.specs.Laws.Check as machine
use Rattle.machine.specs.Laws.Meaning.{good_over}
use Rattle.machine.specs.Laws.Pass as pass
use Rattle.records.specs.declared.record.Record.{Record}
use Rattle.store.specs.Laws.Wall.{Ready}
use Rattle.store.proofs.Laws.Languages.{language_at}
use Rattle.pairs.specs.declared.pair.Pair.{Pair}
use Rattle.pairs.specs.Pair.{pair_at, StandsAt}
use Rattle.searching.specs.Laws.StoreMachine.{Having, having, store_machine}
use Rattle.searching.proofs.Laws.StoreMachine.{store_sense, store_lawful}
use Rattle.checking.specs.Point.{Reaches, Misses, RightPair, GoodTable, FailsAt, opening_missing, marks_differ, not_listed}

-- The pair stands in the list.

stands_of : {pairs : List Pair} {x y : ℕ} → search.StandsAt store_machine pairs x y → StandsAt pairs x y
stands_of s = record { at = s.at; inside = s.inside; left = s.states.left; right = s.states.right }

stands_to : {pairs : List Pair} {x y : ℕ} → StandsAt pairs x y → search.StandsAt store_machine pairs x y
stands_to s = record { at = s.at; inside = s.inside; states = record { left = s.left; right = s.right } }

-- What is found of a pair: in the store, and over the machine that has it.
module _ {h : Having} {pairs : List Pair} where
  reaches_of : {x y c : ℕ} → machine.Reaches store_machine store_sense h pairs x y c → Reaches h.store pairs x y c
  reaches_of r = record { to = r.to; listed = r.listed; left = r.left; right = r.right }

  reaches_to : {x y c : ℕ} → Reaches h.store pairs x y c → machine.Reaches store_machine store_sense h pairs x y c
  reaches_to r = record { to = r.to; listed = r.listed; left = r.left; right = r.right }

  misses_of : {x y c : ℕ} → machine.Misses store_machine store_sense h pairs x y c → Misses h.store pairs x y c
  misses_of m = record { x_to = m.x_to; y_to = m.y_to; left = m.left; right = m.right; unlisted = λ s. m.unlisted (stands_to s) }

  misses_to : {x y c : ℕ} → Misses h.store pairs x y c → machine.Misses store_machine store_sense h pairs x y c
  misses_to m = record { x_to = m.x_to; y_to = m.y_to; left = m.left; right = m.right; unlisted = λ s. m.unlisted (stands_of s) }

  module _ {letters : List ℕ} where
    -- The pair numbered n is right.

    right_of : (n : ℕ) → machine.RightPair store_machine store_sense letters h pairs (pair_at pairs n).left (pair_at pairs n).right
        → RightPair letters h.store pairs n
    right_of n r = record { agree = r.agree; reaches = λ c m. reaches_of (r.reaches c m) }

    right_to : (n : ℕ) → RightPair letters h.store pairs n
        → machine.RightPair store_machine store_sense letters h pairs (pair_at pairs n).left (pair_at pairs n).right
    right_to n r = record { agree = r.agree; reaches = λ c m. reaches_to (r.reaches c m) }

    -- The table is good, or fails at a point.
    module _ {x y : ℕ} where
      pub good_of : machine.GoodTable store_machine store_sense letters h pairs x y → GoodTable letters h.store pairs x y
      good_of t = record { opening = stands_of t.opening; right = λ n l. right_of n (t.right n l) }

      pub good_to : GoodTable letters h.store pairs x y → machine.GoodTable store_machine store_sense letters h pairs x y
      good_to t = record { opening = stands_to t.opening; right = λ n l. right_to n (t.right n l) }

      pub fails_of : {point : Point} → machine.FailsAt store_machine store_sense letters h pairs x y point → FailsAt letters h.store pairs x y point
      fails_of (machine.opening_missing none) = opening_missing (λ s. none (stands_to s))
      fails_of (machine.marks_differ n l o before differ) = marks_differ n l (stands_of o) (λ i m. right_of i (before i m)) differ
      fails_of (machine.not_listed n c l o before agree listed reached misses) =
          not_listed n c l (stands_of o) (λ i m. right_of i (before i m)) agree listed (λ d m k. reaches_of (reached d m k)) (misses_of misses)

      fails_to : {point : Point} → FailsAt letters h.store pairs x y point → machine.FailsAt store_machine store_sense letters h pairs x y point
      fails_to (opening_missing none) = machine.opening_missing (λ s. none (stands_of s))
      fails_to (marks_differ n l o before differ) = machine.marks_differ n l (stands_to o) (λ i m. right_to i (before i m)) differ
      fails_to (not_listed n c l o before agree listed reached misses) =
          machine.not_listed n c l (stands_to o) (λ i m. right_to i (before i m)) agree listed (λ d m k. reaches_to (reached d m k)) (misses_to misses)

-- A good table fails at no point.
pub good_not_failing : {letters : List ℕ} {store : List Record} {pairs : List Pair} {x y : ℕ} {point : Point}
    → GoodTable letters store pairs x y → FailsAt letters store pairs x y point → ⊥
good_not_failing {store = store} t f = pass.good_not_failing store_lawful {h = having 0 store 0} (good_to t) (fails_to f)

-- A good table's languages are equal: two languages that the opening pair means and that the letters speak for.
pub good_equal : {letters : List ℕ} → ((c : ℕ) → Listed letters c → IsByte c) → {room : ℕ} {store : List Record} → Ready room store
    → {pairs : List Pair} → machine.Inside store_machine store_sense (having room store 0) pairs → {x y : ℕ} → GoodTable letters store pairs x y
    → {A B : Language} → Equal (language_at store x) A → Equal (language_at store y) B → ((w : Word) → Bytes w → Represented letters A B w) → Equal A B
good_equal {letters} bytes {room} {store} ready inside t {A} {B} a b r =
    equal_of_tried letters A B r
    (equal_trans (equal_narrow bytes (equal_sym a))
    (equal_trans (good_over store_lawful bytes {h = having room store 0} ready inside (good_to t)) (equal_narrow bytes b)))

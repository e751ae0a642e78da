-- The checker accepts every good table, at the cost of the table, and nothing is added: each step that leads to a listed pair is done again at its price.
use Rattle.std.specs.Prelude.{ℕ, suc, ◌+◌, ◌<◌, ◌≡◌, length}
use Rattle.std.proofs.Math.Nat.{add_assoc}
use Rattle.std.proofs.Common.{zero-add}
use native.Mathlib.Omega.{arith}
use mathlib.Core.List.Memᴰ
use mathlib.Core.List.{List, [], ◌∷◌}
use Rattle.std.proofs.Math.Path.{refl}
use Rattle.language.specs.Word.{Listed}
use Rattle.language.proofs.Laws.Tests.{beq_tells}
use Rattle.machine.specs.Laws.Machine.{Machine, Sense, Lawful}
use Rattle.machine.specs.Laws.Search.{row_at}
use Rattle.machine.specs.Laws.Check.{accepted, passes, check_letters, check_pairs, check_list, Reaches, RightPair, GoodTable}
use Rattle.machine.specs.Laws.Table.{stands_listed}
use Rattle.machine.specs.Laws.Price.{Priced, letters_cost, table_cost}

module _ {State Has Row : Type 0} {M : Machine State Has Row} {S : Sense State Has} (laws : Lawful M S) (P : Priced M S) {h : Has} {list : List Row} where
  -- Two states that lead to a listed pair by each letter pass, at the cost of the letters.
  letters_pass : (n : ℕ) (x y : State) (letters : List ℕ) → ((c : ℕ) → Listed letters c → Reaches M S h list x y c) → (rest : ℕ)
      → check_letters M list n x y letters (P.with_unspent h (letters_cost P h x y letters + rest)) ≡ passes (P.with_unspent h rest)
  unfolding check_letters letters_cost
  letters_pass n x y [] f rest = rw (zero-add rest)
  letters_pass n x y (c ∷ letters) f rest =
      let d = f c (Memᴰ.head refl) in
      let r = row_at M list d.to in
      let s = stands_listed laws list (M.left r) (M.right r) (record { at = d.to; inside = d.listed; states = record { left = refl; right = refl } }) in
      let e : P.price h x + (P.price h y + letters_cost P h x y letters) + rest ≡ P.price h x + (P.price h y + (letters_cost P h x y letters + rest)) = omega arith in
      rw (e, P.leads_again c x _ d.left _, P.leads_again c y _ d.right _, s) (letters_pass n x y letters (λ a m. f a (Memᴰ.tail m)) rest)

  -- Right pairs pass, at the cost of their table.
  pairs_pass : (letters : List ℕ) (n : ℕ) (pairs : List Row)
      → ((i : ℕ) → i < length pairs → RightPair M S letters h list (M.left (row_at M pairs i)) (M.right (row_at M pairs i))) → (rest : ℕ)
      → check_pairs M letters list n pairs (P.with_unspent h (table_cost P letters h pairs + rest)) ≡ accepted (P.with_unspent h rest)
  unfolding check_pairs table_cost
  pairs_pass letters n [] f rest = rw (zero-add rest)
  pairs_pass letters n (r ∷ pairs) f rest =
      let here = f 0 (omega arith) in
      rw (
        add_assoc (letters_cost P h (M.left r) (M.right r) letters) (table_cost P letters h pairs) rest,
        P.marks h _ (M.left r),
        P.marks h _ (M.right r),
        (beq_tells _ _).complete here.agree,
        letters_pass n (M.left r) (M.right r) letters here.reaches _,
      )
      (pairs_pass letters (suc n) pairs (λ i l. f (suc i) (omega arith)) rest)

  -- A good table is accepted, at its cost.
  pub good_accepted : {letters : List ℕ} {x y : State} → GoodTable M S letters h list x y → (rest : ℕ)
      → check_list M letters list x y (P.with_unspent h (table_cost P letters h list + rest)) ≡ accepted (P.with_unspent h rest)
  unfolding check_list
  good_accepted {letters} {x} {y} good rest = rw (stands_listed laws list x y good.opening) (pairs_pass letters 0 list good.right rest)

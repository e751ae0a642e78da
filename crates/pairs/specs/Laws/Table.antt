-- Looking a pair up: a pair stands in a table exactly when one of the table's pairs has its two places.
use Rattle.std.specs.Prelude.{ℕ, ◌<◌, Bool, true, ◌&&◌, ◌||◌, List, [], ◌∷◌, ◌≡◌, refl, eqb, length}
use Rattle.std.proofs.Common.{sym, ◌∙◌, ap, eqb-true, eq-eqb}
use Rattle.language.proofs.Laws.Tests.{and_left, and_right, and_both}
use Rattle.machine.specs.Laws.Finding.{found_in, found_at, found_listed}
use Rattle.pairs.specs.declared.pair.Pair.{Pair}
use Rattle.pairs.specs.Pair.{no_pair, pair_at, stands_in, StandsAt}

-- Whether a pair has these two places.

abbrev pub has_places : ℕ → ℕ → Pair → Bool
has_places x y p = eqb p.left x && eqb p.right y

pub has_both : (p : Pair) (x y : ℕ) → has_places x y p ≡ true → (p.left ≡ x) × (p.right ≡ y)
has_both p x y e =
    (eqb-true p.left x (and_left (eqb p.left x) (eqb p.right y) e), eqb-true p.right y (and_right (eqb p.left x) (eqb p.right y) e))

pub both_had : (p : Pair) (x y : ℕ) → p.left ≡ x → p.right ≡ y → has_places x y p ≡ true
both_had p x y e f = and_both (eq-eqb p.left x e) (eq-eqb p.right y f)

-- To stand in the table is to be found by that test.
pub stands_is : (table : List Pair) (x y : ℕ) → stands_in table x y ≡ found_in (has_places x y) table
unfolding stands_in found_in
stands_is [] x y = refl
stands_is (p ∷ table) x y = ap (λ (b : Bool). has_places x y p || b) (stands_is table x y)

-- Where the test finds them, they stand.
pub stands_at : (table : List Pair) (x y : ℕ) → stands_in table x y ≡ true → StandsAt table x y
stands_at table x y e =
    let f = found_at (has_places x y) no_pair table (sym (stands_is table x y) ∙ e) in
    let both = has_both (pair_at table f.at) x y f.holds in
    record { at = f.at; inside = f.inside; left = both.0; right = both.1 }

-- A pair of the table stands in it.
pub stands_listed : (table : List Pair) (n x y : ℕ) → n < length table → (pair_at table n).left ≡ x → (pair_at table n).right ≡ y → stands_in table x y ≡ true
stands_listed table n x y l e f = stands_is table x y ∙ found_listed (has_places x y) no_pair table n l (both_had (pair_at table n) x y e f)

-- The listed pairs, by number: the pair that the map gives, and whether two places stand among the pairs as one number tells them.
use Rattle.std.specs.Prelude.{ℕ, zero, suc, ◌+◌, ◌*◌, ◌<◌, Bool, true, false, List, [], ◌∷◌, ◌≡◌, refl, length, get_or}
use Rattle.std.proofs.Common.{arith, sym, ◌∙◌, ap}
use Rattle.pairs.specs.declared.pair.Pair.{Pair}
use Rattle.pairs.specs.Pair.{places_of_pair, pair_record, pair_at, stands_in, StandsAt}
use Rattle.pairs.specs.Room.{pairs_of, listed_pairs}
use Rattle.pairs.specs.Laws.Pair.{length_first_pairs, first_pair_at, places-one}
use Rattle.pairs.specs.Laws.Table.{stands_at, stands_listed}
use Rattle.checking.specs.Outcome.{mapped}
use Rattle.checking.specs.Listed.{mapped_list, Inside}
use Rattle.checking.proofs.Laws.Refusals.{length_mapped}

-- A pair whose two fields go through the map.
abbrev pub mapped_pair : List ℕ → Pair → Pair
mapped_pair map p = record { left = get_or map p.left 0; right = get_or map p.right 0; origin = p.origin; letter = p.letter }

mapped_pair_at : (map : List ℕ) (list : List Pair) (n : ℕ) → n < length list → pair_at (mapped map list) n ≡ mapped_pair map (pair_at list n)
unfolding mapped
mapped_pair_at map [] n l = absurd (omega arith)
mapped_pair_at map (p ∷ rest) zero l = refl
mapped_pair_at map (p ∷ rest) (suc n) l = mapped_pair_at map rest n (omega arith)

-- The mapped list of a run of bytes.

pub length_listed : (map list : List ℕ) → length (mapped_list map list) ≡ pairs_of list
length_listed map list = length_mapped map (listed_pairs list) ∙ length_first_pairs (pairs_of list) list

pub listed_pair_at : (map list : List ℕ) (n : ℕ) → n < pairs_of list → pair_at (mapped_list map list) n ≡ mapped_pair map (pair_record list n)
listed_pair_at map list n l =
    mapped_pair_at map (listed_pairs list) n (omega (arith, length_first_pairs (pairs_of list) list))
    ∙ ap (mapped_pair map) (first_pair_at (pairs_of list) list n l)

-- A listed pair is mapped to places of the store.
pub pair_inside : {list map : List ℕ} {places : ℕ} → Inside list map places → (n : ℕ) → n < pairs_of list
    → {p : Pair} → p ≡ pair_at (mapped_list map list) n → (p.left < places) × (p.right < places)
pair_inside {list} {map} m n l e = rw (e ∙ listed_pair_at map list n l) (m.inside n l)

-- Two places compared as one number.
module _ (table : List Pair) (x y : ℕ) where
  -- A pair with the number wanted has the two places.
  pub number_found : (n : ℕ) → n < length table → (pair_at table n).left < 65536 → x < 65536 → places_of_pair (pair_at table n) ≡ x + 65536 * y
      → true ≡ stands_in table x y
  number_found n l fits x_Fits e =
      let same = places-one _ _ x y fits x_Fits e in
      sym (stands_listed table n x y l same.0 same.1)

  -- Where no pair has the number wanted, none has the two places.
  pub number_missing : ((n : ℕ) → n < length table → places_of_pair (pair_at table n) ≡ x + 65536 * y → ⊥) → false ≡ stands_in table x y
  number_missing none = go (stands_in table x y) refl
    where
      other : StandsAt table x y → ⊥
      other s =
          let a = s.left in
          let b = s.right in
          none s.at s.inside (omega arith)

      go : (b : Bool) → stands_in table x y ≡ b → false ≡ stands_in table x y
      go true e = absurd (other (stands_at table x y e))
      go false e = sym e

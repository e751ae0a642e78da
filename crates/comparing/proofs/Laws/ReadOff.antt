-- Reading a word off a table that stands in a room: from pair to pair the word loses its last letter, up to pair number 0, whose word is
-- empty. So counting the pairs gives the word's length, and writing their letters from the last to the first gives the word.
use Rattle.std.specs.Prelude.{ℕ, zero, suc, ◌+◌, ◌-◌, ◌*◌, ◌<◌, ◌≤◌, List, [], ◌∷◌, ◌++◌, ◌≡◌, refl, length, drop, set}
use Rattle.std.proofs.Common.{arith, append_assoc, sym, ◌∙◌, ap, subst, length-append, length-set, drop-cons, get_or-set_same, drop-set-lt}
use Rattle.refusals.specs.Limits.{most_pairs}
use Rattle.pairs.specs.declared.pair.Pair.{Pair}
use Rattle.pairs.specs.Pair.{first_pairs, pair_record, pair_at}
use Rattle.pairs.specs.Room.{table_in}
use Rattle.pairs.specs.Laws.Pair.{length_first_pairs, first_pair_at}
use Rattle.std.specs.declared.result.Result.TheVariants.{Ok, Err}
use Rattle.searching.specs.ReadOff.{word_to, word_of}
use Rattle.comparing.specs.Told.{Wrote, was_written, was_short}
use Rattle.searching.specs.Told.{OrderedPairs, found_word}
use Rattle.searching.proofs.Laws.Words.{word_step, word_short}

-- The word of pair number 0 is empty.
no_letter : (table : List Pair) {at : ℕ} → at ≡ 0 → word_of table at ≡ []
unfolding word_to
no_letter table e = ap (λ (n : ℕ). word_of table n) e

-- A pair's word is its origin's with its own letter behind, and the origin's number is lower.
pub record ComesFrom (table : List Pair) (at : ℕ) (p : Pair) : Type 0 where
  pub lower : p.origin < at
  pub word : word_of table at ≡ word_of table p.origin ++ p.letter ∷ []

-- The word is one letter longer than its origin's.
one_longer : {table : List Pair} {at : ℕ} {p : Pair} → ComesFrom table at p
    → length (word_of table at) ≡ suc (length (word_of table p.origin))
one_longer {table} {p = p} f =
    ap length f.word ∙ length-append (word_of table p.origin) (p.letter ∷ []) ∙ omega arith

module _ {pairs : List ℕ} {placed : ℕ} (o : OrderedPairs pairs placed) where
  abbrev table : List Pair
  table = table_in pairs placed

  -- A pair that is placed can be read.
  pub can_read : {at : ℕ} → at < placed → 8 * at + 8 ≤ length pairs
  can_read l = let f = o.fits in omega arith

  -- A pair that is read, other than number 0, comes from a pair with a lower number.
  pub comes_from : {at : ℕ} → at < placed → (at ≡ 0 → ⊥) → {p : Pair} → p ≡ pair_record pairs at → ComesFrom table at p
  comes_from {at = zero} l n e = absurd (n refl)
  comes_from {at = suc at} l n {p} e =
      let k : suc at < length table = omega (arith, length_first_pairs placed pairs) in
      let is : pair_at table (suc at) ≡ p = first_pair_at placed pairs (suc at) l ∙ sym e in
      record {
        lower = subst (λ (q : Pair). q.origin < suc at) is (o.ordered.lower at k);
        word =
            word_step table o.ordered at k
            ∙ ap (λ (q : Pair). word_of table q.origin ++ q.letter ∷ []) is;
      }

  -- A word is shorter than the table, which has few pairs.
  pub few_letters : {at : ℕ} → at < placed → length (word_of table at) < most_pairs
  few_letters {at} l =
      let f = o.few in
      omega (arith, word_short table o.ordered at (omega (arith, length_first_pairs placed pairs)))

-- Counting letters: so many are counted, and the word of the pair numbered `at` is left.
pub record Counting (pairs : List ℕ) (placed from at count : ℕ) : Type 0 where
  pub inside : at < placed
  pub counted : count + length (word_of (table_in pairs placed) at) ≡ length (word_of (table_in pairs placed) from)

-- At first none is counted.
pub none_counted : (pairs : List ℕ) (placed from : ℕ) → from < placed → Counting pairs placed from from 0
none_counted pairs placed from l = record { inside = l; counted = omega arith }

module _ {pairs : List ℕ} {placed from at count : ℕ} (k : Counting pairs placed from at count) where
  -- One more is counted.
  pub one_counted : {p : Pair} → ComesFrom (table_in pairs placed) at p → Counting pairs placed from p.origin (count + 1)
  one_counted f =
      let i = k.inside in
      let l = f.lower in
      let c = k.counted in
      record { inside = omega arith; counted = omega (arith, one_longer f) }

  -- At pair number 0 all are counted.
  pub all_counted : at ≡ 0 → count ≡ length (word_of (table_in pairs placed) from)
  all_counted e =
      let c = k.counted in
      omega (arith, ap length (no_letter (table_in pairs placed) e))

-- A byte that is set in front of the byte numbered n stands in front of what stands from n on.
drop_set_before : (l : List ℕ) (n a : ℕ) → 1 ≤ n → n ≤ length l → drop (n - 1) (set l (n - 1) a) ≡ a ∷ drop n l
drop_set_before l n a o h =
    let m = length-set l (n - 1) a in
    let s : suc (n - 1) ≡ n = omega arith in
    drop-cons (set l (n - 1) a) (n - 1) 0 (omega arith)
    ∙ rw (get_or-set_same l (n - 1) a 0 (omega arith), drop-set-lt (suc (n - 1)) l (n - 1) a (omega arith), s)

-- Writing the word of the pair numbered `from` in front of what stands from `end₀` on in a room: what stands from `end` on is written, and the
-- word of the pair numbered `at`, which is so long, is left.
pub record Writing (pairs : List ℕ) (placed from : ℕ) (word₀ : List ℕ) (end₀ : ℕ) (word : List ℕ) (end at : ℕ) : Type 0 where
  pub inside : at < placed
  pub left : end ≡ length (word_of (table_in pairs placed) at)
  pub room : end ≤ length word
  pub as_long : length word ≡ length word₀
  pub front : word_of (table_in pairs placed) at ++ drop end word ≡ word_of (table_in pairs placed) from ++ drop end₀ word₀

-- At first none is written.
pub none_written : (pairs : List ℕ) (placed from : ℕ) (word : List ℕ) (end : ℕ) → from < placed
    → end ≡ length (word_of (table_in pairs placed) from) → end ≤ length word → Writing pairs placed from word end word end from
none_written pairs placed from word end l e r = record { inside = l; left = e; room = r; as_long = refl; front = refl }

module _ {pairs : List ℕ} {placed from : ℕ} {word₀ : List ℕ} {end₀ : ℕ} {word : List ℕ} {end at : ℕ}
    (w : Writing pairs placed from word₀ end₀ word end at) where
  -- A pair other than number 0 has a letter to write.
  pub one_left : {p : Pair} → ComesFrom (table_in pairs placed) at p → 1 ≤ end
  one_left f = let l = w.left in omega (arith, one_longer f)

  -- One more letter is written, in front of those that are.
  pub one_written : {p : Pair} → ComesFrom (table_in pairs placed) at p
      → Writing pairs placed from word₀ end₀ (set word (end - 1) p.letter) (end - 1) p.origin
  one_written {p} f =
      let before = word_of (table_in pairs placed) p.origin in
      let n = length-set word (end - 1) p.letter in
      let i = w.inside in
      let l = f.lower in
      let e = w.left in
      let r = w.room in
      let longer = one_longer f in
      record {
        inside = omega arith;
        left = omega arith;
        room = omega arith;
        as_long = n ∙ w.as_long;
        front =
            ap (λ (u : List ℕ). before ++ u) (drop_set_before word end p.letter (one_left f) r)
            ∙ sym (append_assoc before (p.letter ∷ []) (drop end word))
            ∙ ap (λ (u : List ℕ). u ++ drop end word) (sym f.word)
            ∙ w.front;
      }

  -- At pair number 0 all are written.
  all_written : at ≡ 0 → word ≡ word_of (table_in pairs placed) from ++ drop end₀ word₀
  all_written e =
      let n = no_letter (table_in pairs placed) e in
      let z : end ≡ 0 = w.left ∙ ap length n in
      ap (λ (k : ℕ). drop k word) (sym z) ∙ ap (λ (u : List ℕ). u ++ drop end word) (sym n) ∙ w.front

-- Where the last letter was written before, the whole word stands, and every other byte as lent.
pub whole_written : {pairs : List ℕ} {placed from : ℕ} (word₀ : List ℕ) (size letter : ℕ) {word : List ℕ} {end at : ℕ}
    → Writing pairs placed from (set word₀ (size - 1) letter) (size - 1) word end at → at ≡ 0 → 1 ≤ size → size ≤ length word₀
    → word ≡ word_of (table_in pairs placed) from ++ letter ∷ drop size word₀
whole_written {pairs} {placed} {from} word₀ size letter w e o l =
    all_written w e ∙ ap (λ (u : List ℕ). word_of (table_in pairs placed) from ++ u) (drop_set_before word₀ size letter o l)

-- What is told of the word. Where no pair is placed the word is empty, and nothing is written.
pub told_none : (pairs : List ℕ) (placed from letter : ℕ) (word : List ℕ) → placed ≡ 0
    → Wrote (found_word (table_in pairs placed) from letter) word (Ok 0) word
unfolding first_pairs
told_none pairs placed from letter word e =
    subst (λ (n : ℕ). Wrote (found_word (table_in pairs n) from letter) word (Ok 0) word) (sym e) (was_written (omega arith) refl)

-- Else the word is that of a pair and one letter.
found_word_is : (pairs : List ℕ) (placed from letter : ℕ) → from < placed
    → found_word (table_in pairs placed) from letter ≡ word_of (table_in pairs placed) from ++ letter ∷ []
unfolding first_pairs
found_word_is pairs zero from letter l = absurd (omega arith)
found_word_is pairs (suc n) from letter l = refl

module _ (pairs : List ℕ) (placed from letter : ℕ) (word : List ℕ) (l : from < placed) {size : ℕ}
    (e : size ≡ suc (length (word_of (table_in pairs placed) from))) where
  abbrev found : List ℕ
  found = found_word (table_in pairs placed) from letter

  so_long : length found ≡ size
  so_long =
      ap length (found_word_is pairs placed from letter l)
      ∙ length-append (word_of (table_in pairs placed) from) (letter ∷ [])
      ∙ omega arith

  -- The word room is too short for it.
  pub told_short : length word < size → Wrote found word (Err size) word
  told_short m = subst (λ (n : ℕ). Wrote found word (Err n) word) so_long (was_short (omega (arith, so_long)))

  -- It is written.
  pub told_written : size ≤ length word → {word' : List ℕ} → word' ≡ word_of (table_in pairs placed) from ++ letter ∷ drop size word
      → Wrote found word (Ok size) word'
  told_written m {word'} r =
      let is = found_word_is pairs placed from letter l in
      subst (λ (n : ℕ). Wrote found word (Ok n) word') so_long
      (was_written (omega (arith, so_long))
      (r
      ∙ sym (append_assoc (word_of (table_in pairs placed) from) (letter ∷ []) (drop size word))
      ∙ ap (λ (u : List ℕ). u ++ drop size word) (sym is)
      ∙ ap (λ (n : ℕ). found ++ drop n word) (sym so_long)))

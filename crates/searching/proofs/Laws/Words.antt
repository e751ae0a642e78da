-- The words of a table of pairs, by the laws over any machine: a pair's word is its origin's with its own letter behind, and no longer than the pair's
-- number.
use Rattle.std.specs.Prelude.{ℕ, suc, ◌<◌, ◌≤◌, List, [], ◌∷◌, ◌++◌, ◌≡◌, length}
use Rattle.std.proofs.Common.{sym, ◌∙◌, ap}
use Rattle.machine.specs.Laws.Words as machine
use Rattle.pairs.specs.declared.pair.Pair.{Pair}
use Rattle.pairs.specs.Pair.{pair_at}
use Rattle.searching.specs.Laws.Words.{Ordered}
use Rattle.searching.specs.ReadOff.{word_of}
use Rattle.searching.specs.Laws.StoreMachine.{store_machine}
use Rattle.searching.proofs.Laws.Unfolds.{word_is}

pub word_step : (table : List Pair) → Ordered table → (n : ℕ) → suc n < length table
    → word_of table (suc n) ≡ word_of table (pair_at table (suc n)).origin ++ (pair_at table (suc n)).letter ∷ []
word_step table o n l =
    word_is (suc (suc n)) table (suc n)
    ∙ machine.word_step store_machine table o n l
    ∙ ap (λ (w : List ℕ). w ++ (pair_at table (suc n)).letter ∷ []) (sym (word_is _ table (pair_at table (suc n)).origin))

pub word_short : (table : List Pair) → Ordered table → (n : ℕ) → n < length table → length (word_of table n) ≤ n
word_short table o n l = rw (word_is (suc n) table n) (machine.word_short store_machine table o n l)

-- The word of "different" is the shortest and lowest of all words of bytes that are in exactly one language, not of those of tried letters alone. The
-- step from tried letters to all words is the law `represented` of the language.
use Rattle.std.specs.Prelude.{ℕ, List}
use Rattle.language.specs.Word.{Word, Over, Bytes, Listed}
use Rattle.language.specs.Language.{Language}
use Rattle.language.specs.Order.{Before}
use Rattle.language.proofs.Laws.Order.{before_not_after}
use Rattle.language.proofs.Laws.StandIn.{Represented, in_neither, by_stand_in}
use Rattle.searching.specs.FirstWord.{Alike}

-- The word of "different" comes first of all words of bytes.
pub first_of_all : (letters : List ℕ) (A B : Language) (word : Word) → ((v : Word) → Over (Listed letters) v → Before v word → Alike A B v)
    → ((w : Word) → Bytes w → Represented letters A B w)
    → (v : Word) → Bytes v → Before v word → Alike A B v
first_of_all letters A B word before r v b h = go (r v b)
  where
    go : Represented letters A B v → Alike A B v
    go (in_neither x y) = record { to = λ k. absurd (x k); from = λ k. absurd (y k) }
    go (by_stand_in s) =
        let alike = before s.word s.of_tried (before_not_after s.word v word s.no_later h) in
        record {
          to = λ k. s.right.to (alike.to (s.left.from k));
          from = λ k. s.left.to (alike.from (s.right.from k));
        }

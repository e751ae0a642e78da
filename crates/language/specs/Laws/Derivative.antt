-- The empty-word test and the derivative of document 003, as functions on patterns. That they are right against the set meaning is proved
-- in proofs/Laws/Derivative.antt.
use Rattle.std.specs.Prelude.{ℕ, Bool, true, false, cond, ◌&&◌, ◌||◌, eqb}
use Rattle.language.specs.Language.{Pattern, nothing, empty_word, letter, choice, sequence, repeat}

-- 003: nullable.
unfoldable pub nullable : Pattern → Bool
nullable nothing = false
nullable empty_word = true
nullable (letter c) = false
nullable (choice p q) = nullable p || nullable q
nullable (sequence p q) = nullable p && nullable q
nullable (repeat p) = true

-- 003: der.
unfoldable pub derivative : ℕ → Pattern → Pattern
derivative c nothing = nothing
derivative c empty_word = nothing
derivative c (letter d) = cond (eqb c d) empty_word nothing
derivative c (choice p q) = choice (derivative c p) (derivative c q)
derivative c (sequence p q) =
    cond (nullable p)
    (choice (sequence (derivative c p) q) (derivative c q))
    (sequence (derivative c p) q)
derivative c (repeat p) = sequence (derivative c p) (repeat p)

-- No two refusals have one number, and so a standing is told by one answer.
use Rattle.std.specs.Prelude.{ℕ, ◌≡◌, refl, get_or, List, [], ◌∷◌}
use Rattle.std.proofs.Common.{sym, ◌∙◌, ap}
use Rattle.std.specs.declared.result.Result.{Result}
use Rattle.std.specs.declared.result.Result.TheVariants.{Ok, Err}
use Rattle.refusals.specs.declared.refusal.Refusal.{Refusal}
use Rattle.refusals.specs.declared.refusal.Refusal.TheVariants.{CardLength, BrokenRecord, WrongMark, LongWord, WorkRoomSize, PairRoomSize, NoFreePlace, NoBudgetLeft, NoPlaceForPair, ShortWordRoom, PairNamesNoRecord, JobForm}
use Rattle.refusals.specs.Number.{number}
use Rattle.refusals.specs.Order.{Standing, Good, Refused}
use Rattle.refusals.specs.Told.{standing_told}

-- The refusals in the order of their numbers, from 1.
abbrev refusals : List Refusal
refusals =
    CardLength
    ∷ CardLength
    ∷ BrokenRecord
    ∷ WrongMark
    ∷ LongWord
    ∷ WorkRoomSize
    ∷ PairRoomSize
    ∷ NoFreePlace
    ∷ NoBudgetLeft
    ∷ NoPlaceForPair
    ∷ ShortWordRoom
    ∷ PairNamesNoRecord
    ∷ JobForm
    ∷ []

abbrev refusal_of : ℕ → Refusal
refusal_of n = get_or refusals n CardLength

-- Each refusal is had back from its number.
had_back : (r : Refusal) → refusal_of (number r) ≡ r
had_back CardLength = refl
had_back BrokenRecord = refl
had_back WrongMark = refl
had_back LongWord = refl
had_back WorkRoomSize = refl
had_back PairRoomSize = refl
had_back NoFreePlace = refl
had_back NoBudgetLeft = refl
had_back NoPlaceForPair = refl
had_back ShortWordRoom = refl
had_back PairNamesNoRecord = refl
had_back JobForm = refl

pub numbers_apart : (r s : Refusal) → number r ≡ number s → r ≡ s
numbers_apart r s e = sym (had_back r) ∙ ap refusal_of e ∙ had_back s

answer_of : Standing → Result (Unit {0}) Refusal
answer_of Good = Ok tt
answer_of (Refused n) = Err (refusal_of n)

answer_had_back : (answer : Result (Unit {0}) Refusal) → answer_of (standing_told answer) ≡ answer
unfolding answer_of
answer_had_back (Ok u) = refl
answer_had_back (Err r) = ap Err (had_back r)

pub standings_apart : (a b : Result (Unit {0}) Refusal) → standing_told a ≡ standing_told b → a ≡ b
standings_apart a b e = sym (answer_had_back a) ∙ ap answer_of e ∙ answer_had_back b

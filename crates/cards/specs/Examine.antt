-- Examining a card: refusals 1, 2 and 3. Document 01, "When the judge says no":
--   1  card length 0, not a multiple of 8, or too long
--   2  a record breaks the kind table, its fourth byte isn't zero, or a child isn't lower
--   3  a mark is wrong
-- "each 1 first, then record by record, 2 before 3"; "A pattern card has 1 to 512 records. A proof card, for the checker, has 1 to 4,096."
use Rattle.std.specs.Prelude.{ℕ, suc, ◌/◌, ◌%◌, Bool, cond, not, ◌&&◌, ◌||◌, List, [], ◌∷◌, eqb, ltb, length}
use Rattle.records.specs.declared.kind.Columns.{Columns}
use Rattle.records.specs.declared.record.Record.{Record}
use Rattle.refusals.specs.Order.{Standing}
use Rattle.refusals.specs.Order.{Good}
use Rattle.refusals.specs.Order.{◌then◌, refused_if}
use Rattle.refusals.specs.Numbers.{card_length, broken_record, wrong_mark}
use Rattle.refusals.specs.Limits.{most_pattern_records, most_proof_records}
use Rattle.records.specs.Record.{records, child}
use Rattle.records.specs.Kind.{kind_of, columns}
use Rattle.cards.specs.Mark.{bit, marked, has_empty}

-- Number 1, of a card of so many bytes that may hold `most` records.
abbrev pub wrong_length : ℕ → ℕ → Bool
wrong_length most size = eqb size 0 || not (eqb (size % 8) 0) || ltb most (size / 8)

-- A letter that may be any byte, and else has to be 0.
abbrev pub letter_field : Bool → ℕ → Bool
letter_field any letter = any || eqb letter 0

-- A field that has to name a child, whose number is lower than `at`, and else has to be 0.
abbrev pub child_field : Bool → ℕ → ℕ → Bool
child_field child at field = cond child (ltb field at) (eqb field 0)

-- A line of the kind table, for the record numbered `at`.
abbrev pub obeys_line : Columns → ℕ → Record → Bool
obeys_line line at r =
    line.known && letter_field line.letter r.letter && child_field line.left at r.left && child_field line.right at r.right

-- The record numbered `at` is right but for its mark: number 2 otherwise.
abbrev pub obeys : ℕ → Record → Bool
obeys at r = eqb r.fourth 0 && obeys_line (columns (kind_of r.kind)) at r

-- The record's mark is what it has to be, by its children's marks in the card: number 3 otherwise.
abbrev pub mark_right : List Record → Record → Bool
mark_right card r =
    eqb r.mark (bit (has_empty (kind_of r.kind) (marked (child card r.left)) (marked (child card r.right))))

-- One record: 2 before 3.
abbrev pub record_standing : List Record → ℕ → Record → Standing
record_standing card at r = refused_if (not (obeys at r)) broken_record then refused_if (not (mark_right card r)) wrong_mark

-- Record by record: those in the list, of which the first is numbered `at` in the card.
unfoldable pub records_standing : List Record → ℕ → List Record → Standing
records_standing card at [] = Good
records_standing card at (r ∷ rest) = record_standing card at r then records_standing card (suc at) rest

-- Any bytes, as a card of at most so many records.
unfoldable pub examined : ℕ → List ℕ → Standing
unfolding records_standing records
examined most card =
    refused_if (wrong_length most (length card)) card_length then records_standing (records card) 0 (records card)

-- The refusal of a pattern card, and of a proof card.
unfoldable pub pattern_card : List ℕ → Standing
unfolding examined
pattern_card card = examined most_pattern_records card

unfoldable pub proof_card : List ℕ → Standing
unfolding examined
proof_card card = examined most_proof_records card

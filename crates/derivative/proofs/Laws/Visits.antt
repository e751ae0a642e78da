-- The visits of a place: the visit to itself and those to the children that its rule needs; they stay the same when records are added.
use Rattle.std.specs.Prelude.{ℕ, ◌+◌, ◌<◌, true, List, ◌≡◌, refl, length, take}
use Rattle.std.proofs.Common.{arith, ◌∙◌, ap, ap₂, length-take}
use Rattle.records.specs.declared.kind.Kind.{Kind}
use Rattle.records.specs.declared.kind.Kind.TheVariants.{Nothing, EmptyWord, Letter, Choice, Sequence, Repeat, Unknown}
use Rattle.records.specs.declared.record.Record.{Record}
use Rattle.cards.specs.InOrder.{in_order}
use Rattle.records.specs.Record.{child}
use Rattle.records.specs.Kind.{kind_of, columns}
use Rattle.cards.specs.Mark.{marked}
use Rattle.cards.specs.Standing.{Line}
use Rattle.cards.proofs.Laws.Line.{left_child, right_child}
use Rattle.cards.proofs.Laws.InOrder.{length_in_order, value_kept, value_at, before_kept}
use Rattle.store.specs.Laws.Wall.{Grows}
use Rattle.derivative.specs.Derivative.{price}
use Rattle.derivative.specs.Visits.{Counted, child_visits, not_counted, counted_at, record_visits, visits}

-- A record's count in a store.
abbrev pub counted : List Record → ℕ → Counted
counted store place = counted_at (in_order record_visits store) place

counted_kept : {store store' : List Record} → Grows store store' → (place : ℕ) → place < length store → counted store' place ≡ counted store place
counted_kept {store} g place l = rw g.is (value_kept record_visits not_counted store g.more place l)

pub visits_kept : {store store' : List Record} → Grows store store' → (place : ℕ) → place < length store → visits store' place ≡ visits store place
visits_kept g place l = ap (λ (n : Counted). n.visits) (counted_kept g place l)

-- What a count says is the record's mark.
pub counted_says : (store : List Record) (place : ℕ) → place < length store → (counted store place).says ≡ marked (child store place)
counted_says store place l = ap (λ (n : Counted). n.says) (value_at record_visits not_counted store place l)

-- The visits to children go by the children that the kind has, and by no other.
child_visits_same : (k : Kind) {a a' b b' : Counted} → ((columns k).left ≡ true → a ≡ a') → ((columns k).right ≡ true → b ≡ b')
    → child_visits k a b ≡ child_visits k a' b'
child_visits_same Nothing e f = refl
child_visits_same EmptyWord e f = refl
child_visits_same Letter e f = refl
child_visits_same Choice e f = ap₂ (child_visits Choice) (e refl) (f refl)
child_visits_same Sequence e f = ap₂ (child_visits Sequence) (e refl) (f refl)
child_visits_same Repeat {b = b} e f = ap (λ (a : Counted). child_visits Repeat a b) (e refl)
child_visits_same Unknown e f = refl

-- The visits of a record that obeys the kind table.
pub visits_of_record : (store : List Record) (place : ℕ) → place < length store → Line place (child store place)
    → visits store place ≡ price place + child_visits (kind_of (child store place).kind) (counted store (child store place).left) (counted store (child store place).right)
visits_of_record store place l o =
    ap (λ (n : Counted). n.visits) (value_at record_visits not_counted store place l)
    ∙ ap₂ (λ (n m : ℕ). price n + m) here
    (child_visits_same (kind_of (child store place).kind)
    (λ e. lower (child store place).left (left_child o e))
    (λ e. lower (child store place).right (right_child o e)))
  where
    here : length (in_order record_visits (take place store)) ≡ place
    here = length_in_order record_visits (take place store) ∙ length-take place store ∙ omega arith

    lower : (i : ℕ) → i < place → counted (take place store) i ≡ counted store i
    lower i m = before_kept record_visits not_counted store place i l m

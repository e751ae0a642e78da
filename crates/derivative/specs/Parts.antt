-- The derivative's steps in the one order that the code has for choice, sequence and repeat: the left part is derived, the product of that with
-- the right part is made where it is asked for, and the right part is derived, and the choice of both made, where that is asked for.
-- Inner contracts alone name this; that it is the definition's order, kind by kind, is proved.
use Rattle.std.specs.Prelude.{ℕ, Bool, true, false, List, eqb}
use Rattle.records.specs.declared.kind.Kind.{Kind}
use Rattle.records.specs.declared.kind.Kind.TheVariants.{Nothing, EmptyWord, Letter, Choice, Sequence, Repeat, Unknown}
use Rattle.records.specs.declared.record.Record.{Record}
use Rattle.records.specs.Record.{child}
use Rattle.records.specs.Kind.{kind_of, sequence_kind}
use Rattle.cards.specs.Mark.{bit, marked}
use Rattle.store.specs.Making.{Making, placed, nothing_place, make}
use Rattle.derivative.specs.declared.Visited.{Visited}
use Rattle.derivative.specs.declared.Visited.TheVariants.{Leaf, Parts}
use Rattle.derivative.specs.Derivative.{Deriving, derived, and_then, of_making, after_product}

-- What a record asks for, by its kind: the record, whether its left child's mark says yes, and its place.
abbrev pub asks : Kind → ℕ → Record → Bool → ℕ → Visited
asks Nothing letter r left_marked self = Leaf nothing_place
asks EmptyWord letter r left_marked self = Leaf nothing_place
asks Letter letter r left_marked self = Leaf (bit (eqb r.letter letter))
asks Choice letter r left_marked self = Parts r.left r.right false true
asks Sequence letter r left_marked self = Parts r.left r.right true left_marked
asks Repeat letter r left_marked self = Parts r.left self true false
asks Unknown letter r left_marked self = Leaf nothing_place

abbrev pub asked : List Record → ℕ → ℕ → Visited
asked store letter place =
    asks (kind_of (child store place).kind) letter (child store place) (marked (child store (child store place).left)) place

-- The product of x with the right part where it is asked for, and else x.
abbrev pub product_of : ℕ → List Record → ℕ → ℕ → Bool → Making
product_of room store x right product = elim product [ true ↦ make room store sequence_kind 0 x right | false ↦ placed x store ]

-- Once the left part came to x.
abbrev pub with_left : (ℕ → List Record → ℕ → Deriving) → ℕ → ℕ → ℕ → Bool → Bool → List Record → ℕ → Deriving
with_left derive room x right product both store budget =
    and_then (of_making (product_of room store x right product) budget) (λ y store₁ budget₁. after_product derive room right both y store₁ budget₁)

abbrev pub derive_parts : (ℕ → List Record → ℕ → Deriving) → ℕ → ℕ → ℕ → Bool → Bool → List Record → ℕ → Deriving
derive_parts derive room left right product both store budget =
    and_then (derive left store budget) (λ x store₁ budget₁. with_left derive room x right product both store₁ budget₁)

-- What was asked for, done.
abbrev pub derive_asked : Visited → (ℕ → List Record → ℕ → Deriving) → ℕ → List Record → ℕ → Deriving
derive_asked (Leaf place) derive room store budget = derived place store budget
derive_asked (Parts left right product both) derive room store budget = derive_parts derive room left right product both store budget

-- What the rules say of a making, by kind: a place is given, the record stays one, or two sets are merged. The kinds whose records are sets
-- have this in common: no letter and two children, and two sets of places above 0 are merged.
use Rattle.std.specs.Prelude.{ℕ, ◌<◌, Bool, true, false, ◌||◌, List, ◌≡◌, refl, eqb}
use Rattle.std.proofs.Common.{arith, sym, ◌∙◌, subst}
use Rattle.std.proofs.lemmas.Bool.{false≢true}
use Rattle.std.proofs.Math.Path.{ap}
use Rattle.records.specs.declared.kind.Kind.{Kind}
use Rattle.records.specs.declared.kind.Kind.TheVariants.{Nothing, EmptyWord, Letter, Choice, Sequence, Repeat, Unknown}
use Rattle.records.specs.declared.kind.Columns.{Columns}
use Rattle.records.specs.declared.record.Record.{Record}
use Rattle.records.specs.Kind.{choice_kind, kind_of, line, columns}
use Rattle.cards.specs.Standing.{LineOf, Line}
use Rattle.store.specs.declared.making.Ruled.{Ruled}
use Rattle.store.specs.declared.making.Ruled.TheVariants.{Gives, Stays, Merges}
use Rattle.store.specs.Making.{placed, intern, rule, new_record, by_rule, nothing_place, empty_word_place, set_of_both, make}
use Rattle.store.specs.Good.{is_set, SetKind}

-- Making, by what the rule says.
module _ (room : ℕ) (store : List Record) (kind letter left right : ℕ) where
  by_the_rule : {u : Ruled} → rule (kind_of kind) left right ≡ u
      → make room store kind letter left right ≡ by_rule u room store (new_record store kind letter left right)
  unfolding make
  by_the_rule e = ap (λ (u : Ruled). by_rule u room store (new_record store kind letter left right)) e

  pub make_given : {place : ℕ} → rule (kind_of kind) left right ≡ Gives place → make room store kind letter left right ≡ placed place store
  make_given e = by_the_rule e

  pub make_kept : rule (kind_of kind) left right ≡ Stays → make room store kind letter left right ≡ intern room store (new_record store kind letter left right)
  make_kept e = by_the_rule e

  pub make_merged : rule (kind_of kind) left right ≡ Merges → make room store kind letter left right ≡ set_of_both room kind store left right
  make_merged e = by_the_rule e

-- What the rule says of a kind: it gives a place, the record stays one and is no set, or it is a set and two are merged.
pub data Says (k : Kind) (left right : ℕ) : Type 0 where
  gives : (place : ℕ) → rule k left right ≡ Gives place → Says k left right
  stays : is_set k ≡ false → rule k left right ≡ Stays → Says k left right
  merges : is_set k ≡ true → rule k left right ≡ Merges → Says k left right

sequence_says : (left right : ℕ) → Says Sequence left right
sequence_says left right = go (eqb left nothing_place || eqb right nothing_place) refl (eqb left empty_word_place) refl (eqb right empty_word_place) refl
  where
    go : (a : Bool) → eqb left nothing_place || eqb right nothing_place ≡ a → (b : Bool) → eqb left empty_word_place ≡ b
        → (c : Bool) → eqb right empty_word_place ≡ c → Says Sequence left right
    go true e b f c h = gives nothing_place (rw e)
    go false e true f c h = gives right (rw (e, f))
    go false e false f true h = gives left (rw (e, f, h))
    go false e false f false h = stays refl (rw (e, f, h))

pub says : (k : Kind) (left right : ℕ) → Says k left right
says Nothing left right = stays refl refl
says EmptyWord left right = stays refl refl
says Letter left right = stays refl refl
says Choice left right = merges refl refl
says Sequence left right = sequence_says left right
says Repeat left right = stays refl refl
says Unknown left right = stays refl refl

-- What holds of choices holds of every kind whose records are sets.
pub each_set : (P : Kind → Type 0) → P Choice → (k : Kind) → is_set k ≡ true → P k
each_set P c Nothing e = absurd (false≢true e)
each_set P c EmptyWord e = absurd (false≢true e)
each_set P c Letter e = absurd (false≢true e)
each_set P c Choice e = c
each_set P c Sequence e = absurd (false≢true e)
each_set P c Repeat e = absurd (false≢true e)
each_set P c Unknown e = absurd (false≢true e)

-- Choices are sets.
pub choice_set : SetKind choice_kind
choice_set = record { is = refl }

-- A kind of sets of which two are merged whatever their places: every kind of sets is one.
pub record AlwaysMerged (kind : ℕ) : Type 0 where
  pub set : SetKind kind
  pub merges : (left right : ℕ) → rule (kind_of kind) left right ≡ Merges

pub set_merged : {kind : ℕ} → SetKind kind → AlwaysMerged kind
set_merged {kind} s =
    record { set = s; merges = each_set (λ (k : Kind). (left right : ℕ) → rule k left right ≡ Merges) (λ left right. refl) (kind_of kind) s.is }

-- Where two are merged the kind is one of sets ..
pub merged_kind : (kind left right : ℕ) → rule (kind_of kind) left right ≡ Merges → SetKind kind
merged_kind kind left right e = go (says (kind_of kind) left right)
  where
    go : Says (kind_of kind) left right → SetKind kind
    go (gives place f) = let z : ◌≡◌ {A = ℕ} 0 1 = cc in absurd (omega arith)
    go (stays s f) = let z : ◌≡◌ {A = ℕ} 0 1 = cc in absurd (omega arith)
    go (merges s f) = record { is = s }

-- .. and two sets of places above 0 are merged.
pub set_merges : {kind : ℕ} → SetKind kind → (left right : ℕ) → 0 < left → 0 < right → rule (kind_of kind) left right ≡ Merges
set_merges {kind} s left right l m = each_set (λ (k : Kind). rule k left right ≡ Merges) refl (kind_of kind) s.is

-- Their line in the kind table: no letter, and two children.
abbrev pub two_children : Columns
two_children = line false true true

pub set_columns : {kind : ℕ} → SetKind kind → columns (kind_of kind) ≡ two_children
set_columns {kind} s = each_set (λ (k : Kind). columns k ≡ two_children) refl (kind_of kind) s.is

pub set_line : {kind at : ℕ} {r : Record} → SetKind kind → r.kind ≡ kind → Line at r → LineOf two_children at r
set_line {at = at} {r} s e line = subst (λ (c : Columns). LineOf c at r) (ap (λ (n : ℕ). columns (kind_of n)) e ∙ set_columns s) line

pub line_of_set : {kind at : ℕ} {r : Record} → SetKind kind → r.kind ≡ kind → LineOf two_children at r → Line at r
line_of_set {at = at} {r} s e line = subst (λ (c : Columns). LineOf c at r) (sym (ap (λ (n : ℕ). columns (kind_of n)) e ∙ set_columns s)) line

-- Only place 0 of a good store has a language with no word. This holds where every kind is one of document 01's six: a law apart from
-- Good, since a complement can have no word.
use Rattle.std.specs.Prelude.{ℕ, zero, suc, ◌<◌, List, [], ◌∷◌, ◌++◌, ◌≡◌, refl, eqb, length}
use Rattle.std.proofs.Math.Decide.{dec_lt}
use Rattle.std.proofs.Common.{arith, inl, ◌∙◌, eq-eqb}
use Rattle.std.proofs.lemmas.Bool.{false≢true}
use Rattle.std.proofs.Math.Bool.{or-true}
use Rattle.std.proofs.Math.Path.{sym, ap}
use Rattle.language.specs.Word.{Word, Bytes, none, one}
use Rattle.language.proofs.Laws.Words.{over_join}
use Rattle.language.specs.Laws.Derivative.{nullable}
use Rattle.records.specs.declared.kind.Kind.{Kind}
use Rattle.records.specs.declared.kind.Kind.TheVariants.{Nothing, EmptyWord, Letter, Choice, Sequence, Repeat, Unknown}
use Rattle.records.specs.declared.record.Record.{Record}
use Rattle.records.specs.Record.{child}
use Rattle.records.specs.Kind.{choice_kind, kind_of, columns}
use Rattle.records.specs.Number.{number}
use Rattle.records.specs.Laws.Kind.{number_of_kind}
use Rattle.cards.specs.Mark.{bit}
use Rattle.cards.specs.Standing.{LineOf}
use Rattle.cards.proofs.Laws.Meaning.{pattern_of_record}
use Rattle.store.specs.declared.making.Ruled.TheVariants.{Gives}
use Rattle.store.specs.Making.{placed, rule, members}
use Rattle.store.specs.Good.{Good, Set, member}
use Rattle.store.proofs.Laws.Rules.{make_given, choice_set}
use Rattle.store.proofs.Laws.Members.{set_at}
use Rattle.store.proofs.Laws.Meaning.{language_of_record}
use Rattle.store.proofs.Laws.Languages.{language_at, operator_over}

-- A word of bytes in the language at a place.
pub record WordAt (store : List Record) (place : ℕ) : Type 0 where
  pub word : Word
  pub bytes : Bytes word
  pub holds : language_at store place word

module _ {store : List Record} (g : Good store) (at : ℕ) (l : at < length store) where
  abbrev r : Record
  r = child store at

  -- No rule applies to a record of the store: it would give a place that is not the record's own.
  no_rule : {place : ℕ} → rule (kind_of r.kind) r.left r.right ≡ Gives place → place ≡ at
  no_rule {place} e =
      let made = make_given 0 store r.kind r.letter r.left r.right e in
      let own = g.settled at l 0 in
      same (sym made ∙ own)
    where
      same : placed place store ≡ placed at store → place ≡ at
      same f = cc

  -- Place 0 alone is nothing.
  nothing_at_0 : r.kind ≡ 0 → r.letter ≡ 0 → r.left ≡ 0 → r.right ≡ 0 → at ≡ 0
  unfolding nullable
  nothing_at_0 k a b c =
      let line = (g.obeys at l).line in
      let mark : r.mark ≡ 0
      = g.mark at l ∙ ap (λ (p : _). bit (nullable p)) (pattern_of_record store at l line) ∙ rw k in
      g.once at 0 l (let two = g.some in omega arith)
      ((λ i. record { kind = k i; letter = a i; mark = mark i; fourth = (g.obeys at l).fourth i; left = b i; right = c i }) ∙ sym g.nothing)

  -- The number of the record's kind.
  numbered_as : {k : Kind} → kind_of r.kind ≡ k → r.kind ≡ number k
  numbered_as e = number_of_kind r.kind (g.obeys at l).line.known e

  -- The left child of a choice is a member, and nothing is none.
  choice_left : r.kind ≡ choice_kind → 0 < r.left
  choice_left k = go (set_at choice_set g at l (eq-eqb r.kind choice_kind k)).set
    where
      go : Set choice_kind store 0 (r.left ∷ members choice_kind store r.right) → 0 < r.left
      go (member h _ _ _) = h

  -- A word of the operator's language is one of the place's.
  from_operator : (w : Word) → Bytes w
      → operator_over (kind_of r.kind) r.letter (language_at store r.left) (language_at store r.right) w → WordAt store at
  from_operator w b h = record { word = w; bytes = b; holds = (language_of_record g at l).from w b h }

  -- By kind, with the line of the kind.
  some_here : 0 < at → ((i : ℕ) → 0 < i → i < at → WordAt store i) → (k : Kind) → kind_of r.kind ≡ k → LineOf (columns k) at r → WordAt store at
  some_here pos lower Nothing k o = absurd (let z = nothing_at_0 (numbered_as k) o.letter o.left o.right in omega arith)
  some_here pos lower EmptyWord k o = from_operator [] none (rw k refl)
  some_here pos lower Letter k o = from_operator (r.letter ∷ []) (one (g.letter at l) none) (rw k refl)
  some_here pos lower Choice k o =
      let first = lower r.left (choice_left (numbered_as k)) o.left in
      from_operator first.word first.bytes (rw k (inl first.holds))
  some_here pos lower Sequence k o =
      let first = lower r.left (left_above (dec_lt 0 r.left)) o.left in
      let second = lower r.right (right_above (dec_lt 0 r.right)) o.right in
      from_operator (first.word ++ second.word) (over_join first.bytes second.bytes)
      (rw k (record { front = first.word; back = second.word; joined = refl; in_front = first.holds; in_back = second.holds }))
    where
      left_above : Dec (0 < r.left) → 0 < r.left
      left_above (yes h) = h
      left_above (no h) =
          let z : r.left ≡ 0 = omega arith in
          let e = no_rule {place = 0} (rw (k, z) refl) in
          absurd (omega arith)

      right_above : Dec (0 < r.right) → 0 < r.right
      right_above (yes h) = h
      right_above (no h) =
          let z : r.right ≡ 0 = omega arith in
          let e = no_rule {place = 0} (rw (k, z, or-true (eqb r.left 0)) refl) in
          absurd (omega arith)
  some_here pos lower Repeat k o = from_operator [] none (rw k (record { times = 0; in_power = refl }))
  some_here pos lower Unknown k o = absurd (false≢true o.known)

some_below : {store : List Record} → Good store → (n at : ℕ) → at < n → at < length store → 0 < at → WordAt store at
some_below g zero at b l pos = absurd (omega arith)
some_below {store} g (suc n) at b l pos =
    some_here g at l pos (λ i q m. some_below g n i (omega arith) (omega arith) q) (kind_of (child store at).kind) refl (g.obeys at l).line

-- Every place above 0 has a word.
pub some_word : {store : List Record} → Good store → (at : ℕ) → 0 < at → at < length store → WordAt store at
some_word g at pos l = some_below g (suc at) at (omega arith) l pos

-- What the records of a good store mean: a record's language is its operator's over its children's, a choice's the union of its members', and that
-- of a set made of two places' members its kind's operator over theirs.
use Rattle.std.specs.Prelude.{ℕ, zero, suc, ◌<◌, Bool, true, false, List, [], ◌∷◌, ◌≡◌, refl, length}
use Rattle.std.proofs.Common.{arith, inl, inr, ⊎_elim, sym, ◌∙◌, ap, subst, eqb-true}
use mathlib.Core.List.Memᴰ
use Rattle.language.specs.Word.{Word, Listed}
use Rattle.language.specs.Language.{Union, language, Equal, nothing as no-pattern, empty_word as empty-pattern}
use Rattle.language.proofs.Laws.Equality.{equal_refl, equal_sym, equal_trans, union_equal, choice_with_nothing}
use Rattle.records.specs.declared.kind.Kind.{Kind}
use Rattle.records.specs.declared.record.Record.{Record}
use Rattle.records.specs.Record.{child}
use Rattle.records.specs.Kind.{choice_kind, kind_of, columns}
use Rattle.records.specs.Laws.Kind.{number_of_kind}
use Rattle.cards.proofs.Laws.Line.{lower_right}
use Rattle.cards.proofs.Laws.Meaning.{pattern_of_record}
use Rattle.store.specs.Making.{is_kind, members, merged}
use Rattle.store.specs.Good.{SetKind, Good}
use Rattle.store.specs.Laws.Wall.{Grows}
use Rattle.store.proofs.Laws.Wall.{grows_length, grows_language}
use Rattle.store.proofs.Laws.Languages.{language_at, operator_over, language_of_operator, equal_of_path}
use Rattle.store.proofs.Laws.Members.{members_of_nothing, members_of_set, members_of_one, members_kept}
use Rattle.store.proofs.Laws.Sets.{merged_from, merged_to}
use Rattle.store.proofs.Laws.Rules.{each_set}

-- The languages of a good store's records.

module _ {store : List Record} (g : Good store) where
  -- A record's language is its operator's over its children's.
  pub language_of_record : (at : ℕ) → at < length store
      → Equal (language_at store at) (operator_over (kind_of (child store at).kind) (child store at).letter (language_at store (child store at).left) (language_at store (child store at).right))
  language_of_record at l =
      equal_trans
      (equal_of_path (pattern_of_record store at l (g.obeys at l).line))
      (language_of_operator (kind_of (child store at).kind) (child store at).letter _ _)

  -- Place 0 has no word, place 1 just the empty word.
  pub language_at_0 : Equal (language_at store 0) (language no-pattern)
  language_at_0 = equal_of_path {q = no-pattern} (pattern_of_record store 0 (omega arith) (g.obeys 0 (omega arith)).line ∙ rw g.nothing)

  pub language_at_1 : Equal (language_at store 1) (language empty-pattern)
  language_at_1 = equal_of_path {q = empty-pattern} (pattern_of_record store 1 (omega arith) (g.obeys 1 (omega arith)).line ∙ rw g.empty_word)

-- The union of the languages at some places.
pub record AnyOf (store : List Record) (ms : List ℕ) (w : Word) : Type 0 where
  pub place : ℕ
  pub listed : Listed ms place
  pub holds : language_at store place w

-- Of what is merged it is the union of both.
any_of_merged : {store : List Record} (ms ns : List ℕ) → Equal (AnyOf store (merged ms ns)) (Union (AnyOf store ms) (AnyOf store ns))
any_of_merged ms ns =
    record {
      to = λ w b h.
          ⊎_elim (λ l. inl (record { place = h.place; listed = l; holds = h.holds }))
          (λ l. inr (record { place = h.place; listed = l; holds = h.holds }))
          (merged_from ms ns h.place h.listed);
      from = λ w b h.
          ⊎_elim (λ k. record { place = k.place; listed = merged_to ms ns k.place (inl k.listed); holds = k.holds })
          (λ k. record { place = k.place; listed = merged_to ms ns k.place (inr k.listed); holds = k.holds })
          h;
    }

-- The first, or one of those behind it.
any_of_more : {store : List Record} (m : ℕ) (ms : List ℕ) → Equal (Union (language_at store m) (AnyOf store ms)) (AnyOf store (m ∷ ms))
any_of_more {store} m ms =
    record {
      to = λ w b h.
          ⊎_elim (λ k. record { place = m; listed = Memᴰ.head refl; holds = k })
          (λ k. record { place = k.place; listed = Memᴰ.tail k.listed; holds = k.holds })
          h;
      from = λ w b h.
          ⊎_elim (λ e. inl (subst (λ (n : ℕ). language_at store n w) e h.holds))
          (λ l. inr (record { place = h.place; listed = l; holds = h.holds }))
          (Memᴰ.cases_cons h.listed);
    }

any_of_none : {store : List Record} → Equal (language no-pattern) (AnyOf store [])
any_of_none = record { to = λ w b h. absurd h; from = λ w b h. absurd (Memᴰ.not-nil h.listed) }

module _ {store : List Record} (g : Good store) where
  union_below : (n place : ℕ) → place < n → place < length store → Equal (language_at store place) (AnyOf store (members choice_kind store place))
  union_below zero place b l = absurd (omega arith)
  union_below (suc n) zero b l = rw (members_of_nothing choice_kind store) (equal_trans (language_at_0 g) any_of_none)
  union_below (suc n) (suc k) b l = go (is_kind choice_kind (child store (suc k))) refl (λ p h. union_below n p h)
    where
      of_choice : is_kind choice_kind (child store (suc k)) ≡ true
          → Equal (language_at store (suc k)) (Union (language_at store (child store (suc k)).left) (language_at store (child store (suc k)).right))
      of_choice e =
          subst
          (λ (n : ℕ). Equal (language_at store (suc k)) (operator_over (kind_of n) (child store (suc k)).letter (language_at store (child store (suc k)).left) (language_at store (child store (suc k)).right)))
          (eqb-true (child store (suc k)).kind choice_kind e)
          (language_of_record g (suc k) l)

      go : (c : Bool) → is_kind choice_kind (child store (suc k)) ≡ c
          → ((p : ℕ) → p < n → p < length store → Equal (language_at store p) (AnyOf store (members choice_kind store p)))
          → Equal (language_at store (suc k)) (AnyOf store (members choice_kind store (suc k)))
      go true e before =
          let right-lower : (child store (suc k)).right < suc k = ⊎_elim (λ m. m) (λ z. omega arith) (lower_right (g.obeys (suc k) l).line) in
          rw (members_of_set choice_kind g (suc k) (omega arith) l e)
          (equal_trans (of_choice e)
          (equal_trans
          (union_equal (equal_refl (language_at store (child store (suc k)).left)) (before (child store (suc k)).right (omega arith) (omega arith)))
          (any_of_more (child store (suc k)).left (members choice_kind store (child store (suc k)).right))))
      go false e before =
          rw (members_of_one choice_kind g (suc k) (omega arith) l e)
          (equal_trans (equal_sym (choice_with_nothing (language_at store (suc k))))
          (equal_trans (union_equal (equal_refl (language_at store (suc k))) any_of_none) (any_of_more (suc k) [])))

  -- The language at a place is the union of its members'.
  pub union_of_members : (place : ℕ) → place < length store → Equal (language_at store place) (AnyOf store (members choice_kind store place))
  union_of_members place l = union_below (suc place) place (omega arith) l

-- A place whose members are those of two places of the store before, merged: the union of their languages.
pub union_of_merged : {store grown : List Record} → Good store → Good grown → Grows store grown → {left right place : ℕ}
    → left < length store → right < length store → place < length grown
    → members choice_kind grown place ≡ merged (members choice_kind store left) (members choice_kind store right)
    → Equal (language_at grown place) (Union (language_at store left) (language_at store right))
union_of_merged {store} {grown} g h k {left} {right} {place} l m n e =
    equal_trans (union_of_members h place n)
    (equal_trans
    (subst
    (λ (ms : List ℕ). Equal (AnyOf grown ms) (Union (AnyOf grown (members choice_kind store left)) (AnyOf grown (members choice_kind store right))))
    (sym e)
    (any_of_merged (members choice_kind store left) (members choice_kind store right)))
    (union_equal (side left l) (side right m)))
  where
    side : (p : ℕ) → p < length store → Equal (AnyOf grown (members choice_kind store p)) (language_at store p)
    side p b =
        equal_trans
        (subst (λ (ms : List ℕ). Equal (AnyOf grown ms) (language_at grown p)) (members_kept choice_kind g k p b)
        (equal_sym (union_of_members h p (omega (arith, grows_length k)))))
        (grows_language k p b)

-- A place whose members, of a kind of sets, are those of two places merged: it means the kind's operator over their languages.
pub merged_means : {kind : ℕ} → SetKind kind → (letter : ℕ) {store grown : List Record} → Good store → Good grown → Grows store grown
    → {left right place : ℕ} → left < length store → right < length store → place < length grown
    → members kind grown place ≡ merged (members kind store left) (members kind store right)
    → Equal (language_at grown place) (operator_over (kind_of kind) letter (language_at store left) (language_at store right))
merged_means {kind} set letter {store} {grown} g h more {left} {right} {place} l m n e =
    each_set
    (λ (k : Kind). kind_of kind ≡ k → Equal (language_at grown place) (operator_over k letter (language_at store left) (language_at store right)))
    (λ c.
    union_of_merged g h more l m n
    (subst (λ (k : ℕ). members k grown place ≡ merged (members k store left) (members k store right)) (number_of_kind kind (ap (λ (k : Kind). (columns k).known) c) c) e))
    (kind_of kind) set.is refl

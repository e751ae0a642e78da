-- Making keeps the wall: it only adds records at the end, keeps the store good, means its operator, stops only for a new record
-- with no free place, goes on from there in a larger room, and does the same again in any store grown from what it left.
use Rattle.std.specs.Prelude.{ℕ, suc, ◌<◌, Bool, true, false, ◌||◌, cond, List, [], ◌∷◌, ◌++◌, ◌≡◌, refl, eqb, length}
use Rattle.std.proofs.Common.{arith, ⊎_elim, sym, ◌∙◌, ap, subst, eqb-true, length-append}
use Rattle.std.proofs.lemmas.Bool.{false≢true}
use Rattle.language.specs.Language.{Language, Concatenation, language, Equal, nothing as no-pattern, empty_word as empty-pattern}
use Rattle.language.proofs.Laws.Equality.{equal_refl, equal_sym, equal_trans, concatenation_equal, sequence_of_nothing, sequence_with_nothing, sequence_of_empty, sequence_with_empty}
use Rattle.records.specs.declared.kind.Kind.{Kind}
use Rattle.records.specs.declared.kind.Kind.TheVariants.{Nothing, EmptyWord, Letter, Choice, Sequence, Repeat, Unknown}
use Rattle.records.specs.declared.record.Record.{Record}
use Rattle.records.specs.Kind.{kind_of}
use Rattle.cards.proofs.Laws.Line.{lower_left, lower_right}
use Rattle.std.specs.declared.option.Option.TheVariants.{Some, None}
use Rattle.store.specs.declared.making.Ruled.TheVariants.{Gives, Stays, Merges}
use Rattle.store.specs.Making.{Making, find, intern, nothing_place, empty_word_place, sequence_rule, rule, new_record, members, merged, built, make}
use Rattle.store.specs.Good.{is_set, SetKind, Good, Makeable}
use Rattle.store.proofs.Laws.Finding.{found_within, found_holds, added_found}
use Rattle.store.specs.Laws.Wall.{Grows, Ready}
use Rattle.store.proofs.Laws.Wall.{grows_refl, grows_trans, longer_by_one, kept_refl, Placed, MakeLaw, was_placed, was_full}
use Rattle.store.proofs.Laws.Languages.{language_at, operator_over, language_of_operator, equal_of_path}
use Rattle.store.proofs.Laws.Members.{members_set}
use Rattle.store.proofs.Laws.Merging.{merged_set}
pub use Rattle.store.proofs.Laws.Interning.{marked_nullable}
use Rattle.store.proofs.Laws.Interning.{Way, found, written, stopped, way, intern_found, intern_written, grows_found, fresh_kept}
use Rattle.store.proofs.Laws.Choosing.{set_settled, both_kept}
use Rattle.store.proofs.Laws.Rules.{make_given, make_kept, make_merged, Says, gives, stays, merges, says}
use Rattle.store.proofs.Laws.Growing.{pattern_new, good_more}
pub use Rattle.store.proofs.Laws.Meaning.{language_of_record, language_at_0, language_at_1}
use Rattle.store.proofs.Laws.Meaning.{merged_means}
use Rattle.store.proofs.Laws.Building.{Built, BuildLaw, was_built, ran_out, build_law}

-- What a rule gives stands in the store and means the operator.

gives_one : {a b : ℕ} → Gives a ≡ Gives b → a ≡ b
gives_one e = cc

stays_not : {A : Type 0} {a : ℕ} → Stays ≡ Gives a → A
stays_not e = let z : ◌≡◌ {A = ℕ} 0 1 = cc in absurd (omega arith)

merges_not : {A : Type 0} {a : ℕ} → Merges ≡ Gives a → A
merges_not e = let z : ◌≡◌ {A = ℕ} 0 1 = cc in absurd (omega arith)

module _ {store : List Record} (g : Good store) where
  -- A place means a language.
  record Means (place : ℕ) (A : Language) : Type 0 where
    inside : place < length store
    equal : Equal (language_at store place) A

  at_zero : (n : ℕ) → eqb n nothing_place ≡ true → Equal (language_at store n) (language no-pattern)
  at_zero n e = subst (λ (m : ℕ). Equal (language_at store m) (language no-pattern)) (sym (eqb-true n nothing_place e)) (language_at_0 g)

  at_one : (n : ℕ) → eqb n empty_word_place ≡ true → Equal (language_at store n) (language empty-pattern)
  at_one n e = subst (λ (m : ℕ). Equal (language_at store m) (language empty-pattern)) (sym (eqb-true n empty_word_place e)) (language_at_1 g)

  is_given : {n place : ℕ} {A : Language} → Gives n ≡ Gives place → n < length store → Equal A (language_at store n) → Means place A
  is_given {A = A} e l q = subst (λ (m : ℕ). Means m A) (gives_one e) (record { inside = l; equal = equal_sym q })

  sequence_means : (left right place : ℕ) → left < length store → right < length store → sequence_rule left right ≡ Gives place
      → Means place (Concatenation (language_at store left) (language_at store right))
  sequence_means left right place l m e = go (eqb left nothing_place) refl (eqb right nothing_place) refl (eqb left empty_word_place) refl (eqb right empty_word_place) refl e
    where
      nothing_at_0 : Equal (language no-pattern) (language_at store 0)
      nothing_at_0 = equal_sym (language_at_0 g)

      go : (a : Bool) → eqb left nothing_place ≡ a → (b : Bool) → eqb right nothing_place ≡ b
          → (c : Bool) → eqb left empty_word_place ≡ c → (d : Bool) → eqb right empty_word_place ≡ d
          → cond (a || b) (Gives nothing_place) (cond c (Gives right) (cond d (Gives left) Stays)) ≡ Gives place
          → Means place (Concatenation (language_at store left) (language_at store right))
      go true p b q c r d s f =
          is_given f (omega arith)
          (equal_trans (concatenation_equal (at_zero left p) (equal_refl (language_at store right))) (equal_trans (sequence_of_nothing (language_at store right)) nothing_at_0))
      go false p true q c r d s f =
          is_given f (omega arith)
          (equal_trans (concatenation_equal (equal_refl (language_at store left)) (at_zero right q)) (equal_trans (sequence_with_nothing (language_at store left)) nothing_at_0))
      go false p false q true r d s f =
          is_given f m (equal_trans (concatenation_equal (at_one left r) (equal_refl (language_at store right))) (sequence_of_empty (language_at store right)))
      go false p false q false r true s f =
          is_given f l (equal_trans (concatenation_equal (equal_refl (language_at store left)) (at_one right s)) (sequence_with_empty (language_at store left)))
      go false p false q false r false s f = stays_not f

  rule_means : (k : Kind) (c left right place : ℕ) → left < length store → right < length store → rule k left right ≡ Gives place
      → Means place (operator_over k c (language_at store left) (language_at store right))
  rule_means Nothing c left right place l m e = stays_not e
  rule_means EmptyWord c left right place l m e = stays_not e
  rule_means Letter c left right place l m e = stays_not e
  rule_means Choice c left right place l m e = merges_not e
  rule_means Sequence c left right place l m e = sequence_means left right place l m e
  rule_means Repeat c left right place l m e = stays_not e
  rule_means Unknown c left right place l m e = stays_not e

-- The law of making.

module _ {room : ℕ} {store : List Record} (ready : Ready room store) {kind letter left right : ℕ} (can : Makeable store kind letter left right) where
  abbrev made : Record
  made = new_record store kind letter left right

  abbrev operator_here : Language
  operator_here = operator_over (kind_of kind) letter (language_at store left) (language_at store right)

  left_inside : left < length store
  left_inside = ⊎_elim (λ m. omega arith) (λ m. let two = ready.good.some in omega arith) (lower_left can.line)

  right_inside : right < length store
  right_inside = ⊎_elim (λ m. omega arith) (λ m. let two = ready.good.some in omega arith) (lower_right can.line)

  -- By a rule.
  given : (place : ℕ) → rule (kind_of kind) left right ≡ Gives place → Placed room store kind letter left right place store
  given place e =
      let m = rule_means ready.good (kind_of kind) letter left right place left_inside right_inside e in
      record {
        kept = kept_refl ready;
        inside = m.inside;
        means = m.equal;
        replays = λ room' grown k. make_given room' grown kind letter left right e;
        enough = λ room' n. make_given room' store kind letter left right e;
      }

  -- A record that stays one: used or written.
  module _ (no-set : is_set (kind_of kind) ≡ false) (e : rule (kind_of kind) left right ≡ Stays) where
    -- It is made by interning, here and in a grown store.
    interned : (room' : ℕ) {grown : List Record} → Grows store grown → make room' grown kind letter left right ≡ intern room' grown made
    interned room' {grown} k = make_kept room' grown kind letter left right e ∙ ap (intern room' grown) (fresh_kept k kind letter left right left_inside right_inside)

    used : {place : ℕ} → find store made ≡ Some place → Placed room store kind letter left right place store
    used {place} f =
        let l = found_within store made place f in
        record {
          kept = kept_refl ready;
          inside = l;
          means =
              subst
              (λ (r : Record). Equal (language_at store place) (operator_over (kind_of r.kind) r.letter (language_at store r.left) (language_at store r.right)))
              (found_holds store made place f)
              (language_of_record ready.good place l);
          replays = λ room' grown k. interned room' k ∙ intern_found room' grown made (grows_found k made place f);
          enough = λ room' n. interned room' (grows_refl store) ∙ intern_found room' store made f;
        }

    wrote : find store made ≡ None → length store < room → Placed room store kind letter left right (length store) (store ++ made ∷ [])
    wrote f l =
        record {
          kept = record { grows = grows; ready = record { within = omega (arith, n); good = good } };
          inside = omega (arith, n);
          means = equal_trans (equal_of_path (pattern_new store made)) (language_of_operator (kind_of kind) letter _ _);
          replays = λ room' grown k.
              interned room' (grows_trans grows k) ∙ intern_found room' grown made (grows_found k made (length store) (added_found store made f));
          enough = λ room' m. interned room' (grows_refl store) ∙ intern_written room' store made f (omega (arith, n));
        }
      where
        n : length (store ++ made ∷ []) ≡ suc (length store)
        n = length-append store (made ∷ []) ∙ omega arith

        grows : Grows store (store ++ made ∷ [])
        grows = record { more = made ∷ []; is = refl }

        good : Good (store ++ made ∷ [])
        good =
            good_more store ready.good kind letter left right can.line can.byte f
            (λ c. absurd (false≢true (sym no-set ∙ c)))
            (λ room'. interned room' grows ∙ intern_found room' (store ++ made ∷ []) made (added_found store made f))
            (λ room' m. interned room' (grows_refl store) ∙ intern_written room' store made f m)

    stays_law : {m : Making} → Way room store made m → MakeLaw room store kind letter left right m
    stays_law (found f) = was_placed (used f)
    stays_law (written f l) = was_placed (wrote f l)
    stays_law (stopped f l) =
        let w = ready.within in
        was_full
        record {
          kept = kept_refl ready;
          fills = omega arith;
          goes_on = λ room' k. rw (interned room' (grows_refl store) ∙ intern_written room' store made f (omega arith)) (longer_by_one store made);
        }

  -- A set: those of its children, merged and built.
  module _ (set : SetKind kind) (e : rule (kind_of kind) left right ≡ Merges) where
    abbrev both : List ℕ
    both = merged (members kind store left) (members kind store right)

    is_built : (room' : ℕ) {grown : List Record} → Grows store grown → make room' grown kind letter left right ≡ built room' kind grown both
    is_built room' {grown} k =
        make_merged room' grown kind letter left right e ∙ both_kept set ready.good k room' left right left_inside right_inside

    set_placed : {place : ℕ} {store' : List Record} → Built room kind store both place store' → Placed room store kind letter left right place store'
    set_placed {place} {store'} h =
        record {
          kept = h.kept;
          inside = h.inside;
          means = merged_means set letter ready.good h.kept.ready.good h.kept.grows left_inside right_inside h.inside h.lists;
          replays = λ room' grown k.
              is_built room' (grows_trans h.kept.grows k)
              ∙ ap (built room' kind grown) (sym h.lists) ∙ set_settled set h.kept.ready.good k room' place h.inside;
          enough = λ room' n. is_built room' (grows_refl store) ∙ h.enough room' n;
        }

    merges_law : {m : Making} → BuildLaw room kind store both m → MakeLaw room store kind letter left right m
    merges_law (was_built h) = was_placed (set_placed h)
    merges_law (ran_out h) =
        was_full record { kept = h.kept; fills = h.fills; goes_on = λ room' k. rw (is_built room' (grows_refl store)) (h.goes_on room' k) }

  pub make_law : MakeLaw room store kind letter left right (make room store kind letter left right)
  make_law = go (says (kind_of kind) left right)
    where
      go : Says (kind_of kind) left right → MakeLaw room store kind letter left right (make room store kind letter left right)
      go (gives place e) = rw (make_given room store kind letter left right e) (was_placed (given place e))
      go (stays s e) = rw (make_kept room store kind letter left right e) (stays_law s e (way room store made))
      go (merges s e) =
          let set : SetKind kind = record { is = s } in
          subst (MakeLaw room store kind letter left right) (sym (is_built set e room (grows_refl store)))
          (merges_law set e
          (build_law set ready (merged_set (members_set set ready.good left left_inside) (members_set set ready.good right right_inside))))

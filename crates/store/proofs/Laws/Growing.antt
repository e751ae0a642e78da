-- A good store with one new record is good.
use Rattle.std.specs.Prelude.{ℕ, suc, ◌<◌, ◌≤◌, true, List, [], ◌∷◌, ◌++◌, ◌≡◌, refl, length, take}
use Rattle.std.proofs.Math.Decide.{dec_lt}
use Rattle.std.proofs.Common.{arith, ⊎_elim, sym, ◌∙◌, ap, subst, eq-eqb, length-append, take_all}
use Rattle.std.proofs.Math.Seq.{get_or-append_seam, take-append_seam}
use Rattle.std.proofs.lemmas.List.{get_or_at, take-append-le}
use Rattle.language.specs.Laws.Derivative.{nullable}
use Rattle.records.specs.declared.record.Record.{Record}
use Rattle.records.specs.Record.{child}
use Rattle.records.specs.Kind.{kind_of}
use Rattle.cards.specs.Mark.{bit}
use Rattle.cards.specs.Meaning.{record_pattern, patterns, numbered}
use Rattle.cards.specs.Standing.{Line, Obeys}
use Rattle.cards.proofs.Laws.Line.{lower_left, lower_right}
use Rattle.cards.proofs.Laws.Meaning.{patterns_more, length_patterns, pattern_kept}
use Rattle.cards.proofs.Laws.Examine.{has_empty_right}
use Rattle.std.specs.declared.option.Option.TheVariants.{None}
use Rattle.store.specs.Making.{placed, find, intern, new_record}
use Rattle.store.specs.Good.{is_set, Good, Set, IsSet, make_again}
use Rattle.store.proofs.Laws.Finding.{absent_nowhere}
use Rattle.store.specs.Laws.Wall.{Grows}
use Rattle.store.proofs.Laws.Members.{child_kept, members_kept, set_kept}
use Rattle.store.proofs.Laws.Interning.{intern_found, grows_found, fresh_kept, own_record, own_found, marked_nullable}
use Rattle.store.proofs.Laws.Rules.{make_given, make_kept, make_merged, Says, gives, stays, merges, says}
use Rattle.store.proofs.Laws.Choosing.{both_settled}

-- A record of a good store is settled in a grown store too.
settled_again : {store : List Record} → Good store → {grown : List Record} → Grows store grown → (at : ℕ) → at < length store → (room : ℕ)
    → make_again room grown (child store at) ≡ placed at grown
settled_again {store} g {grown} k at l room = go (says (kind_of r.kind) r.left r.right)
  where
    r : Record
    r = child store at

    line : Line at r
    line = (g.obeys at l).line

    go : Says (kind_of r.kind) r.left r.right → make_again room grown r ≡ placed at grown
    go (gives place e) =
        make_given room grown r.kind r.letter r.left r.right e
        ∙ ap (λ (n : ℕ). placed n grown) (same (sym (make_given room store r.kind r.letter r.left r.right e) ∙ g.settled at l room))
      where
        same : placed place store ≡ placed at store → place ≡ at
        same h = cc
    go (stays s e) =
        make_kept room grown r.kind r.letter r.left r.right e
        ∙ ap (intern room grown)
        (fresh_kept k r.kind r.letter r.left r.right
        (⊎_elim (λ m. omega arith) (λ m. omega arith) (lower_left line))
        (⊎_elim (λ m. omega arith) (λ m. omega arith) (lower_right line))
        ∙ own_record g at l)
        ∙ intern_found room grown r (grows_found k r at (own_found g at l))
    go (merges s e) =
        make_merged room grown r.kind r.letter r.left r.right e
        ∙ both_settled (record { is = s }) g k room at l (eq-eqb r.kind r.kind refl)

-- The pattern of a new record is over the patterns of the records before it.
pub pattern_new : (store : List Record) (r : Record) → numbered (patterns (store ++ r ∷ [])) (length store) ≡ record_pattern (patterns store) r
pattern_new store r =
    rw (patterns_more store r) (get_or_at (patterns store) (record_pattern (patterns store) r) [] _ (length store) (length_patterns store))

-- A good store with one new record is good: a record that obeys the table, is absent, is a set where its kind asks for one, is settled there
-- and is made in its turn.
module _ (store : List Record) (g : Good store) (kind letter left right : ℕ) (line : Line (length store) (new_record store kind letter left right))
    (byte : letter < 256) (absent : find store (new_record store kind letter left right) ≡ None) where
  abbrev new : Record
  new = new_record store kind letter left right

  abbrev grown : List Record
  grown = store ++ new ∷ []

  length_more : length grown ≡ suc (length store)
  length_more = length-append store (new ∷ []) ∙ omega arith

  grows : Grows store grown
  grows = record { more = new ∷ []; is = refl }

  last : child grown (length store) ≡ new
  last = get_or-append_seam store new [] _

  -- What holds of the records there, and of the new one, holds of all.
  all : (P : ℕ → Type 0) → ((at : ℕ) → at < length store → P at) → P (length store) → (at : ℕ) → at < length grown → P at
  all P old new at l = go (dec_lt at (length store))
    where
      go : Dec (at < length store) → P at
      go (yes m) = old at m
      go (no m) = let e : length store ≡ at = omega (arith, length_more) in subst P e new

  new_pattern : numbered (patterns grown) (length store) ≡ record_pattern (patterns store) new
  new_pattern = pattern_new store new

  new_mark : new.mark ≡ bit (nullable (numbered (patterns grown) (length store)))
  new_mark =
      ap bit
      (has_empty_right store (patterns store) (length store) (marked_nullable g) new line
      ∙ ap nullable (sym new_pattern))

  kept : (at : ℕ) → at < length store → child grown at ≡ child store at
  kept at l = child_kept store (new ∷ []) at l

  new_once : (i j : ℕ) → i < length grown → j < length grown
      → child grown i ≡ child grown j → i ≡ j
  new_once i j l m e = go (dec_lt i (length store)) (dec_lt j (length store))
    where
      end : (n : ℕ) → n < length grown → (n < length store → ⊥) → n ≡ length store
      end n a b = omega (arith, length_more)

      go : Dec (i < length store) → Dec (j < length store) → i ≡ j
      go (yes a) (yes b) = g.once i j a b (sym (kept i a) ∙ e ∙ kept j b)
      go (yes a) (no b) =
          let h : j ≡ length store = end j m b in
          absurd (absent_nowhere store new absent i a (sym (kept i a) ∙ e ∙ ap (child grown) h ∙ last))
      go (no a) (yes b) =
          let h : i ≡ length store = end i l a in
          absurd (absent_nowhere store new absent j b (sym (kept j b) ∙ sym e ∙ ap (child grown) h ∙ last))
      go (no a) (no b) = end i l a ∙ sym (end j m b)

  -- A set of the store is one in the grown store.
  set_more : (r : Record) → r.right < length store → IsSet r.kind store r → IsSet r.kind grown r
  set_more r l s =
      record {
        set =
            subst (λ (ms : List ℕ). Set r.kind grown 0 (r.left ∷ ms)) (sym (members_kept r.kind g grows r.right l))
            (set_kept grows s.set);
        more = s.more;
      }

  cut : (at : ℕ) → at ≤ length store → take at grown ≡ take at store
  cut at l = take-append-le at store (new ∷ []) l

  pub good_more : (is_set (kind_of kind) ≡ true → IsSet kind store new)
      → ((room : ℕ) → make_again room grown new ≡ placed (length store) grown)
      → ((room : ℕ) → length store < room → make_again room store new ≡ placed (length store) grown)
      → Good grown
  good_more new-set new-settled new-in-turn =
      record {
        some = omega (arith, length_more);
        nothing = kept 0 (omega arith) ∙ g.nothing;
        empty_word = kept 1 (omega arith) ∙ g.empty_word;
        obeys =
            all (λ (at : ℕ). Obeys at (child grown at))
            (λ at l. rw (kept at l) (g.obeys at l))
            (rw last (record { fourth = refl; line = line }));
        letter =
            all (λ (at : ℕ). (child grown at).letter < 256)
            (λ at l. rw (kept at l) (g.letter at l))
            (rw last byte);
        mark =
            all (λ (at : ℕ). (child grown at).mark ≡ bit (nullable (numbered (patterns grown) at)))
            (λ at l. rw (kept at l, pattern_kept store (new ∷ []) at l) (g.mark at l))
            (rw last new_mark);
        once = new_once;
        sets =
            all (λ (at : ℕ). is_set (kind_of (child grown at).kind) ≡ true → IsSet (child grown at).kind grown (child grown at))
            (λ at l. rw (kept at l) (λ e. set_more (child store at) (right_inside (g.obeys at l).line (omega arith)) (g.sets at l e)))
            (rw last (λ e. set_more new (right_inside line (omega arith)) (new-set e)));
        settled =
            all (λ (at : ℕ). (room : ℕ) → make_again room grown (child grown at) ≡ placed at grown)
            (λ at l. rw (kept at l) (settled_again g grows at l))
            (rw last new-settled);
        in_turn = λ at two l.
            all (λ (at : ℕ). 2 ≤ at → (room : ℕ) → at < room → make_again room (take at grown) (child grown at) ≡ placed at (take (suc at) grown))
            (λ at l. rw (kept at l, cut at (omega arith), cut (suc at) l) (λ two. g.in_turn at two l))
            (λ two room n.
            rw (last, take-append_seam store (new ∷ []), take_all (suc (length store)) grown (omega (arith, length_more))) (new-in-turn room n))
            at l two;
      }
    where
      right_inside : {at : ℕ} {r : Record} → Line at r → at ≤ length store → r.right < length store
      right_inside line l = ⊎_elim (λ m. omega arith) (λ m. let two = g.some in omega arith) (lower_right line)

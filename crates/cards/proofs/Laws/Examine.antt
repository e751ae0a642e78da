-- The examiner is right: what it computes is the standing that document 01 gives the card, and no other standing is the card's.
-- In good standing every mark is the empty-word test of its record's pattern.
use Rattle.std.specs.Prelude.{ℕ, zero, suc, ◌+◌, ◌/◌, ◌%◌, ◌<◌, ◌≤◌, Bool, true, false, not, ◌||◌, List, [], ◌≡◌, refl, eqb, ltb, length, drop}
use Rattle.std.proofs.Math.Decide.{dec_lt}
use Rattle.std.proofs.Common.{arith, sym, ◌∙◌, ap, subst, drop_of_length-le, drop-cons, eqb-true, eq-eqb, ne_eqb, ltb-false, le-ltb}
use Rattle.std.proofs.lemmas.Bool.{false≢true, eqb-false}
use Rattle.language.specs.Language.{Pattern, language}
use Rattle.language.proofs.Laws.Tests.{Tells, and_left, and_right, and_both}
use Rattle.language.specs.Laws.Derivative.{nullable}
use Rattle.language.proofs.Laws.Derivative.{nullable_right}
use Rattle.records.specs.declared.kind.Kind.{Kind}
use Rattle.records.specs.declared.kind.Kind.TheVariants.{Nothing, EmptyWord, Letter, Choice, Sequence, Repeat, Unknown}
use Rattle.records.specs.declared.record.Record.{Record}
use Rattle.refusals.specs.Order.{Standing}
use Rattle.refusals.specs.Order.{Good, Refused}
use Rattle.records.specs.Record.{records, child, no_record}
use Rattle.records.specs.Kind.{kind_of, columns}
use Rattle.cards.specs.Mark.{bit, marked, has_empty}
use Rattle.cards.specs.Examine.{wrong_length, obeys_line, obeys, mark_right, record_standing, records_standing, examined}
use Rattle.refusals.specs.Order.{◌then◌}
use Rattle.cards.specs.Meaning.{operator, record_pattern, patterns, numbered}
use Rattle.cards.specs.Standing.{RightLength, Line, Obeys, TrueMark, one, zero as no-mark, MarkRight, Right, Stands, by_1, by_2, by_3, in_good_standing}
use Rattle.records.specs.Laws.Record.{length_records}
use Rattle.cards.proofs.Laws.Line.{line_right, left_child, right_child}
use Rattle.cards.proofs.Laws.Meaning.{pattern_of_record}

-- Number 1.

right_length : (most size : ℕ) → wrong_length most size ≡ false → RightLength most size
right_length most size e = go (eqb size 0) refl (eqb (size % 8) 0) refl (ltb most (size / 8)) refl e
  where
    go : (a : Bool) → eqb size 0 ≡ a → (b : Bool) → eqb (size % 8) 0 ≡ b → (c : Bool) → ltb most (size / 8) ≡ c → a || not b || c ≡ false → RightLength most size
    go true _ b _ c _ f = absurd (false≢true (sym f))
    go false _ false _ c _ f = absurd (false≢true (sym f))
    go false _ true _ true _ f = absurd (false≢true (sym f))
    go false p true q false r f =
        let n = eqb-false size 0 p in
        let w = eqb-true (size % 8) 0 q in
        let s = ltb-false most (size / 8) r in
        record { some = omega arith; whole = w; not_long = omega arith }

not_right_length : (most size : ℕ) → RightLength most size → wrong_length most size ≡ false
not_right_length most size h =
    let n : size ≡ 0 → ⊥ = λ e. omega arith in
    let s : size / 8 ≤ most = omega arith in
    rw (ne_eqb size 0 n, eq-eqb (size % 8) 0 h.whole, le-ltb most (size / 8) s) refl

-- Number 2.

pub obeys_right : (at : ℕ) (r : Record) → Tells (obeys at r) (Obeys at r)
obeys_right at r =
    let fourth = eqb r.fourth 0 in
    let line = obeys_line (columns (kind_of r.kind)) at r in
    let tells = line_right (columns (kind_of r.kind)) at r in
    record {
      sound = λ t. record { fourth = eqb-true r.fourth 0 (and_left fourth line t); line = tells.sound (and_right fourth line t) };
      complete = λ h. and_both (eq-eqb r.fourth 0 h.fourth) (tells.complete h.line);
    }

-- Number 3.

-- A mark that is the empty-word test's answer tells the truth, and no other does.
pub mark_of_test : (p : Pattern) (m : ℕ) → m ≡ bit (nullable p) → TrueMark m (language p [])
mark_of_test p m e = go (nullable p) refl e
  where
    go : (b : Bool) → nullable p ≡ b → m ≡ bit b → TrueMark m (language p [])
    go true t f = one f ((nullable_right p).sound t)
    go false t f = no-mark f (λ h. false≢true (sym t ∙ (nullable_right p).complete h))

pub test_of_mark : (p : Pattern) (m : ℕ) → TrueMark m (language p []) → m ≡ bit (nullable p)
test_of_mark p m (one e h) = rw ((nullable_right p).complete h) e
test_of_mark p m (no-mark e h) = go (nullable p) refl
  where
    go : (b : Bool) → nullable p ≡ b → m ≡ bit b
    go true t = absurd (h ((nullable_right p).sound t))
    go false t = e

pub marked_bit : (r : Record) (b : Bool) → r.mark ≡ bit b → marked r ≡ b
marked_bit r true e = rw e
marked_bit r false e = rw e

-- What a record's mark has to say is the empty-word test of its operator, where the marks of the children that its kind has say theirs.
has_empty_nullable : (k : Kind) (c : ℕ) (p q : Pattern) {a b : Bool} → ((columns k).left ≡ true → a ≡ nullable p) → ((columns k).right ≡ true → b ≡ nullable q)
    → has_empty k a b ≡ nullable (operator k c p q)
unfolding nullable
has_empty_nullable Nothing c p q e f = refl
has_empty_nullable EmptyWord c p q e f = refl
has_empty_nullable Letter c p q e f = refl
has_empty_nullable Choice c p q e f = rw (e refl, f refl)
has_empty_nullable Sequence c p q e f = rw (e refl, f refl)
has_empty_nullable Repeat c p q e f = refl
has_empty_nullable Unknown c p q e f = refl

-- Where the marks before tell the empty-word test of their patterns, so does the mark that a record has to have.
pub has_empty_right : (rs : List Record) (ps : List Pattern) (at : ℕ) → ((i : ℕ) → i < at → marked (child rs i) ≡ nullable (numbered ps i))
    → (r : Record) → Line at r
    → has_empty (kind_of r.kind) (marked (child rs r.left)) (marked (child rs r.right)) ≡ nullable (record_pattern ps r)
has_empty_right rs ps at before r o =
    has_empty_nullable (kind_of r.kind) r.letter (numbered ps r.left) (numbered ps r.right)
    (λ e. before r.left (left_child o e))
    (λ e. before r.right (right_child o e))

-- In a card in which the records before are right, the mark that a record has to have is the empty-word test of its pattern.
module _ (rs : List Record) (at : ℕ) (l : at < length rs) (before : (i : ℕ) → i < at → Right rs i) where
  child_marked : (i : ℕ) → i < at → marked (child rs i) ≡ nullable (numbered (patterns rs) i)
  child_marked i m = marked_bit (child rs i) _ (test_of_mark (numbered (patterns rs) i) (child rs i).mark (before i m).mark)

  mark_right_tells : Line at (child rs at) → Tells (mark_right rs (child rs at)) (MarkRight rs at)
  mark_right_tells o =
      let e = has_empty_right rs (patterns rs) at child_marked (child rs at) o ∙ ap nullable (sym (pattern_of_record rs at l o)) in
      record {
        sound = λ t. mark_of_test _ _ (eqb-true _ _ t ∙ ap bit e);
        complete = λ h. eq-eqb _ _ (test_of_mark _ _ h ∙ ap bit (sym e));
      }

-- Record by record.

-- What the definition says of the records from `at` on.
unfoldable pub standing_from : List ℕ → ℕ → Standing
unfolding records_standing
standing_from card at = records_standing (records card) at (drop at (records card))

pub standing_step : (card : List ℕ) (at : ℕ) → at < length card / 8
    → standing_from card at ≡ record_standing (records card) at (child (records card) at) then standing_from card (suc at)
unfolding standing_from records_standing
standing_step card at l =
    let within : at < length (records card) = omega (arith, length_records card) in
    rw (drop-cons (records card) at no_record within)

pub standing_end : (card : List ℕ) (at : ℕ) → length card / 8 ≤ at → standing_from card at ≡ Good
unfolding standing_from records_standing
standing_end card at l = rw (drop_of_length-le (records card) {i = at} (omega (arith, length_records card)))

pub standing_start : (most : ℕ) (card : List ℕ) → wrong_length most (length card) ≡ false → examined most card ≡ standing_from card 0
unfolding examined standing_from
standing_start most card e = rw e

pub standing_1 : (most : ℕ) (card : List ℕ) → wrong_length most (length card) ≡ true → examined most card ≡ Refused 1
unfolding examined
standing_1 most card e = rw e

-- What the two tests of a record say.
data Found (rs : List Record) (at : ℕ) : Standing → Type 0 where
  breaks : (Obeys at (child rs at) → ⊥) → Found rs at (Refused 2)
  wrong_mark : Obeys at (child rs at) → (MarkRight rs at → ⊥) → Found rs at (Refused 3)
  is_right : Right rs at → Found rs at Good

found : (rs : List Record) (at : ℕ) → at < length rs → ((i : ℕ) → i < at → Right rs i) → Found rs at (record_standing rs at (child rs at))
found rs at l before = go (obeys at (child rs at)) refl (mark_right rs (child rs at)) refl
  where
    o : Tells (obeys at (child rs at)) (Obeys at (child rs at))
    o = obeys_right at (child rs at)

    go : (a : Bool) → obeys at (child rs at) ≡ a → (b : Bool) → mark_right rs (child rs at) ≡ b → Found rs at (record_standing rs at (child rs at))
    go false e b f = rw e (breaks (λ h. false≢true (sym e ∙ o.complete h)))
    go true e false f =
        rw (e, f)
        (wrong_mark (o.sound e)
        (λ h. false≢true (sym f ∙ (mark_right_tells rs at l before (o.sound e).line).complete h)))
    go true e true f =
        rw (e, f)
        (is_right (record { obeys = o.sound e; mark = (mark_right_tells rs at l before (o.sound e).line).sound f }))

refused_not_good : {number : ℕ} → Refused number ≡ Good → ⊥
refused_not_good e = let z : ◌≡◌ {A = ℕ} 0 1 = cc in omega arith

-- A record is found in one way.
found_one : {rs : List Record} {at : ℕ} {s t : Standing} → Found rs at s → Found rs at t → s ≡ t
found_one (breaks o) (breaks _) = refl
found_one (breaks o) (wrong_mark p _) = absurd (o p)
found_one (breaks o) (is_right r) = absurd (o r.obeys)
found_one (wrong_mark p _) (breaks o) = absurd (o p)
found_one (wrong_mark _ m) (wrong_mark _ _) = refl
found_one (wrong_mark _ m) (is_right r) = absurd (m r.mark)
found_one (is_right r) (breaks o) = absurd (o r.obeys)
found_one (is_right r) (wrong_mark _ m) = absurd (m r.mark)
found_one (is_right r) (is_right _) = refl

one_more_right : {P : ℕ → Type 0} (at : ℕ) → ((i : ℕ) → i < at → P i) → P at → (i : ℕ) → i < suc at → P i
one_more_right {P} at before r i l = go (dec_lt i at)
  where
    go : Dec (i < at) → P i
    go (yes m) = before i m
    go (no m) = let e : at ≡ i = omega arith in subst P e r

module _ (most : ℕ) (card : List ℕ) where
  settled : RightLength most (length card) → (at : ℕ) → at < length card / 8 → ((i : ℕ) → i < at → Right (records card) i)
      → {s : Standing} → Found (records card) at s
      → (Right (records card) at → Stands most card (standing_from card (suc at)))
      → Stands most card (s then standing_from card (suc at))
  settled h at l before (breaks o) rest = by_2 h at l before o
  settled h at l before (wrong_mark o m) rest = by_3 h at l before o m
  settled h at l before (is_right r) rest = rest r

  from_on : RightLength most (length card) → (left at : ℕ) → at + left ≡ length card / 8 → ((i : ℕ) → i < at → Right (records card) i)
      → Stands most card (standing_from card at)
  from_on h zero at e before = rw (standing_end card at (omega arith)) (in_good_standing h (λ i l. before i (omega arith)))
  from_on h (suc left) at e before =
      let l : at < length card / 8 = omega arith in
      rw (standing_step card at l)
      (settled h at l before
      (found (records card) at (omega (arith, length_records card)) before)
      (λ r. from_on h left (suc at) (omega arith) (one_more_right at before r)))

  -- What the definition computes is the standing that document 01 gives the card ..
  pub examined_right : Stands most card (examined most card)
  examined_right = first (wrong_length most (length card)) refl
    where
      first : (b : Bool) → wrong_length most (length card) ≡ b → Stands most card (examined most card)
      first true e = rw (standing_1 most card e) (by_1 (λ h. false≢true (sym (not_right_length most (length card) h) ∙ e)))
      first false e =
          rw (standing_start most card e)
          (from_on (right_length most (length card) e) (length card / 8) 0 (omega arith) (λ i l. absurd (omega arith)))

  passed : (at : ℕ) → at ≤ length card / 8 → ((i : ℕ) → i < at → Right (records card) i) → standing_from card 0 ≡ standing_from card at
  passed zero l before = refl
  passed (suc at) l before =
      let earlier : (i : ℕ) → i < at → Right (records card) i = λ i m. before i (omega arith) in
      let here = found_one (is_right (before at (omega arith))) (found (records card) at (omega (arith, length_records card)) earlier) in
      passed at (omega arith) earlier
      ∙ standing_step card at (omega arith)
      ∙ ap (λ (s : Standing). s then standing_from card (suc at)) (sym here)

  stopped : (at : ℕ) → at < length card / 8 → ((i : ℕ) → i < at → Right (records card) i) → {number : ℕ} → Found (records card) at (Refused number)
      → RightLength most (length card) → Refused number ≡ examined most card
  stopped at l before f h =
      let here = found_one f (found (records card) at (omega (arith, length_records card)) before) in
      sym
      (standing_start most card (not_right_length most (length card) h)
      ∙ passed at (omega arith) before
      ∙ standing_step card at l
      ∙ ap (λ (s : Standing). s then standing_from card (suc at)) (sym here))

  -- .. and no other standing is the card's.
  pub examined_only : {s : Standing} → Stands most card s → s ≡ examined most card
  examined_only (by_1 n) = sym (standing_1 most card (wrong (wrong_length most (length card)) refl))
    where
      wrong : (b : Bool) → wrong_length most (length card) ≡ b → wrong_length most (length card) ≡ true
      wrong true e = e
      wrong false e = absurd (n (right_length most (length card) e))
  examined_only (by_2 h at l before o) = stopped at l before (breaks o) h
  examined_only (by_3 h at l before o m) = stopped at l before (wrong_mark o m) h
  examined_only (in_good_standing h all) =
      sym
      (standing_start most card (not_right_length most (length card) h)
      ∙ passed (length card / 8) (omega arith) all
      ∙ standing_end card (length card / 8) (omega arith))

  -- In good standing the length is right ..
  pub good_length : examined most card ≡ Good → RightLength most (length card)
  good_length e = go e examined_right
    where
      go : {s : Standing} → s ≡ Good → Stands most card s → RightLength most (length card)
      go e (by_1 n) = absurd (refused_not_good e)
      go e (by_2 h _ _ _ _) = h
      go e (by_3 h _ _ _ _ _) = h
      go e (in_good_standing h _) = h

  -- .. every record is right ..
  pub good_right : examined most card ≡ Good → (at : ℕ) → at < length card / 8 → Right (records card) at
  good_right e = go e examined_right
    where
      go : {s : Standing} → s ≡ Good → Stands most card s → (at : ℕ) → at < length card / 8 → Right (records card) at
      go e (by_1 n) = λ at l. absurd (refused_not_good e)
      go e (by_2 h at l before o) = λ at l. absurd (refused_not_good e)
      go e (by_3 h at l before o m) = λ at l. absurd (refused_not_good e)
      go e (in_good_standing h all) = all

  -- .. and every mark is the empty-word test of the record's pattern.
  pub good_mark : examined most card ≡ Good → (at : ℕ) → at < length card / 8
      → (child (records card) at).mark ≡ bit (nullable (numbered (patterns (records card)) at))
  good_mark e at l = test_of_mark _ _ (good_right e at l).mark

-- A card that is refused is refused by a number from 1 to 3.
pub card_number : (most : ℕ) (card : List ℕ) (number : ℕ) → examined most card ≡ Refused number → number ≤ 3
card_number most card number e = go e (examined_right most card)
  where
    go : {s : Standing} → s ≡ Refused number → Stands most card s → number ≤ 3
    go e (by_1 _) = let n : 1 ≡ number = cc in omega arith
    go e (by_2 _ _ _ _ _) = let n : 2 ≡ number = cc in omega arith
    go e (by_3 _ _ _ _ _ _) = let n : 3 ≡ number = cc in omega arith
    go e (in_good_standing _ _) = let z : ◌≡◌ {A = ℕ} 0 1 = cc in absurd (omega arith)

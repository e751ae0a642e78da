-- The patterns of a list of records: each stays as it is when records are added at the end, and is its record's operator over
-- the patterns of its children, where those stand lower. A card means the pattern of its last record.
use Rattle.std.specs.Prelude.{ℕ, ◌-◌, ◌<◌, true, List, [], ◌∷◌, ◌++◌, ◌≡◌, refl, length, take}
use Rattle.std.proofs.Common.{arith, ◌∙◌, ap, ap₂, length-append}
use Rattle.std.proofs.lemmas.List.{get_or_at}
use Rattle.language.specs.Language.{Pattern, nothing as no-pattern}
use Rattle.records.specs.declared.kind.Kind.{Kind}
use Rattle.records.specs.declared.kind.Kind.TheVariants.{Nothing, EmptyWord, Letter, Choice, Sequence, Repeat, Unknown}
use Rattle.records.specs.declared.record.Record.{Record}
use Rattle.records.specs.Record.{records, child}
use Rattle.records.specs.Kind.{kind_of, columns}
use Rattle.cards.specs.Meaning.{operator, numbered, record_pattern, patterns, card_pattern}
use Rattle.cards.specs.Standing.{Line}
use Rattle.cards.proofs.Laws.Line.{left_child, right_child}
use Rattle.cards.proofs.Laws.InOrder.{in_order_more, length_in_order, value_kept, value_at, before_kept}

-- One record more is one pattern more.
pub patterns_more : (rs : List Record) (r : Record) → patterns (rs ++ r ∷ []) ≡ patterns rs ++ record_pattern (patterns rs) r ∷ []
patterns_more = in_order_more record_pattern

pub length_patterns : (rs : List Record) → length (patterns rs) ≡ length rs
length_patterns = length_in_order record_pattern

-- "the last is the root": whatever its records before the last are, a card means the pattern of the last.
pub last_is_root : (card : List ℕ) (rs : List Record) (r : Record) → records card ≡ rs ++ r ∷ [] → card_pattern card ≡ record_pattern (patterns rs) r
unfolding card_pattern
last_is_root card rs r e =
    rw (e, patterns_more rs r)
    (get_or_at (patterns rs) (record_pattern (patterns rs) r) [] no-pattern (length (rs ++ r ∷ []) - 1) (omega (arith, length_patterns rs, length-append rs (r ∷ []))))

-- A pattern stays as it is when records are added.
pub pattern_kept : (rs more : List Record) (at : ℕ) → at < length rs → numbered (patterns (rs ++ more)) at ≡ numbered (patterns rs) at
pattern_kept = value_kept record_pattern no-pattern

-- An operator goes by the children that its kind has, and by no other.
operator_same : (k : Kind) (c : ℕ) {p p' q q' : Pattern} → ((columns k).left ≡ true → p ≡ p') → ((columns k).right ≡ true → q ≡ q')
    → operator k c p q ≡ operator k c p' q'
operator_same Nothing c e f = refl
operator_same EmptyWord c e f = refl
operator_same Letter c e f = refl
operator_same Choice c e f = ap₂ (operator Choice c) (e refl) (f refl)
operator_same Sequence c e f = ap₂ (operator Sequence c) (e refl) (f refl)
operator_same Repeat c {q = q} e f = ap (λ (p : Pattern). operator Repeat c p q) (e refl)
operator_same Unknown c e f = refl

-- A record's pattern is its operator over its children's patterns, where the record obeys the kind table.
pub pattern_of_record : (rs : List Record) (at : ℕ) → at < length rs → Line at (child rs at)
    → numbered (patterns rs) at ≡ record_pattern (patterns rs) (child rs at)
pattern_of_record rs at l o =
    value_at record_pattern no-pattern rs at l
    ∙ operator_same (kind_of (child rs at).kind) (child rs at).letter
    (λ e. lower (child rs at).left (left_child o e))
    (λ e. lower (child rs at).right (right_child o e))
  where
    lower : (i : ℕ) → i < at → numbered (patterns (take at rs)) i ≡ numbered (patterns rs) i
    lower i m = before_kept record_pattern no-pattern rs at i l m

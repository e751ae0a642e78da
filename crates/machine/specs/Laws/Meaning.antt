-- What a table means: where every listed pair agrees in marks and leads by each letter to a listed pair, the languages of each pair are equal over
-- those letters. So are the opening pair's, in a good table; and the table that stands where the search ends with "same" is a good one.
use Rattle.std.specs.Prelude.{ℕ, ◌<◌, List, [], length}
use Rattle.std.proofs.Common.{sym, ◌∙◌}
use Rattle.language.specs.Word.{IsByte, Listed}
use Rattle.language.specs.Language.{Language, EqualOver}
use Rattle.language.proofs.Laws.Equality.{equal_sym, equal_trans, equal_narrow}
use Rattle.language.proofs.Laws.Tables.{Closed, closed_equal}
use Rattle.machine.specs.Laws.Machine.{Machine, Sense, Lawful}
use Rattle.machine.specs.Laws.Search.{row_at, word_to}
use Rattle.machine.specs.Laws.Check.{Inside, RightPair, GoodTable}
use Rattle.machine.specs.Laws.Frontier.{lower_pair, Frontier}

-- A line of the list.
record LineOf {Row : Type 0} (list : List Row) : Type 0 where
  number : ℕ
  listed : number < length list

-- The table of the search where every pair is taken.
module _ {State Has Row : Type 0} {M : Machine State Has Row} {S : Sense State Has} {letters : List ℕ} {A B : Language} {x₀ y₀ : State} {h : Has}
    {table : List Row} (f : Frontier M S letters A B x₀ y₀ h table (length table) []) where
  pub frontier_inside : Inside M S h table
  frontier_inside n l = ((f.entry n l).left_stands, (f.entry n l).right_stands)

  -- Each of its pairs is right.
  pub frontier_right : (n : ℕ) → n < length table → RightPair M S letters h table (M.left (row_at M table n)) (M.right (row_at M table n))
  frontier_right n l =
      record {
        agree = (f.entry n l).agree;
        reaches = λ c m.
            let next = f.leads n c l m (lower_pair l) in
            record { to = next.to; listed = next.inside; left = next.left; right = next.right };
      }

  -- So it is a good table.
  pub same_good : GoodTable M S letters h table x₀ y₀
  same_good = record { opening = record { at = 0; inside = f.some; states = f.opening }; right = frontier_right }

module _ {State Has Row : Type 0} {M : Machine State Has Row} {S : Sense State Has} (laws : Lawful M S)
    {letters : List ℕ} (bytes : (c : ℕ) → Listed letters c → IsByte c) {h : Has} (ready : S.Ready h) where
  module _ {list : List Row} (inside : Inside M S h list)
      (right : (n : ℕ) → n < length list → RightPair M S letters h list (M.left (row_at M list n)) (M.right (row_at M list n))) where
    -- Every pair agrees about the empty word and leads to a pair by each letter.
    closed : Closed (Listed letters) (LineOf list) (λ i. S.accepts h (M.left (row_at M list i.number))) (λ i. S.accepts h (M.right (row_at M list i.number)))
    closed =
        record {
          agree_to = λ i m.
              let b = inside i.number i.listed in
              (laws.mark_tells ready _ b.1).sound (sym (right i.number i.listed).agree ∙ (laws.mark_tells ready _ b.0).complete m);
          agree_from = λ i m.
              let b = inside i.number i.listed in
              (laws.mark_tells ready _ b.0).sound ((right i.number i.listed).agree ∙ (laws.mark_tells ready _ b.1).complete m);
          leads = λ i c m.
              let b = inside i.number i.listed in
              let d = (right i.number i.listed).reaches c m in
              record {
                next = record { number = d.to; listed = d.listed };
                left_next = equal_narrow bytes (laws.leads_means ready c (bytes c m) _ b.0 _ d.left);
                right_next = equal_narrow bytes (laws.leads_means ready c (bytes c m) _ b.1 _ d.right);
              };
        }

    -- The languages of each pair are equal over the letters.
    pub rows_over : (n : ℕ) → n < length list → EqualOver (Listed letters) (S.accepts h (M.left (row_at M list n))) (S.accepts h (M.right (row_at M list n)))
    rows_over n l = closed_equal closed (record { number = n; listed = l })

  -- A good table's languages are equal over the letters.
  pub good_over : {list : List Row} → Inside M S h list → {x y : State} → GoodTable M S letters h list x y
      → EqualOver (Listed letters) (S.accepts h x) (S.accepts h y)
  good_over inside t =
      let o = t.opening in
      rw (← o.states.left, ← o.states.right) (rows_over inside t.right o.at o.inside)

  -- "Same" over the tried letters.
  pub same_over : {A B : Language} {x₀ y₀ : State} {table : List Row} → Frontier M S letters A B x₀ y₀ h table (length table) [] → EqualOver (Listed letters) A B
  unfolding word_to
  same_over f =
      let e = f.entry 0 f.some in
      equal_trans (equal_narrow bytes (equal_sym e.left_means))
      (equal_trans (rows_over (frontier_inside f) (frontier_right f) 0 f.some) (equal_narrow bytes e.right_means))

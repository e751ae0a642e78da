-- The proof principle behind tables: document 004, lemma 2.8. Pairs of languages that agree about the empty word and lead to
-- pairs again by every letter have equal languages.
-- The pairs are named by a type I, of a table's lines for instance, each with its left and its right language. The letters are
-- any that P names, and the languages are then equal over those letters; with every byte for P they are equal.
-- How words over the tried letters speak for all words is another law, and stands in StandIn.
use Rattle.std.specs.Prelude.{ℕ, [], ◌∷◌}
use Rattle.language.specs.Word.{Word, Over, none, one}
use Rattle.language.specs.Language.{Language, EqualOver}
use Rattle.language.proofs.Laws.Quotient.{Quotient}

-- The pair i leads to a pair by the letter c: its languages are the quotients by c of those of i.
pub record Leads (P : ℕ → Type 0) (I : Type 0) (left right : I → Language) (i : I) (c : ℕ) : Type 0 where
  pub next : I
  pub left_next : EqualOver P (left next) (Quotient c (left i))
  pub right_next : EqualOver P (right next) (Quotient c (right i))

-- Every pair agrees about the empty word, and leads to a pair by each letter.
pub record Closed (P : ℕ → Type 0) (I : Type 0) (left right : I → Language) : Type 0 where
  pub agree_to : (i : I) → left i [] → right i []
  pub agree_from : (i : I) → right i [] → left i []
  pub leads : (i : I) (c : ℕ) → P c → Leads P I left right i c

module _ {P : ℕ → Type 0} {I : Type 0} where
  -- The table with its sides swapped.
  turned : {left right : I → Language} → Closed P I left right → Closed P I right left
  turned t =
      record {
        agree_to = t.agree_from;
        agree_from = t.agree_to;
        leads = λ i c b.
            let n = t.leads i c b in
            record { next = n.next; left_next = n.right_next; right_next = n.left_next };
      }

  one_way : {left right : I → Language} → Closed P I left right → (i : I) (w : Word) → Over P w → left i w → right i w
  one_way t i [] none h = t.agree_to i h
  one_way t i (c ∷ w) (one b o) h =
      let n = t.leads i c b in
      n.right_next.to w o (one_way t n.next w o (n.left_next.from w o h))

  -- Lemma 2.8.
  pub closed_equal : {left right : I → Language} → Closed P I left right → (i : I) → EqualOver P (left i) (right i)
  closed_equal t i = record { to = one_way t i; from = one_way (turned t) i }

-- The marks of the tokens, one after the other: how far the secret spans reach that begin before a token, and what stands for the tokens below it.
use Prim.Native.Nat.{ℕ, zero, suc, ◌+◌, ◌≤◌, ◌<◌}
use mathlib.Core.Path.{◌≡◌, refl, sym, ap, ap₂, ◌∙◌}
use mathlib.Core.Logic.{◌↔◌, ◌⊎◌, inl, inr}
use mathlib.Core.List.{List}
use native.Mathlib.Numerals.{add-one}
use native.Mathlib.Decide.{ℕ_discrete}
use native.Mathlib.Omega.{arith}
use borrow.Author.Count.{below_more}
use lib.ListN.{length, get_or, set, length-set}
use lib.Seq.{get_or-set_same, get_or-set_other}
use Rattle.derivation.specs.Grammar.{Grammar, Proper}
use Rattle.derivation.specs.Fact.{Fact}
use Rattle.derivation.specs.Secret.{Secret, by_class, by_fact}
use Rattle.derivation.proofs.Totals.{total_same}
use Rattle.derivation.specs.computed.FactCount.{total}
use Rattle.derivation.proofs.Bound.{tree_category}
use Rattle.marks.specs.Marks.{MarkIs, marked, unmarked, MarksAre}
use Rattle.marks.specs.inner.Reach.{ChartHolds, ReachIs}
use Rattle.marks.proofs.ReachLaws.{BeforeEnd}

total_next : (f : ℕ → ℕ) (n : ℕ) → total f (n + 1) ≡ total f n + f n
unfolding total
total_next f n = ap (total f) (add-one n)

-- a secret span that begins before `token` ends after t
pub record SpanPast (G : Grammar) (line : List ℕ) (token t : ℕ) : Type 0 where
  pub category : ℕ
  pub start : ℕ
  pub end : ℕ
  pub flag : get_or G.categories category 0 ≡ 1
  pub fact : Fact G line category start end
  pub early : start < token
  pub past : t < end

-- t is before `reach` exactly where such a span ends after t
abbrev pub SpansReach : Grammar → List ℕ → ℕ → ℕ → Type 0
SpansReach G line token reach = (t : ℕ) → (t < reach) ↔ SpanPast G line token t

module _ {G : Grammar} {line : List ℕ} where
  -- the same span, before another token
  span_before : {token t : ℕ} (s : SpanPast G line token t) (later : ℕ) → s.start < later → SpanPast G line later t
  span_before s later l =
      record { category = s.category; start = s.start; end = s.end; flag = s.flag; fact = s.fact; early = l; past = s.past }

  pub spans_none : SpansReach G line 0 0
  spans_none t = (λ h. absurd (omega arith), λ s. absurd (omega (arith, s.early)))

  -- with the spans that begin at the token
  module _ (words : List ℕ) (token reach reach' : ℕ) (l : token < length line) (proper : Proper G) (chart : ChartHolds G line words)
      (old : SpansReach G line token reach) (new : ReachIs G words (length line + 1) token reach reach') where
    abbrev Here : ℕ → Type 0
    Here t = BeforeEnd G words (length line + 1) token (length G.categories) t

    to : (t : ℕ) → (t < reach) ⊎ Here t → SpanPast G line (token + 1) t
    to t (inl h) = let s = (old t).0 h in span_before s (token + 1) (omega (arith, s.early))
    to t (inr b) =
        let f = (chart.word b.0 token b.2 (omega arith) b.1).0 b.4 in
        record { category = b.0; start = token; end = b.1; flag = b.3; fact = f; early = omega arith; past = b.5 }

    from : (t : ℕ) (s : SpanPast G line (token + 1) t) → Dec (s.start ≡ token) → (t < reach) ⊎ Here t
    from t s (yes e) =
        let a = tree_category proper s.fact in
        inr (s.category, s.end, a, s.flag, (chart.word s.category token a (omega arith) s.end).1 (rw e at s.fact), s.past)
    from t s (no n) = inl ((old t).1 (span_before s token (omega (arith, s.early))))

    pub spans_more : SpansReach G line (token + 1) reach'
    spans_more t = (λ h. to t ((new t).0 h), λ s. (new t).1 (from t s (ℕ_discrete s.start token)))

  -- the mark of a token that is reached, and of one that is not
  module _ (token reach : ℕ) (spans : SpansReach G line (token + 1) reach) where
    pub mark_reached : token < reach → MarkIs G line token 1
    mark_reached h = let s = (spans token).0 h in marked (by_fact s.flag s.fact (omega (arith, s.early)) s.past)

    pub mark_flag : (flag : ℕ) → token < length line → reach ≤ token → flag ≡ get_or G.classes (get_or line token 0) 0 → flag ≤ 1 → MarkIs G line token flag
    mark_flag zero l h e k = unmarked plain
      where
        plain : Secret G line token → ⊥
        plain (by_class x y) = omega (arith, e)
        plain (by_fact {A} {i} {j} flag fact x y) =
            let r = (spans token).1 (record { category = A; start = i; end = j; flag = flag; fact = fact; early = omega arith; past = y }) in omega arith
    mark_flag (suc zero) l h e k = marked (by_class l (sym e))
    mark_flag (suc (suc flag)) l h e k = absurd (omega arith)

-- a mark is 0 or 1
pub mark_le : {G : Grammar} {line : List ℕ} {t mark : ℕ} → MarkIs G line t mark → mark ≤ 1
mark_le (marked s) = omega arith
mark_le (unmarked n) = omega arith

-- the marks of the tokens below `token` stand, the other bytes are as they were, and `secret` counts the ones
pub record MarkedBelow (G : Grammar) (line marks : List ℕ) (token : ℕ) (marks' : List ℕ) (secret : ℕ) : Type 0 where
  pub long : length marks' ≡ length marks
  pub mark : (t : ℕ) → t < token → MarkIs G line t (get_or marks' t 0)
  pub past : (q : ℕ) → token ≤ q → get_or marks' q 0 ≡ get_or marks q 0
  pub ones : secret ≡ total (λ t. get_or marks' t 0) token
  pub few : secret ≤ token

module _ {G : Grammar} {line marks : List ℕ} where
  pub marked_none : MarkedBelow G line marks 0 marks 0
  unfolding total
  marked_none = record { long = refl; mark = λ t h. absurd (omega arith); past = λ q h. refl; ones = refl; few = omega arith }

  pub marked_more :
      (token mark secret : ℕ) (marks' : List ℕ) → token < length marks' → MarkIs G line token mark →
      MarkedBelow G line marks token marks' secret → MarkedBelow G line marks (token + 1) (set marks' token mark) (secret + mark)
  marked_more token mark secret marks' l m x = record {
    long = length-set marks' token mark ∙ x.long;
    mark = below_more _ token (λ t h. rw (other t (λ e. omega arith)) (x.mark t h)) (rw same m);
    past = λ q h. other q (λ e. omega arith) ∙ x.past q (omega arith);
    ones =
        ap₂ ◌+◌ (x.ones ∙ total_same _ _ token (λ t h. sym (other t (λ e. omega arith)))) (sym same)
        ∙ sym (total_next (λ t. get_or (set marks' token mark) t 0) token);
    few = omega (arith, x.few, mark_le m);
  }
    where
      same : get_or (set marks' token mark) token 0 ≡ mark
      same = get_or-set_same marks' token mark 0 l

      other : (t : ℕ) → (t ≡ token → ⊥) → get_or (set marks' token mark) t 0 ≡ get_or marks' t 0
      other t n = get_or-set_other marks' token t mark 0 n

  pub marked_all : (token secret : ℕ) (marks' : List ℕ) → token ≡ length line → MarkedBelow G line marks token marks' secret → MarksAre G line marks marks' secret
  marked_all token secret marks' e x = let y = rw e at x in record { long = y.long; mark = y.mark; past = y.past; ones = y.ones }

-- Rules applied one after the other: what the rows of `next` have gained by the first k.
use Prim.Native.Nat.{ℕ, ◌+◌, ◌*◌, ◌≤◌, ◌<◌}
use mathlib.Core.Path.{◌≡◌, refl, sym, ◌∙◌, ap}
use mathlib.Core.Logic.{◌↔◌, ◌⊎◌, inl, inr}
use mathlib.Core.List.{List}
use native.Mathlib.Nat.{le_trans}
use native.Mathlib.Decide.{dec_lt, ℕ_discrete}
use native.Mathlib.Omega.{arith}
use lib.Bits.{bit_and}
use lib.ListN.{length, get_or}
use Rattle.positions.specs.Member.{Member}
use Rattle.derivation.specs.Grammar.{Rule, Grammar, IsRule}
use Rattle.derivation.specs.inner.Within.{ChildrenWithin}
use Rattle.grammar.specs.declared.reading.Sections.{Sections}
use Rattle.grammar.specs.Value.{Sectioned, standing, grammar_of, Found}
use Rattle.grammar.specs.Limits.{RuleWithin}
use Rattle.grammar.proofs.Encoded.{rule_count_lem, category_count_lem, sections_within}
use Rattle.filling.specs.inner.Places.{Places}
use Rattle.filling.specs.inner.Holds.{HoldsAfter}
use Rattle.filling.specs.inner.Reach.{Room, ChartOf, Applied}
use Rattle.filling.specs.inner.Round.{Run, ByRule, RulesApplied}
use Rattle.filling.proofs.RowLaws.{row_before_lem}

-- a rule of the first k that is run derives i..j
abbrev pub ByFirst : Grammar → List ℕ → ℕ → List ℕ → ℕ → ℕ → ℕ → ℕ → ℕ → Type 0
ByFirst G line h masks changed k A i j = (b : ByRule G line h masks changed A i j) × (b.p < k)

pub record RulesBelow (G : Grammar) (masks : List ℕ) (changed : ℕ) (words places : List ℕ) (width k : ℕ) (old new : List ℕ) : Type 0 where
  pub long : length new ≡ length old
  pub gains :
      (line : List ℕ) (h : ℕ) → width ≡ length line + 1 → Places line places → HoldsAfter G line h words →
      (A i : ℕ) → A < length G.categories → i ≤ length line → (j : ℕ) →
      Member (get_or new (A * width + i) 0) j ↔ (Member (get_or old (A * width + i) 0) j ⊎ ByFirst G line h masks changed k A i j)

module _ {G : Grammar} {masks : List ℕ} {changed : ℕ} {words places : List ℕ} {width : ℕ} {old : List ℕ} where
  pub rules_none : RulesBelow G masks changed words places width 0 old old
  rules_none = record { long = refl; gains = λ line h w pl ho A i a l j. (λ m. inl m, kept line h A i j) }
    where
      kept : (line : List ℕ) (h A i j : ℕ) → Member (get_or old (A * width + i) 0) j ⊎ ByFirst G line h masks changed 0 A i j → Member (get_or old (A * width + i) 0) j
      kept line h A i j (inl m) = m
      kept line h A i j (inr b) = absurd (omega (arith, b.1))

  -- rule k is left out
  pub rules_skip : (k : ℕ) (new : List ℕ) → bit_and (get_or masks k 0) changed ≡ 0 → RulesBelow G masks changed words places width k old new → RulesBelow G masks changed words places width (k + 1) old new
  rules_skip k new idle x = record { long = x.long; gains = λ line h w pl ho A i a l j. (λ m. more line h A i j ((x.gains line h w pl ho A i a l j).0 m), λ m. (x.gains line h w pl ho A i a l j).1 (fewer line h A i j m)) }
    where
      more : (line : List ℕ) (h A i j : ℕ) → Member (get_or old (A * width + i) 0) j ⊎ ByFirst G line h masks changed k A i j → Member (get_or old (A * width + i) 0) j ⊎ ByFirst G line h masks changed (k + 1) A i j
      more line h A i j (inl m) = inl m
      more line h A i j (inr b) = inr (b.0, omega (arith, b.1))

      fewer : (line : List ℕ) (h A i j : ℕ) → Member (get_or old (A * width + i) 0) j ⊎ ByFirst G line h masks changed (k + 1) A i j → Member (get_or old (A * width + i) 0) j ⊎ ByFirst G line h masks changed k A i j
      fewer line h A i j (inl m) = inl m
      fewer line h A i j (inr b) = inr (b.0, go (dec_lt b.0.p k))
        where
          go : Dec (b.0.p < k) → b.0.p < k
          go (yes l) = l
          go (no l) =
              let e : b.0.p ≡ k = omega (arith, b.1) in
              absurd (b.0.run (rw e idle))

  -- rule k, left → symbols, is applied
  module _ (k left : ℕ) (symbols new new' : List ℕ) (r : IsRule G k left symbols) (run : Run (get_or masks k 0) changed)
      (chart : (line : List ℕ) (h : ℕ) → width ≡ length line + 1 → Places line places → HoldsAfter G line h words → ChartOf G line h symbols words places width)
      (applied : Applied symbols words places (left * width) width new new') (x : RulesBelow G masks changed words places width k old new) where
    module _ (line : List ℕ) (h : ℕ) (w : width ≡ length line + 1) (pl : Places line places) (ho : HoldsAfter G line h words) (A i : ℕ) (a : A < length G.categories) (l : i ≤ length line) (j : ℕ) where
      abbrev Before : Type 0
      Before = Member (get_or old (A * width + i) 0) j ⊎ ByFirst G line h masks changed k A i j

      abbrev After : Type 0
      After = Member (get_or old (A * width + i) 0) j ⊎ ByFirst G line h masks changed (k + 1) A i j

      more : Before → After
      more (inl m) = inl m
      more (inr b) = inr (b.0, omega (arith, b.1))

      -- another row
      apart : (A ≡ left → ⊥) → get_or new' (A * width + i) 0 ≡ get_or new (A * width + i) 0
      apart n = applied.miss (A * width + i) (go (dec_lt A left))
        where
          go : Dec (A < left) → (A * width + i < left * width) ⊎ (left * width + width ≤ A * width + i)
          go (yes q) = inl (omega (arith, row_before_lem A left width q))
          go (no q) = inr (omega (arith, row_before_lem left A width (omega arith)))

      to : Dec (A ≡ left) → Member (get_or new' (A * width + i) 0) j → After
      to (yes e) m = go ((applied.hit G line h (chart line h w pl ho) i (omega arith) j).0 (rw e at m))
        where
          go : Member (get_or new (left * width + i) 0) j ⊎ ChildrenWithin G line h symbols i j → After
          go (inl y) = more ((x.gains line h w pl ho A i a l j).0 (rw e y))
          go (inr y) = inr (record { p = k; symbols = symbols; is_rule = rw e r; run = run; derives = y }, omega arith)
      to (no n) m = more ((x.gains line h w pl ho A i a l j).0 (rw (apart n) at m))

      -- what was there stays
      stays : Dec (A ≡ left) → Member (get_or new (A * width + i) 0) j → Member (get_or new' (A * width + i) 0) j
      stays (yes e) m = rw e ((applied.hit G line h (chart line h w pl ho) i (omega arith) j).1 (inl (rw e at m)))
      stays (no n) m = rw (apart n) m

      from : Dec (A ≡ left) → After → Member (get_or new' (A * width + i) 0) j
      from d (inl m) = stays d ((x.gains line h w pl ho A i a l j).1 (inl m))
      from d (inr b) = go (dec_lt b.0.p k)
        where
          go : Dec (b.0.p < k) → Member (get_or new' (A * width + i) 0) j
          go (yes q) = stays d ((x.gains line h w pl ho A i a l j).1 (inr (b.0, q)))
          go (no q) =
              let e : b.0.p ≡ k = omega (arith, b.1) in
              let s = rw e at b.0.is_rule in
              let same : b.0.symbols ≡ symbols = sym s.to ∙ r.to in
              let row : A ≡ left = sym s.from ∙ r.from in
              rw row ((applied.hit G line h (chart line h w pl ho) i (omega arith) j).1 (inr (rw same at b.0.derives)))

    pub rules_run : RulesBelow G masks changed words places width (k + 1) old new'
    rules_run = record {
      long = applied.long ∙ x.long;
      gains = λ line h w pl ho A i a l j. (to line h w pl ho A i a l j (ℕ_discrete A left), from line h w pl ho A i a l j (ℕ_discrete A left));
    }

  pub rules_all : (k : ℕ) (new : List ℕ) → length G.rules ≤ k → RulesBelow G masks changed words places width k old new → RulesApplied G masks changed words places width old new
  rules_all k new full x = record {
    long = x.long;
    gains = λ line h w pl ho A i a l j. (λ m. any line h A i j ((x.gains line h w pl ho A i a l j).0 m), λ m. (x.gains line h w pl ho A i a l j).1 (first line h A i j m));
  }
    where
      any : (line : List ℕ) (h A i j : ℕ) → Member (get_or old (A * width + i) 0) j ⊎ ByFirst G line h masks changed k A i j → Member (get_or old (A * width + i) 0) j ⊎ ByRule G line h masks changed A i j
      any line h A i j (inl m) = inl m
      any line h A i j (inr b) = inr b.0

      first : (line : List ℕ) (h A i j : ℕ) → Member (get_or old (A * width + i) 0) j ⊎ ByRule G line h masks changed A i j → Member (get_or old (A * width + i) 0) j ⊎ ByFirst G line h masks changed k A i j
      first line h A i j (inl m) = inl m
      first line h A i j (inr b) = inr (b, omega (arith, b.is_rule.below))

-- rule p of read sections, where it stands
module _ (g : List ℕ) (s : Sections) (read : Sectioned g s) (p at : ℕ) (f : Found g s p at) (l : p < s.rules) where
  pub rule_is : IsRule (grammar_of g s) p (standing g at).left (standing g at).right
  rule_is = record { below = rw (rule_count_lem g s read) l; from = ap (λ (r : Rule). r.left) (sym f.is); to = ap (λ (r : Rule). r.right) (sym f.is) }

  rule_within : RuleWithin (grammar_of g s) (standing g at)
  rule_within = rw f.is ((sections_within g s read).each p (rw (rule_count_lem g s read) l))

  pub rule_left_few : (standing g at).left < 32
  rule_left_few = omega (arith, rule_within.left, (sections_within g s read).categories)

  -- its symbols' rows are in the words of a chart
  pub rule_room : (words : List ℕ) (width : ℕ) → s.categories * width ≤ length words → Room (standing g at).right words width
  rule_room words width room = record {
    rows = λ d h k. le_trans (row_before_lem _ s.categories width (rw (category_count_lem g s read) at ((rule_within.symbols d h).category k))) room;
  }

  pub rule_chart :
      (words places : List ℕ) (width : ℕ) (line : List ℕ) (h : ℕ) → width ≡ length line + 1 → Places line places → HoldsAfter (grammar_of g s) line h words →
      ChartOf (grammar_of g s) line h (standing g at).right words places width
  rule_chart words places width line h w pl ho = record { wide = w; placed = pl; holds = ho; known = λ d k c. (rule_within.symbols d k).category c }

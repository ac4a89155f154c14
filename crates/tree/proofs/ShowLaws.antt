-- What is shown, from the depth kept for the fact and the count of its nodes.
use Rattle.std.proofs.Common.{Err, Ok}
use Prim.Native.Nat.{ℕ, ◌*◌, ◌/◌, ◌≤◌, ◌<◌}
use mathlib.Core.Path.{◌≡◌, refl, ap}
use mathlib.Core.List.{List}
use native.Mathlib.Omega.{arith}
use lib.ListN.{length}
use Rattle.refusals.specs.declared.Refusal.TheVariants.{TreeOfNoFact, TreeTooSmall}
use Rattle.derivation.specs.Grammar.{Grammar, Proper}
use Rattle.derivation.specs.Fact.{Fact}
use Rattle.derivation.specs.Depth.{DepthIs, no_fact, deep}
use Rattle.derivation.specs.computed.Shown.{shown}
use Rattle.derivation.proofs.Table.{depth_of_is, depth_is_unique, depth_is_none}
use Rattle.tree.specs.declared.kept.Span.{Span}
use Rattle.tree.specs.Bytes.{bytes, wrote}
use Rattle.tree.specs.inner.Kept.{depth_at, DepthsKept}
use Rattle.tree.specs.inner.Searchable.{NodeAt}
use Rattle.tree.specs.inner.Counted.{Counted}
use Rattle.tree.specs.inner.ShowOutcome.{ShowOutcome}
use Rattle.tree.specs.inner.ShowOutcome as shows
use Rattle.tree.proofs.ByteLaws.{bytes_four}

module _ (G : Grammar) (line : List ℕ) (A i j : ℕ) (proper : Proper G) where
  fact_of : {d : ℕ} → DepthIs G line A i j d → 0 < d → Fact G line A i j
  fact_of (no_fact n) l = absurd (omega arith)
  fact_of (deep p) l = p.tree

  pub show_none : (out : List ℕ) (d : ℕ) → DepthIs G line A i j d → d ≡ 0 → ShowOutcome G line A i j out (Err TreeOfNoFact) out
  show_none out d x e = shows.no_fact (depth_is_none (rw e at x)) refl refl

  -- the fact as a node
  abbrev span : Span
  span = record { category = A; start = i; end = j }

  pub node_at : (depths : List ℕ) → DepthsKept G line depths → A < length G.categories → i ≤ length line → j ≤ length line → (depth_at depths (length line) A i j ≡ 0 → ⊥) → NodeAt G line span
  node_at depths kept a b c n = record { category = a; start = b; end = c; fact = omega (arith, n, depth_is_unique (kept A i j a b c) (depth_of_is G line proper A i j)) }

  module _ (out : List ℕ) (count : ℕ) (x : NodeAt G line span) (counted : Counted (length (shown G line A i j)) (length out / 4) count) where
    four : length (bytes (shown G line A i j)) ≡ length (shown G line A i j) * 4
    four = bytes_four (shown G line A i j)

    fact : Fact G line A i j
    fact = fact_of (depth_of_is G line proper A i j) x.fact

    pub show_small : length out / 4 < count → ShowOutcome G line A i j out (Err TreeTooSmall) out
    show_small l =
        let many = counted.over l in
        shows.no_room fact (omega (arith, four)) refl refl

    pub count_is : count ≤ length out / 4 → count ≡ length (shown G line A i j)
    count_is l = omega (arith, counted.exact l)

    pub has_room : count ≤ length out / 4 → length (bytes (shown G line A i j)) ≤ length out
    has_room l = omega (arith, count_is l, four)

    pub show_all : (out' : List ℕ) → count ≤ length out / 4 → out' ≡ wrote out 0 (bytes (shown G line A i j)) → ShowOutcome G line A i j out (Ok count) out'
    show_all out' l o = shows.shows fact (has_room l) (ap Ok (count_is l)) o

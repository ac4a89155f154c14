-- Where a round adds nothing, every fact is known; a fact's depth is at most N × (j - i + 1).
use Prim.Native.Nat.{ℕ, zero, suc, ◌+◌, ◌*◌, ◌-◌, ◌≤◌, ◌<◌, zero-le}
use mathlib.Core.Path.{◌≡◌, subst}
use mathlib.Core.Bool.{Bool, true}
use mathlib.Core.List.{List}
use native.Mathlib.Nat.{le_refl, add-suc, mul-suc, not-suc-le-zero, lt_of_not-le}
use native.Mathlib.Decide.{dec_lt}
use native.Mathlib.Omega.{arith}
use lib.ListN.{length}
use Rattle.derivation.specs.Bound.{depth_bound}
use Rattle.derivation.specs.Grammar.{Grammar, Proper}
use Rattle.derivation.specs.Tree.{Tree, node, height}
use Rattle.derivation.specs.inner.Within.{Within}
use Rattle.derivation.specs.computed.Round.{round, within}
use Rattle.derivation.proofs.Within.{tree_inside, tree_known, within_sound}
use Rattle.derivation.proofs.Depth.{within_grows}
use Rattle.derivation.proofs.Pigeonhole.{settles}

-- a tree's category is one of the grammar's
pub tree_category : {g : Grammar} {w : List ℕ} {A i j : ℕ} → Proper g → Tree g w A i j → A < length g.categories
tree_category {g} proper (node p r bs) = subst (λ (A : ℕ). A < length g.categories) r.from (proper.lefts p r.below)

module _ (g : Grammar) (w : List ℕ) (proper : Proper g) where
  -- a round that adds nothing: every fact is known
  pub stable :
      (h : ℕ) → ((A i j : ℕ) → A < length g.categories → i ≤ j → j ≤ length w → within g w (suc h) A i j ≡ true → within g w h A i j ≡ true) →
      {A i j : ℕ} → Tree g w A i j → within g w h A i j ≡ true
  unfolding within
  stable h still t = tree_known g w (λ k. within g w h) 0 (length w) (λ k A i j x y e. closed A i j e) t (height t) (le_refl (height t)) zero-le (tree_inside t).ends
    where
      closed : (A i j : ℕ) → within g w (suc h) A i j ≡ true → within g w h A i j ≡ true
      closed A i j e =
          let t = (within_sound g w (suc h) A i j e).tree in
          still A i j (tree_category proper t) (tree_inside t).rises (tree_inside t).ends e

  -- the stretches inside i..j that are shorter have their facts after M rounds; then i..j has its own N rounds later
  module _ (M i j : ℕ) (shorter : (A a b : ℕ) → b - a < j - i → Tree g w A a b → within g w M A a b ≡ true) where
    reached : ℕ → ℕ → Bool
    reached t A = within g w (M + t) A i j

    reached_grows : (t A : ℕ) → reached t A ≡ true → reached (suc t) A ≡ true
    unfolding reached
    reached_grows t A e = within_grows g w (M + t) (M + suc t) A i j (omega arith) e

    -- the last step that adds nothing: every tree inside i..j is known by then
    known_at : (t : ℕ) → ((A : ℕ) → A < length g.categories → reached (suc t) A ≡ true → reached t A ≡ true) →
        (A a b : ℕ) → i ≤ a → b ≤ j → round g w (within g w (M + t)) A a b ≡ true → within g w (M + t) A a b ≡ true
    unfolding reached within
    known_at t still A a b x y e = go (dec_lt (b - a) (j - i))
      where
        tree : Tree g w A a b
        tree = (within_sound g w (suc (M + t)) A a b e).tree

        go : Dec (b - a < j - i) → within g w (M + t) A a b ≡ true
        go (yes l) = within_grows g w M (M + t) A a b (omega arith) (shorter A a b l tree)
        go (no l) =
            let r = (tree_inside tree).rises in
            let big = lt_of_not-le l in
            let p : a ≡ i = omega arith in
            let q : b ≡ j = omega arith in
            rw (p, q) (still A (tree_category proper tree) (rw add-suc (rw (p, q) at e)))

    pub reach : {A : ℕ} → Tree g w A i j → within g w (M + length g.categories) A i j ≡ true
    reach {A} t =
        let s = settles reached reached_grows (length g.categories) in
        within_grows g w (M + s.0) (M + length g.categories) A i j (omega (arith, s.1))
        (tree_known g w (λ k. within g w (M + s.0)) i j (λ k A a b x y e. known_at s.0 s.2 A a b x y e) t (height t) (le_refl (height t)) (le_refl i) (le_refl j))

  bound_below : (L A i j : ℕ) → j - i < L → Tree g w A i j → within g w (length g.categories * L) A i j ≡ true
  bound_below zero A i j h t = absurd (not-suc-le-zero h)
  bound_below (suc L) A i j h t =
      rw mul-suc (reach (length g.categories * L) i j (λ A a b l u. bound_below L A a b (omega arith) u) t)

  -- every fact has a tree within the bound
  pub bound : {A i j : ℕ} → Tree g w A i j → Within g w (depth_bound g i j) A i j
  bound {A} {i} {j} t = within_sound g w (depth_bound g i j) A i j (bound_below (j - i + 1) A i j (omega arith) t)

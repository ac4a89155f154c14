-- The computed rounds are the greatest depth.
use Prim.Native.Nat.{ℕ, zero, suc, max, ◌≤◌, ◌<◌, suc-le-suc}
use mathlib.Core.Path.{◌≡◌, refl, sym}
use mathlib.Core.Logic.{◌⊎◌, inl, inr}
use mathlib.Core.List.{List}
use native.Mathlib.Nat.{le_trans, le_of_eq, le_of_suc-le-suc, not-suc-le-zero, eq-or-lt_of_le, le-max_left, le-max_right}
use native.Mathlib.Decide.{dec_le}
use native.Mathlib.Omega.{arith}
use Rattle.derivation.specs.Grammar.{Grammar, Proper}
use Rattle.derivation.specs.Depth.{Depth, DepthIs, no_fact, deep}
use Rattle.derivation.specs.Rounds.{RoundsIs}
use Rattle.derivation.specs.computed.Table.{depth_of}
use Rattle.derivation.specs.computed.RoundsOf.{greatest, rounds_of}
use Rattle.derivation.proofs.Within.{tree_inside}
use Rattle.derivation.proofs.Bound.{tree_category}
use Rattle.derivation.proofs.Table.{depth_of_is, depth_of_depth}
use Rattle.derivation.proofs.Rounds.{rounds_unique}

-- the greatest value is at least each one, and is one of them unless it is 0
below_greatest : (f : ℕ → ℕ) (n k : ℕ) {d : ℕ} → k < n → d ≤ f k → d ≤ greatest f n
unfolding greatest
below_greatest f zero k l h = absurd (not-suc-le-zero l)
below_greatest f (suc n) k {d} l h = go (eq-or-lt_of_le (le_of_suc-le-suc l)) (λ m. below_greatest f n k m h)
  where
    go : (k ≡ n) ⊎ (k < n) → (k < n → d ≤ greatest f n) → d ≤ max (greatest f n) (f n)
    go (inl e) ih = le_trans (rw e at h) (le-max_right (greatest f n) (f n))
    go (inr m) ih = le_trans (ih m) (le-max_left (greatest f n) (f n))

greatest_met : (f : ℕ → ℕ) (n : ℕ) {r : ℕ} → 0 < r → greatest f n ≡ r → (k : ℕ) × (f k ≡ r)
unfolding greatest
greatest_met f zero l e = absurd (omega arith)
greatest_met f (suc n) {r} l e = go (dec_le (greatest f n) (f n)) (greatest_met f n l)
  where
    go : Dec (greatest f n ≤ f n) → (greatest f n ≡ r → (k : ℕ) × (f k ≡ r)) → (k : ℕ) × (f k ≡ r)
    go (yes m) ih = (n, omega arith)
    go (no m) ih = ih (omega arith)

module _ (g : Grammar) (w : List ℕ) (proper : Proper g) where
  pub rounds_of_is : RoundsIs g w (rounds_of g w)
  unfolding rounds_of depth_of
  rounds_of_is = record { most = most; met = met }
    where
      most : (A i j d : ℕ) → Depth g w A i j d → d ≤ rounds_of g w
      most A i j d p =
          let r = tree_inside p.tree in
          below_greatest _ _ A (tree_category proper p.tree)
          (below_greatest _ _ i (suc-le-suc (le_trans r.rises r.ends))
          (below_greatest _ _ j (suc-le-suc r.ends)
          (le_of_eq (sym (depth_of_depth g w proper p)))))

      positive : {A i j d r : ℕ} → DepthIs g w A i j d → d ≡ r → 0 < r → Depth g w A i j r
      positive (no_fact n) e l = absurd (omega arith)
      positive (deep p) e l = rw e at p

      met : 0 < rounds_of g w → (A : ℕ) × (i : ℕ) × (j : ℕ) × Depth g w A i j (rounds_of g w)
      met l =
          let A = greatest_met _ _ l refl in
          let i = greatest_met _ _ l A.1 in
          let j = greatest_met _ _ l i.1 in
          (A.0, i.0, j.0, positive (depth_of_is g w proper A.0 i.0 j.0) j.1 l)

  pub rounds_are : {r : ℕ} → RoundsIs g w r → r ≡ rounds_of g w
  rounds_are p = rounds_unique p rounds_of_is

-- Every (A, i, j) has a tree or has none, and every fact has a depth.
use Prim.Native.Nat.{ℕ, zero, suc, ◌≤◌, ◌<◌}
use mathlib.Core.Path.{◌≡◌, refl, sym, ◌∙◌}
use mathlib.Core.Bool.{Bool, true, false, true≢false, false≢true, Bool-discrete}
use mathlib.Core.List.{List}
use native.Mathlib.Nat.{le_refl, le_antisymm, mul-le-mul, mul-le-mul_left, le_trans, lt_of_not-le, not-le_of_lt}
use native.Mathlib.Omega.{arith}
use lib.ListN.{length}
use Rattle.derivation.specs.Bound.{depth_bound, rounds_bound}
use Rattle.derivation.specs.Grammar.{Grammar, Proper}
use Rattle.derivation.specs.Tree.{Tree, height}
use Rattle.derivation.specs.Fact.{Fact}
use Rattle.derivation.specs.Depth.{Depth}
use Rattle.derivation.specs.computed.Round.{within}
use Rattle.derivation.proofs.Within.{tree_inside, within_sound, within_complete}
use Rattle.derivation.proofs.Bound.{bound}

module _ (g : Grammar) (w : List ℕ) where
  -- no tree of height at most h: the test fails
  pub within_not : (h A i j : ℕ) → ((t : Tree g w A i j) → h < height t) → within g w h A i j ≡ false
  within_not h A i j high = go (within g w h A i j) refl
    where
      go : (x : Bool) → within g w h A i j ≡ x → within g w h A i j ≡ false
      go true e = let t = within_sound g w h A i j e in absurd (not-le_of_lt (high t.tree) t.low)
      go false e = e

  pub not_within : (h A i j : ℕ) → within g w h A i j ≡ false → (t : Tree g w A i j) → h < height t
  not_within h A i j f t = lt_of_not-le (λ l. true≢false (sym (within_complete g w t h l) ∙ f))

  -- what round h + 1 finds first has depth h + 1
  pub depth_of_round : (A i j h : ℕ) → within g w (suc h) A i j ≡ true → ((t : Tree g w A i j) → h < height t) → Depth g w A i j (suc h)
  depth_of_round A i j h e high =
      let t = within_sound g w (suc h) A i j e in
      record { tree = t.tree; high = le_antisymm t.low (high t.tree); least = high }

  -- what h rounds find has a depth of at most h
  pub depth_within : (h A i j : ℕ) → within g w h A i j ≡ true → (d : ℕ) × (d ≤ h) × Depth g w A i j d
  unfolding within
  depth_within zero A i j e = absurd (false≢true e)
  depth_within (suc h) A i j e = go (within g w h A i j) refl (depth_within h A i j)
    where
      go : (x : Bool) → within g w h A i j ≡ x → (within g w h A i j ≡ true → (d : ℕ) × (d ≤ h) × Depth g w A i j d) → (d : ℕ) × (d ≤ suc h) × Depth g w A i j d
      go true f ih = let r = ih f in (r.0, omega (arith, r.1), r.2)
      go false f ih = (suc h, le_refl (suc h), depth_of_round A i j h e (not_within h A i j f))

  pub depth_exists : {A i j : ℕ} → Fact g w A i j → (d : ℕ) × Depth g w A i j d
  depth_exists {A} {i} {j} t =
      let r = depth_within (height t) A i j (within_complete g w t (height t) (le_refl (height t))) in (r.0, r.2)

  module _ (proper : Proper g) where
    pub depth_bound_lem : {A i j d : ℕ} → Depth g w A i j d → d ≤ depth_bound g i j
    depth_bound_lem p = let b = bound g w proper p.tree in le_trans (p.least b.tree) b.low

    -- no depth passes N × (n + 1)
    pub rounds_bound_lem : {A i j d : ℕ} → Depth g w A i j d → d ≤ rounds_bound g w
    rounds_bound_lem p = le_trans (depth_bound_lem p) (mul-le-mul_left (length g.categories) (omega (arith, (tree_inside p.tree).ends)))

    -- so within the limits of a grammar and a line a depth fits in 16 bits
    pub depth_fits : length g.categories ≤ 32 → length w ≤ 63 → {A i j d : ℕ} → Depth g w A i j d → d ≤ 2048
    depth_fits few short p = le_trans (rounds_bound_lem p) (mul-le-mul {m₂ = 64} few (omega arith))

    pub fact? : (A i j : ℕ) → Dec (Fact g w A i j)
    fact? A i j = go (Bool-discrete (within g w (depth_bound g i j) A i j) true)
      where
        go : Dec (within g w (depth_bound g i j) A i j ≡ true) → Dec (Tree g w A i j)
        go (yes e) = yes (within_sound g w (depth_bound g i j) A i j e).tree
        go (no e) = no (λ t. let b = bound g w proper t in e (within_complete g w b.tree (depth_bound g i j) b.low))

-- A round may leave a rule out: where no category on its right side derives more than before, neither do its symbols.
use Prim.Native.Nat.{ℕ, zero, suc, ◌+◌, ◌-◌, ◌≤◌, ◌<◌, suc-le-suc, zero-le}
use mathlib.Core.Path.{◌≡◌}
use mathlib.Core.List.{List, [], ◌∷◌}
use native.Mathlib.Nat.{le_of_suc-le-suc, not-suc-le-zero}
use native.Mathlib.Omega.{arith}
use lib.ListN.{length, get_or}
use Rattle.derivation.specs.Grammar.{Grammar, Among}
use Rattle.derivation.specs.Tree.{Child, Children, token, category, stop, child_height}
use Rattle.derivation.specs.inner.Within.{Within, ChildWithin, ChildrenWithin}
use Rattle.derivation.proofs.Table.{height_pos}
use Rattle.derivation.proofs.Prefix.{empty_within, then_within, within_then, token_within, category_within, within_category}

among_first : (s : List ℕ) {c : ℕ} → 128 ≤ c → Among (c ∷ s) (c - 128)
among_first s k = (0, suc-le-suc zero-le, omega arith)

among_later : (c : ℕ) (s : List ℕ) (B : ℕ) → Among s B → Among (c ∷ s) B
among_later c s B p = (suc p.0, suc-le-suc p.1, p.2)

module _ {g : Grammar} {w : List ℕ} where
  child_lower : {h k c i j : ℕ} → ChildWithin g w h c i j → (128 ≤ c → Within g w h (c - 128) i j → Within g w k (c - 128) i j) → ChildWithin g w k c i j
  unfolding child_height
  child_lower {h} {k} v lower = go v.child v.low lower
    where
      go : {c i j : ℕ} (b : Child g w c i j) → child_height b ≤ h → (128 ≤ c → Within g w h (c - 128) i j → Within g w k (c - 128) i j) → ChildWithin g w k c i j
      go (token l f e) m lower = token_within l f e
      go (category l t) m lower = category_within l (lower l (record { tree = t; low = m }))

  -- where each category among the symbols derives within k what it derives within h, so do the symbols
  pub children_lower :
      {k : ℕ} (s : List ℕ) (i j h : ℕ) → ChildrenWithin g w h s i j →
      ((B a b : ℕ) → Among s B → Within g w h B a b → Within g w k B a b) → ChildrenWithin g w k s i j
  children_lower [] i j h v lower = go v.children
    where
      go : {k i j : ℕ} → Children g w [] i j → ChildrenWithin g w k [] i j
      go (stop l) = empty_within l
  children_lower (c ∷ s) i j h v lower =
      let r = within_then v in
      then_within (child_lower r.1 (λ k t. lower (c - 128) i r.0 (among_first s k) t))
      (children_lower s r.0 j h r.2 (λ B a b p t. lower B a b (among_later c s B p) t))

  -- symbols without a category derive what they derive at once
  pub no_categories : {s : List ℕ} {i j h : ℕ} → ((B : ℕ) → Among s B → ⊥) → ChildrenWithin g w h s i j → ChildrenWithin g w 0 s i j
  no_categories {s} {i} {j} {h} none v = children_lower s i j h v (λ B a b p t. absurd (none B p))

  none_within : {A i j : ℕ} → Within g w 0 A i j → ⊥
  none_within v = omega (arith, height_pos v.tree, v.low)

  -- a child that is a category has a height of at least 1
  pub category_needs_height : {s : List ℕ} {i j : ℕ} (B : ℕ) → Among s B → ChildrenWithin g w 0 s i j → ⊥
  category_needs_height {s} B p v = go s p.0 p.1 p.2 v
    where
      go : (s : List ℕ) {i j : ℕ} (d : ℕ) → d < length s → get_or s d 0 ≡ 128 + B → ChildrenWithin g w 0 s i j → ⊥
      go [] d l e v = not-suc-le-zero l
      go (c ∷ s) zero l e v = none_within (within_category (omega arith) (within_then v).1)
      go (c ∷ s) (suc d) l e v = go s d (le_of_suc-le-suc l) e (within_then v).2

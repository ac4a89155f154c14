-- What is shown of a node: its rule, its children's ends, and its children's own nodes.
use Prim.Native.Nat.{ℕ, zero, suc, pred, ◌-◌, ◌≤◌, ◌<◌, zero-le, suc-le-suc}
use mathlib.Core.Path.{◌≡◌, refl, ap, ap₂}
use mathlib.Core.Bool.{Bool, true, ◌&&◌, cond}
use mathlib.Core.List.{List, [], ◌∷◌, ◌++◌}
use native.Mathlib.Decide.{dec_lt}
use native.Mathlib.Omega.{arith}
use lib.ListN.{length}
use lib.Dec.{eqb, ltb}
use borrow.Author.Tests.{eqb-true, eq-eqb, lt-ltb, le-ltb}
use Rattle.derivation.specs.Grammar.{Grammar, Proper, rule_at}
use Rattle.derivation.specs.Depth.{DepthIs, no_fact, deep}
use Rattle.derivation.specs.inner.Within.{Within, ChildWithin, ChildrenWithin}
use Rattle.derivation.specs.Node.{NodeValue, token_node, rule_node}
use Rattle.derivation.specs.computed.Search.{first_from}
use Rattle.derivation.specs.computed.Round.{child, children, within}
use Rattle.derivation.specs.computed.Table.{depth_of}
use Rattle.derivation.specs.computed.Shown.{below, chosen_rule, chosen_end, chosen_row, chosen, shown}
use Rattle.derivation.proofs.Tests.{and_parts, and_both}
use Rattle.derivation.proofs.Within.{child_iff, children_iff, children_inside}
use Rattle.derivation.proofs.Prefix.{rule_within, within_then, within_category}
use Rattle.derivation.proofs.Table.{depth_of_is}
use Rattle.derivation.proofs.Shown.{First, first_below, below_within}

-- rule p of A serves below depth h + 1; and so for a first end m of symbols c ∷ s
module _ (G : Grammar) (line : List ℕ) where
  unfoldable rule_test : ℕ → ℕ → ℕ → ℕ → ℕ → Bool
  rule_test h A i j p = eqb (rule_at G p).left A && children line (below G line (depth_of G line) h) (rule_at G p).right i j

  unfoldable pub end_test : ℕ → ℕ → List ℕ → ℕ → ℕ → ℕ → Bool
  end_test h c s i j m = child line (below G line (depth_of G line) h) c i m && children line (below G line (depth_of G line) h) s m j

module _ (G : Grammar) (line : List ℕ) (proper : Proper G) where
  -- what the tests tell
  rule_passes : (h A i j p : ℕ) → (rule_at G p).left ≡ A → ChildrenWithin G line h (rule_at G p).right i j → rule_test G line h A i j p ≡ true
  unfolding rule_test
  rule_passes h A i j p l v = and_both (eq-eqb (rule_at G p).left A l) (rw (below_within G line proper h) ((children_iff G line h (rule_at G p).right i j).1 v))

  rule_tells : (h A i j p : ℕ) → rule_test G line h A i j p ≡ true → ((rule_at G p).left ≡ A) × ChildrenWithin G line h (rule_at G p).right i j
  unfolding rule_test
  rule_tells h A i j p e =
      let a = and_parts (eqb (rule_at G p).left A) (children line (below G line (depth_of G line) h) (rule_at G p).right i j) e in
      (eqb-true (rule_at G p).left A a.0, (children_iff G line h (rule_at G p).right i j).0 (rw (below_within G line proper h) at a.1))

  rule_is_first : (h A i j : ℕ) → chosen_rule G line (depth_of G line) h A i j ≡ first_from (rule_test G line h A i j) 0 (length G.rules)
  unfolding chosen_rule rule_test
  rule_is_first h A i j = refl

  -- it is at most any other that serves
  pub rule_least : (h A i j q : ℕ) → q < length G.rules → (rule_at G q).left ≡ A → ChildrenWithin G line h (rule_at G q).right i j → chosen_rule G line (depth_of G line) h A i j ≤ q
  rule_least h A i j q l e v =
      let t = rule_passes h A i j q e v in
      rw (rule_is_first h A i j) ((first_below (rule_test G line h A i j) (length G.rules) q l t).least q zero-le t)

  pub end_passes : (h c : ℕ) (s : List ℕ) (i j m : ℕ) → ChildWithin G line h c i m → ChildrenWithin G line h s m j → end_test G line h c s i j m ≡ true
  unfolding end_test
  end_passes h c s i j m b v = rw (below_within G line proper h) (and_both ((child_iff G line h c i m).1 b) ((children_iff G line h s m j).1 v))

  pub end_tells : (h c : ℕ) (s : List ℕ) (i j m : ℕ) → end_test G line h c s i j m ≡ true → ChildWithin G line h c i m × ChildrenWithin G line h s m j
  unfolding end_test
  end_tells h c s i j m e =
      let a = and_parts (child line (within G line h) c i m) (children line (within G line h) s m j) (rw (below_within G line proper h) at e) in
      ((child_iff G line h c i m).0 a.0, (children_iff G line h s m j).0 a.1)

  -- where symbols derive, the chosen end is the first that serves
  pub chosen_end_lem : (h c : ℕ) (s : List ℕ) (i j : ℕ) → ChildrenWithin G line h (c ∷ s) i j → First (end_test G line h c s i j) 0 (chosen_end G line (depth_of G line) h c s i j)
  unfolding chosen_end end_test
  chosen_end_lem h c s i j v =
      let a = within_then v in
      first_below (end_test G line h c s i j) (suc j) a.0 (suc-le-suc (children_inside a.2.children).rises) (end_passes h c s i j a.0 a.1 a.2)

  -- the chosen rule of a fact derives it from lower children
  pub node_rule : (A i j : ℕ) → 0 < depth_of G line A i j →
      let h = depth_of G line A i j - 1 in
      let p = chosen_rule G line (depth_of G line) h A i j in
      (p < length G.rules) × ((rule_at G p).left ≡ A) × ChildrenWithin G line h (rule_at G p).right i j
  node_rule A i j pos = go (depth_of G line A i j) (depth_of_is G line proper A i j) pos
    where
      go : (d : ℕ) → DepthIs G line A i j d → 0 < d →
          let p = chosen_rule G line (depth_of G line) (d - 1) A i j in
          (p < length G.rules) × ((rule_at G p).left ≡ A) × ChildrenWithin G line (d - 1) (rule_at G p).right i j
      go zero x l = absurd (omega arith)
      go (suc h) (deep x) l =
          let e : suc h - 1 ≡ h = omega arith in
          let r = rule_within {g = G} {w = line} {h = h} (record { tree = x.tree; low = omega (arith, x.high) }) in
          let is = r.2 in
          let t : rule_test G line h A i j r.0 ≡ true = rule_passes h A i j r.0 is.from (rw is.to r.3) in
          let f = first_below (rule_test G line h A i j) (length G.rules) r.0 is.below t in
          let tells = rule_tells h A i j _ f.passes in
          rw (e, rule_is_first h A i j) (omega (arith, f.least r.0 zero-le t, is.below), tells.0, tells.1)

  -- a category child is a fact whose depth is at most h
  pub child_depth : (h c m e : ℕ) → 128 ≤ c → ChildWithin G line h c m e → (0 < depth_of G line (c - 128) m e) × (depth_of G line (c - 128) m e ≤ h)
  child_depth h c m e k b = go (depth_of_is G line proper (c - 128) m e) (within_category k b)
    where
      go : {d : ℕ} → DepthIs G line (c - 128) m e d → Within G line h (c - 128) m e → (0 < d) × (d ≤ h)
      go (no_fact n) v = absurd (n v.tree)
      go (deep x) v = (omega arith, omega (arith, x.least v.tree, v.low))

  -- rows agree where what they show of the children does
  row_same : (f g : ℕ → ℕ → ℕ → List NodeValue) (h : ℕ) → ((A i j : ℕ) → 0 < depth_of G line A i j → depth_of G line A i j ≤ h → f A i j ≡ g A i j) →
      (s : List ℕ) (i j : ℕ) → ChildrenWithin G line h s i j → chosen_row G line (depth_of G line) f h s i j ≡ chosen_row G line (depth_of G line) g h s i j
  unfolding chosen_row
  row_same f g h same [] i j v = refl
  row_same f g h same (c ∷ s) i j v =
      let m = chosen_end G line (depth_of G line) h c s i j in
      let r = end_tells h c s i j m (chosen_end_lem h c s i j v).passes in
      ap₂ ◌++◌ (one m r.0 (dec_lt c 128)) (row_same f g h same s m j r.1)
    where
      one : (m : ℕ) → ChildWithin G line h c i m → Dec (c < 128) → cond (ltb c 128) (token_node c i m ∷ []) (f (c - 128) i m) ≡ cond (ltb c 128) (token_node c i m ∷ []) (g (c - 128) i m)
      one m b (yes l) = rw (lt-ltb c 128 l)
      one m b (no l) = let d = child_depth h c i m (omega arith) b in rw (le-ltb c 128 (omega arith)) (same (c - 128) i m d.0 d.1)

  -- what is shown does not depend on how far the depth is passed
  enough : (k l A i j : ℕ) → 0 < depth_of G line A i j → depth_of G line A i j ≤ k → depth_of G line A i j ≤ l → chosen G line (depth_of G line) k A i j ≡ chosen G line (depth_of G line) l A i j
  unfolding chosen
  enough zero l A i j pos a b = absurd (omega arith)
  enough (suc k) zero A i j pos a b = absurd (omega arith)
  enough (suc k) (suc l) A i j pos a b =
      let h = pred (depth_of G line A i j) in
      let p = chosen_rule G line (depth_of G line) h A i j in
      let q : depth_of G line A i j - 1 ≡ h = omega arith in
      ap (λ (nodes : List NodeValue). rule_node p i j ∷ nodes)
      (row_same (chosen G line (depth_of G line) k) (chosen G line (depth_of G line) l) h (λ A i j z y. enough k l A i j z (omega arith) (omega arith)) (rule_at G p).right i j (rw q at (node_rule A i j pos)).2)

  -- the nodes of a fact: the use of its rule, then the nodes of its children
  pub shown_node : (A i j : ℕ) → 0 < depth_of G line A i j →
      let h = depth_of G line A i j - 1 in
      let p = chosen_rule G line (depth_of G line) h A i j in
      shown G line A i j ≡ rule_node p i j ∷ chosen_row G line (depth_of G line) (shown G line) h (rule_at G p).right i j
  unfolding shown chosen
  shown_node A i j pos = go (depth_of G line A i j) refl pos
    where
      go : (d : ℕ) → depth_of G line A i j ≡ d → 0 < d →
          let h = d - 1 in
          let p = chosen_rule G line (depth_of G line) h A i j in
          chosen G line (depth_of G line) d A i j ≡ rule_node p i j ∷ chosen_row G line (depth_of G line) (shown G line) h (rule_at G p).right i j
      go zero e l = absurd (omega arith)
      go (suc h) e l =
          let q : pred (depth_of G line A i j) ≡ h = omega arith in
          let r : suc h - 1 ≡ h = omega arith in
          let k : depth_of G line A i j - 1 ≡ h = omega arith in
          let p = chosen_rule G line (depth_of G line) h A i j in
          rw (q, r) (ap (λ (nodes : List NodeValue). rule_node p i j ∷ nodes)
          (row_same (chosen G line (depth_of G line) h) (shown G line) h (λ A i j z y. enough h (depth_of G line A i j) A i j z y (omega arith)) (rule_at G p).right i j (rw k at (node_rule A i j (omega arith))).2))

-- `within` is true exactly where there is a tree of height at most h.
use Prim.Native.Nat.{ℕ, zero, suc, ◌-◌, ◌≤◌, ◌<◌, zero-le, suc-le-suc}
use mathlib.Core.Path.{◌≡◌, refl, subst}
use mathlib.Core.Logic.{◌↔◌, ◌⊎◌, inl, inr}
use mathlib.Core.Bool.{true, ◌&&◌, false≢true}
use mathlib.Core.List.{List, [], ◌∷◌}
use native.Mathlib.Nat.{max-le, le_of_suc-le-suc, not-suc-le-zero}
use native.Mathlib.Omega.{arith}
use lib.ListN.{length, get_or}
use lib.Dec.{eqb, ltb, leb}
use borrow.Author.Tests.{ltb-true, leb-true, eqb-true, lt-ltb, le-leb, eq-eqb}
use Rattle.derivation.specs.Grammar.{Grammar, IsRule, rule_at}
use Rattle.derivation.specs.Tree.{Tree, Child, Children, node, token, category, stop, then, height, child_height, children_height}
use Rattle.derivation.specs.inner.Within.{Within, ChildWithin, ChildrenWithin}
use Rattle.derivation.specs.computed.Round.{Known, token_is, child, children, round, within}
use Rattle.derivation.proofs.Tests.{and_parts, and_both, or_cases, or_left, or_right, some_found, some_here}

-- i..j is a stretch of the line w
pub record Inside (w : List ℕ) (i j : ℕ) : Type 0 where
  pub rises : i ≤ j
  pub ends : j ≤ length w

joined : {w : List ℕ} {i m j : ℕ} → Inside w i m → Inside w m j → Inside w i j
joined p q = record { rises = omega arith; ends = q.ends }

mutual
  pub tree_inside : {g : Grammar} {w : List ℕ} {A i j : ℕ} → Tree g w A i j → Inside w i j
  tree_inside (node p r bs) = children_inside bs

  pub child_inside : {g : Grammar} {w : List ℕ} {c i j : ℕ} → Child g w c i j → Inside w i j
  child_inside (token k h e) = record { rises = omega arith; ends = h }
  child_inside (category k t) = tree_inside t

  pub children_inside : {g : Grammar} {w : List ℕ} {s : List ℕ} {i j : ℕ} → Children g w s i j → Inside w i j
  children_inside (stop h) = record { rises = omega arith; ends = h }
  children_inside (then b bs) = joined (child_inside b) (children_inside bs)

-- what makes each test pass
module _ (w : List ℕ) (known : Known) where
  child_token : {c i : ℕ} → c < 128 → i < length w → get_or w i 0 ≡ c → child w known c i (suc i) ≡ true
  unfolding child token_is
  child_token {c} {i} k h e =
      or_left (token_is w c i && eqb (suc i) (suc i)) (leb 128 c && known (c - 128) i (suc i))
      (and_both (and_both (lt-ltb c 128 k) (and_both (lt-ltb i (length w) h) (eq-eqb (get_or w i 0) c e))) (eq-eqb (suc i) (suc i) refl))

  child_category : {c i j : ℕ} → 128 ≤ c → known (c - 128) i j ≡ true → child w known c i j ≡ true
  unfolding child
  child_category {c} {i} {j} k e = or_right (token_is w c i && eqb (suc i) j) (leb 128 c && known (c - 128) i j) (and_both (le-leb 128 c k) e)

  children_stop : {i : ℕ} → i ≤ length w → children w known [] i i ≡ true
  unfolding children
  children_stop {i} h = and_both (eq-eqb i i refl) (le-leb i (length w) h)

  children_then : (c i m j : ℕ) (s : List ℕ) → m ≤ j → child w known c i m ≡ true → children w known s m j ≡ true → children w known (c ∷ s) i j ≡ true
  unfolding children
  children_then c i m j s h p q = some_here (λ m. child w known c i m && children w known s m j) (suc j) m (suc-le-suc h) (and_both p q)

  round_rule : {g : Grammar} {A : ℕ} {s : List ℕ} (p i j : ℕ) → IsRule g p A s → children w known s i j ≡ true → round g w known A i j ≡ true
  unfolding round
  round_rule {g} {A} p i j r e =
      some_here (λ p. eqb (rule_at g p).left A && children w known (rule_at g p).right i j) (length g.rules) p r.below
      (and_both (eq-eqb (rule_at g p).left A r.from) (rw r.to e))

module _ (g : Grammar) (w : List ℕ) where
  -- sound: what is computed has trees
  module _ (known : Known) (h : ℕ) (trees : (A i j : ℕ) → known A i j ≡ true → Within g w h A i j) where
    pub child_sound : (c i j : ℕ) → child w known c i j ≡ true → ChildWithin g w h c i j
    unfolding child token_is child_height
    child_sound c i j e = go (or_cases (token_is w c i && eqb (suc i) j) (leb 128 c && known (c - 128) i j) e)
      where
        go : (token_is w c i && eqb (suc i) j ≡ true) ⊎ (leb 128 c && known (c - 128) i j ≡ true) → ChildWithin g w h c i j
        go (inl e) =
            let a = and_parts (token_is w c i) (eqb (suc i) j) e in
            let b = and_parts (ltb c 128) (ltb i (length w) && eqb (get_or w i 0) c) a.0 in
            let d = and_parts (ltb i (length w)) (eqb (get_or w i 0) c) b.1 in
            subst (λ (m : ℕ). ChildWithin g w h c i m) (eqb-true (suc i) j a.1)
            (record { child = token (ltb-true c 128 b.0) (ltb-true i (length w) d.0) (eqb-true (get_or w i 0) c d.1); low = zero-le })
        go (inr e) =
            let a = and_parts (leb 128 c) (known (c - 128) i j) e in
            let t = trees (c - 128) i j a.1 in
            record { child = category (leb-true 128 c a.0) t.tree; low = t.low }

    pub children_sound : (s : List ℕ) (i j : ℕ) → children w known s i j ≡ true → ChildrenWithin g w h s i j
    unfolding children children_height
    children_sound [] i j e =
        let a = and_parts (eqb i j) (leb i (length w)) e in
        subst (λ (m : ℕ). ChildrenWithin g w h [] i m) (eqb-true i j a.0) (record { children = stop (leb-true i (length w) a.1); low = zero-le })
    children_sound (c ∷ s) i j e =
        let f = some_found (λ m. child w known c i m && children w known s m j) (suc j) e in
        let a = and_parts (child w known c i f.0) (children w known s f.0 j) f.2 in
        let b = child_sound c i f.0 a.0 in
        let bs = children_sound s f.0 j a.1 in
        record { children = then b.child bs.children; low = max-le b.low bs.low }

    round_sound : (A i j : ℕ) → round g w known A i j ≡ true → Within g w (suc h) A i j
    unfolding round height
    round_sound A i j e =
        let f = some_found (λ p. eqb (rule_at g p).left A && children w known (rule_at g p).right i j) (length g.rules) e in
        let a = and_parts (eqb (rule_at g f.0).left A) (children w known (rule_at g f.0).right i j) f.2 in
        let bs = children_sound (rule_at g f.0).right i j a.1 in
        let r : IsRule g f.0 A (rule_at g f.0).right = record { below = f.1; from = eqb-true (rule_at g f.0).left A a.0; to = refl } in
        record { tree = node f.0 r bs.children; low = suc-le-suc bs.low }

  pub within_sound : (h A i j : ℕ) → within g w h A i j ≡ true → Within g w h A i j
  unfolding within
  within_sound zero A i j e = absurd (false≢true e)
  within_sound (suc h) A i j e = round_sound (within g w h) h (within_sound h) A i j e

  -- complete, for any `known h` that a round carries from h to suc h on the stretches inside a..b
  module _ (known : ℕ → Known) (a b : ℕ) (carried : (h A i j : ℕ) → a ≤ i → j ≤ b → round g w (known h) A i j ≡ true → known (suc h) A i j ≡ true) where
    mutual
      unfolding height

      pub tree_known : {A i j : ℕ} (t : Tree g w A i j) (h : ℕ) → height t ≤ h → a ≤ i → j ≤ b → known h A i j ≡ true
      tree_known (node p r bs) zero l x y = absurd (not-suc-le-zero l)
      tree_known {A} {i} {j} (node p r bs) (suc h) l x y =
          carried h A i j x y (round_rule w (known h) p i j r (children_known bs h (le_of_suc-le-suc l) x y))

      pub child_known : {c i j : ℕ} (t : Child g w c i j) (h : ℕ) → child_height t ≤ h → a ≤ i → j ≤ b → child w (known h) c i j ≡ true
      child_known (token k f e) h l x y = child_token w (known h) k f e
      child_known (category k t) h l x y = child_category w (known h) k (tree_known t h l x y)

      pub children_known : {s : List ℕ} {i j : ℕ} (bs : Children g w s i j) (h : ℕ) → children_height bs ≤ h → a ≤ i → j ≤ b → children w (known h) s i j ≡ true
      children_known (stop f) h l x y = children_stop w (known h) f
      children_known {i = i} {j = j} (then {c} {m = m} {s = s} t bs) h l x y =
          let first = child_inside t in
          let later = children_inside bs in
          children_then w (known h) c i m j s later.rises
          (child_known t h (omega arith) x (omega arith))
          (children_known bs h (omega arith) (omega arith) y)

  pub within_complete : {A i j : ℕ} (t : Tree g w A i j) (h : ℕ) → height t ≤ h → within g w h A i j ≡ true
  unfolding within
  within_complete t h l = tree_known (within g w) 0 (length w) (λ h A i j x y e. e) t h l zero-le (tree_inside t).ends

  pub within_iff : (h A i j : ℕ) → (within g w h A i j ≡ true) ↔ Within g w h A i j
  within_iff h A i j = (within_sound h A i j, λ t. within_complete t.tree h t.low)

  -- the same for a symbol and for symbols
  pub child_iff : (h c i j : ℕ) → (child w (within g w h) c i j ≡ true) ↔ ChildWithin g w h c i j
  unfolding within
  child_iff h c i j = (
    child_sound (within g w h) h (within_sound h) c i j,
    λ b. child_known (within g w) 0 (length w) (λ h A i j x y e. e) b.child h b.low zero-le (child_inside b.child).ends,
  )

  pub children_iff : (h : ℕ) (s : List ℕ) (i j : ℕ) → (children w (within g w h) s i j ≡ true) ↔ ChildrenWithin g w h s i j
  unfolding within
  children_iff h s i j = (
    children_sound (within g w h) h (within_sound h) s i j,
    λ b. children_known (within g w) 0 (length w) (λ h A i j x y e. e) b.children h b.low zero-le (children_inside b.children).ends,
  )

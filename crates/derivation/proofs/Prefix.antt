-- Symbols s ++ t derive i..j where s derives i..m and t derives m..j: for a rule read from left to right, and for the forest's records.
-- One round in the document's words.
use Prim.Native.Nat.{ℕ, suc, ◌-◌, ◌≤◌, ◌<◌, zero-le, suc-le-suc}
use mathlib.Core.Path.{◌≡◌, refl}
use mathlib.Core.List.{List, [], ◌∷◌, ◌++◌}
use native.Mathlib.Nat.{le_trans, max-le, le_of_suc-le-suc}
use native.Mathlib.Omega.{arith}
use lib.ListN.{length, get_or, take}
use lib.Seq.{take-suc}
use Rattle.derivation.specs.Grammar.{Grammar, IsRule}
use Rattle.derivation.specs.Tree.{Tree, Child, Children, node, token, category, stop, then, height, child_height, children_height}
use Rattle.derivation.specs.inner.Within.{Within, ChildWithin, ChildrenWithin}
use Rattle.derivation.proofs.Within.{child_inside, children_inside}

module _ {g : Grammar} {w : List ℕ} {h : ℕ} where
  -- a tree of height at most h + 1 is a rule with symbols that derive within h
  pub rule_within : {A i j : ℕ} → Within g w (suc h) A i j → (p : ℕ) × (s : List ℕ) × IsRule g p A s × ChildrenWithin g w h s i j
  unfolding height
  rule_within v = go v.tree v.low
    where
      go : {A i j : ℕ} (t : Tree g w A i j) → height t ≤ suc h → (p : ℕ) × (s : List ℕ) × IsRule g p A s × ChildrenWithin g w h s i j
      go (node {s = s} p r bs) l = (p, s, r, record { children = bs; low = le_of_suc-le-suc l })

  pub within_rule : {A i j : ℕ} {s : List ℕ} (p : ℕ) → IsRule g p A s → ChildrenWithin g w h s i j → Within g w (suc h) A i j
  unfolding height
  within_rule p r bs = record { tree = node p r bs.children; low = suc-le-suc bs.low }

  pub empty_within : {i : ℕ} → i ≤ length w → ChildrenWithin g w h [] i i
  unfolding children_height
  empty_within l = record { children = stop l; low = zero-le }

  pub then_within : {c i m j : ℕ} {s : List ℕ} → ChildWithin g w h c i m → ChildrenWithin g w h s m j → ChildrenWithin g w h (c ∷ s) i j
  unfolding children_height
  then_within b bs = record { children = then b.child bs.children; low = max-le b.low bs.low }

  pub within_then : {c i j : ℕ} {s : List ℕ} → ChildrenWithin g w h (c ∷ s) i j → (m : ℕ) × ChildWithin g w h c i m × ChildrenWithin g w h s m j
  unfolding children_height
  within_then v = go v.children v.low
    where
      go : {c i j : ℕ} {s : List ℕ} (bs : Children g w (c ∷ s) i j) → children_height bs ≤ h → (m : ℕ) × ChildWithin g w h c i m × ChildrenWithin g w h s m j
      go (then {m = m} b bs) l = (m, record { child = b; low = omega arith }, record { children = bs; low = omega arith })

  pub join : {s t : List ℕ} {i m j : ℕ} → ChildrenWithin g w h s i m → ChildrenWithin g w h t m j → ChildrenWithin g w h (s ++ t) i j
  unfolding children_height
  join v cs = go v.children v.low cs
    where
      go : {s t : List ℕ} {i m j : ℕ} (bs : Children g w s i m) → children_height bs ≤ h → ChildrenWithin g w h t m j → ChildrenWithin g w h (s ++ t) i j
      go (stop k) l cs = cs
      go (then b bs) l cs = then_within (record { child = b; low = omega arith }) (go bs (omega arith) cs)

  pub split : (s : List ℕ) {t : List ℕ} {i j : ℕ} → ChildrenWithin g w h (s ++ t) i j → (m : ℕ) × ChildrenWithin g w h s i m × ChildrenWithin g w h t m j
  split [] {i = i} v = let r = children_inside v.children in (i, empty_within (le_trans r.rises r.ends), v)
  split (c ∷ s) v =
      let a = within_then v in
      let r = split s a.2 in
      (r.0, then_within a.1 r.1, r.2)

  one : {c i j : ℕ} → ChildrenWithin g w h (c ∷ []) i j → ChildWithin g w h c i j
  unfolding children_height
  one v = go v.children v.low
    where
      go : {c i j : ℕ} (bs : Children g w (c ∷ []) i j) → children_height bs ≤ h → ChildWithin g w h c i j
      go (then b (stop k)) l = record { child = b; low = omega arith }

  -- the first d + 1 symbols: the first d, then symbol d
  pub prefix_join :
      (s : List ℕ) (d : ℕ) {i m j : ℕ} → d < length s → ChildrenWithin g w h (take d s) i m → ChildWithin g w h (get_or s d 0) m j → ChildrenWithin g w h (take (suc d) s) i j
  prefix_join s d l bs b = rw (take-suc s d 0 l) (join bs (then_within b (empty_within (child_inside b.child).ends)))

  pub prefix_split :
      (s : List ℕ) (d : ℕ) {i j : ℕ} → d < length s → ChildrenWithin g w h (take (suc d) s) i j → (m : ℕ) × ChildrenWithin g w h (take d s) i m × ChildWithin g w h (get_or s d 0) m j
  prefix_split s d l bs = let r = split (take d s) (rw (take-suc s d 0 l) at bs) in (r.0, r.1, one r.2)

  -- a symbol is a class or a category
  pub token_within : {c i : ℕ} → c < 128 → i < length w → get_or w i 0 ≡ c → ChildWithin g w h c i (suc i)
  unfolding child_height
  token_within k l e = record { child = token k l e; low = zero-le }

  pub category_within : {c i j : ℕ} → 128 ≤ c → Within g w h (c - 128) i j → ChildWithin g w h c i j
  unfolding child_height
  category_within k t = record { child = category k t.tree; low = t.low }

  pub within_token : {c i j : ℕ} → c < 128 → ChildWithin g w h c i j → (i < length w) × (get_or w i 0 ≡ c) × (j ≡ suc i)
  within_token k v = go k v.child
    where
      go : {c i j : ℕ} → c < 128 → Child g w c i j → (i < length w) × (get_or w i 0 ≡ c) × (j ≡ suc i)
      go k (token l f e) = (f, e, refl)
      go k (category l t) = absurd (omega arith)

  pub within_category : {c i j : ℕ} → 128 ≤ c → ChildWithin g w h c i j → Within g w h (c - 128) i j
  unfolding child_height
  within_category k v = go k v.child v.low
    where
      go : {c i j : ℕ} → 128 ≤ c → (b : Child g w c i j) → child_height b ≤ h → Within g w h (c - 128) i j
      go k (token l f e) m = absurd (omega arith)
      go k (category l t) m = record { tree = t; low = m }

-- One round over a chart that holds what derives within height h gives what derives within height h + 1, though rules are left out.
use Prim.Native.Nat.{ℕ, zero, suc, ◌≤◌, ◌<◌}
use mathlib.Core.Path.{◌≡◌, refl, sym, ◌∙◌}
use mathlib.Core.Logic.{◌↔◌, ◌⊎◌, inl, inr}
use mathlib.Core.Bool.{Bool, true, false, true≢false}
use mathlib.Core.List.{List}
use native.Mathlib.Nat.{le_trans}
use native.Mathlib.Decide.{ℕ_discrete}
use native.Mathlib.Omega.{arith}
use lib.Bits.{bit_and}
use lib.ListN.{length, get_or}
use Rattle.positions.specs.Member.{Member}
use Rattle.positions.proofs.Members.{none_member, and_member}
use Rattle.derivation.specs.Grammar.{Grammar, IsRule, Among}
use Rattle.derivation.specs.inner.Within.{Within, ChildrenWithin}
use Rattle.derivation.specs.computed.Round.{within}
use Rattle.derivation.proofs.Within.{within_sound, within_complete}
use Rattle.derivation.proofs.Prefix.{rule_within, within_rule}
use Rattle.derivation.proofs.Skip.{children_lower, category_needs_height}
use Rattle.grammar.specs.Limits.{WithinLimits}
use Rattle.filling.specs.inner.Mask.{MaskOf, Masks}
use Rattle.filling.specs.inner.Round.{ByRule, Changed, start, after}

-- sets that share nothing have no member in common
apart : (a b : ℕ) → bit_and a b ≡ 0 → (j : ℕ) → Member a j → Member b j → ⊥
apart a b e j x y = none_member j (rw e at ((and_member a b j).1 (x, y)))

-- a category among a rule's symbols is one of the grammar's
among : {G : Grammar} {p A : ℕ} {symbols : List ℕ} → WithinLimits G → IsRule G p A symbols → (B : ℕ) → Among symbols B → B < length G.categories
among {G} {p} limits r B s =
    let within = rw r.to at (limits.each p r.below).symbols in
    omega (arith, (within s.0 s.1).category (omega (arith, s.2)), s.2)

module _ {G : Grammar} {line : List ℕ} where
  pub within_more : {h A i j : ℕ} → Within G line h A i j → Within G line (suc h) A i j
  within_more v = record { tree = v.tree; low = omega (arith, v.low) }

  -- every (A, i, j) has a tree of height at most h or has none
  pub within? : (h A i j : ℕ) → Within G line h A i j ⊎ (Within G line h A i j → ⊥)
  within? h A i j = go (within G line h A i j) refl
    where
      go : (x : Bool) → within G line h A i j ≡ x → Within G line h A i j ⊎ (Within G line h A i j → ⊥)
      go true e = inl (within_sound G line h A i j e)
      go false e = inr (λ v. true≢false (sym (within_complete G line v.tree h v.low) ∙ e))

  -- a mask that shares nothing with what changed: the rule derives nothing that is not known
  skipped :
      (h changed mask : ℕ) (symbols : List ℕ) → Changed G line h changed → MaskOf symbols mask → ((B : ℕ) → Among symbols B → B < length G.categories) →
      length G.categories ≤ 32 → bit_and mask changed ≡ 0 → {A p i j : ℕ} → IsRule G p A symbols → ChildrenWithin G line h symbols i j → Within G line h A i j
  skipped zero changed mask symbols (start e) m known few idle r v =
      absurd (apart mask changed idle 32 (m.none.1 (λ B s. category_needs_height B s v)) ((e 32).1 refl))
  skipped (suc h) changed mask symbols (after gains) m known few idle {p = p} {i = i} {j = j} r v = within_rule p r (children_lower symbols i j (suc h) v lower)
    where
      lower : (B a b : ℕ) → Among symbols B → Within G line (suc h) B a b → Within G line h B a b
      lower B a b s t = go (within? h B a b)
        where
          go : Within G line h B a b ⊎ (Within G line h B a b → ⊥) → Within G line h B a b
          go (inl u) = u
          go (inr n) = absurd (apart mask changed idle B ((m.category B (le_trans (known B s) few)).1 s) ((gains B).1 (known B s, (a, b, t, n))))

  -- what one more round finds is what is known and what the rules that are run derive
  pub round_finds :
      (h changed : ℕ) (masks : List ℕ) → Changed G line h changed → Masks G masks → WithinLimits G → (A i j : ℕ) →
      Within G line (suc h) A i j ↔ (Within G line h A i j ⊎ ByRule G line h masks changed A i j)
  round_finds h changed masks ch ms limits A i j = (find, found)
    where
      find : Within G line (suc h) A i j → Within G line h A i j ⊎ ByRule G line h masks changed A i j
      find v =
          let r = rule_within v in
          go r.0 r.1 r.2 r.3 (ℕ_discrete (bit_and (get_or masks r.0 0) changed) 0)
        where
          go : (p : ℕ) (symbols : List ℕ) → IsRule G p A symbols → ChildrenWithin G line h symbols i j → Dec (bit_and (get_or masks p 0) changed ≡ 0) → Within G line h A i j ⊎ ByRule G line h masks changed A i j
          go p symbols r c (yes e) =
              inl (skipped h changed (get_or masks p 0) symbols ch (rw r.to at (ms.each p r.below)) (λ B s. among limits r B s) limits.categories e r c)
          go p symbols r c (no e) = inr (record { p = p; symbols = symbols; is_rule = r; run = e; derives = c })

      found : Within G line h A i j ⊎ ByRule G line h masks changed A i j → Within G line (suc h) A i j
      found (inl v) = within_more v
      found (inr b) = within_rule b.p b.is_rule b.derives

-- Rounds for a chart that holds trees: what one more round keeps or finds, and what holds once a round finds nothing new.
use Prim.Native.Nat.{ℕ, suc, ◌≤◌, ◌<◌}
use mathlib.Core.Path.{◌≡◌}
use mathlib.Core.Bool.{true}
use mathlib.Core.List.{List}
use native.Mathlib.Nat.{le_refl, le_step, lt_of_not-le, not-le_of_lt}
use lib.ListN.{length}
use Rattle.derivation.specs.Grammar.{Grammar, Proper}
use Rattle.derivation.specs.Tree.{Tree, height}
use Rattle.derivation.specs.Depth.{Depth, DepthIs}
use Rattle.derivation.specs.Rounds.{RoundsIs}
use Rattle.derivation.specs.inner.Within.{Within}
use Rattle.derivation.specs.computed.Round.{within}
use Rattle.derivation.specs.computed.Table.{DepthAfter, not_yet, found}
use Rattle.derivation.proofs.Within.{within_iff}
use Rattle.derivation.proofs.Bound.{stable}
use Rattle.derivation.proofs.Decide.{depth_of_round}
use Rattle.derivation.proofs.Table.{after_all}
use Rattle.derivation.proofs.Rounds.{rounds_end}

module _ {g : Grammar} {w : List ℕ} where
  not_low : {h A i j : ℕ} → (Within g w h A i j → ⊥) → (t : Tree g w A i j) → h < height t
  not_low n t = lt_of_not-le (λ l. n (record { tree = t; low = l }))

  -- what round h + 1 finds first has depth h + 1
  pub after_new : {h A i j : ℕ} → Within g w (suc h) A i j → (Within g w h A i j → ⊥) → DepthAfter g w (suc h) A i j (suc h)
  after_new {h} {A} {i} {j} v new = found (le_refl (suc h)) (depth_of_round g w A i j h ((within_iff g w (suc h) A i j).1 v) (not_low new))

  -- where round h + 1 finds nothing new, the number kept stays
  pub after_same : {h A i j d : ℕ} → DepthAfter g w h A i j d → (Within g w (suc h) A i j → Within g w h A i j) → DepthAfter g w (suc h) A i j d
  after_same (not_yet n) same = not_yet (not_low (λ v. let t = same v in not-le_of_lt (n t.tree) t.low))
  after_same (found l p) same = found (le_step l) p

-- round r + 1 finds nothing new
abbrev pub NothingNew : Grammar → List ℕ → ℕ → Type 0
NothingNew g w r = (A i j : ℕ) → A < length g.categories → Within g w (suc r) A i j → Within g w r A i j

module _ {g : Grammar} {w : List ℕ} (proper : Proper g) where
  tested :
      (r : ℕ) → NothingNew g w r →
      (A i j : ℕ) → A < length g.categories → i ≤ j → j ≤ length w → within g w (suc r) A i j ≡ true → within g w r A i j ≡ true
  tested r still A i j a x y e = (within_iff g w r A i j).1 (still A i j a ((within_iff g w (suc r) A i j).0 e))

  -- round r found something, round r + 1 finds nothing new: r is the greatest depth
  pub holds_still : (r : ℕ) → NothingNew g w r → (0 < r → (A : ℕ) × (i : ℕ) × (j : ℕ) × Depth g w A i j r) → RoundsIs g w r
  holds_still r still met = rounds_end g w proper r (tested r still) met

  pub all_known : {r A i j : ℕ} → NothingNew g w r → Tree g w A i j → Within g w r A i j
  all_known {r} {A} {i} {j} still t = (within_iff g w r A i j).0 (stable g w proper r (tested r still) t)

  pub depth_settled : {r A i j d : ℕ} → NothingNew g w r → DepthAfter g w r A i j d → DepthIs g w A i j d
  depth_settled {r} still p = after_all g w (stable g w proper r (tested r still)) p

-- A fact has one depth, and `within` grows with h.
use Prim.Native.Nat.{ℕ, ◌≤◌}
use mathlib.Core.Path.{◌≡◌}
use mathlib.Core.Bool.{true}
use mathlib.Core.List.{List}
use native.Mathlib.Nat.{le_trans}
use native.Mathlib.Omega.{arith}
use Rattle.derivation.specs.Grammar.{Grammar}
use Rattle.derivation.specs.Depth.{Depth}
use Rattle.derivation.specs.computed.Round.{within}
use Rattle.derivation.proofs.Within.{within_sound, within_complete}

pub depth_unique : {g : Grammar} {w : List ℕ} {A i j d e : ℕ} → Depth g w A i j d → Depth g w A i j e → d ≡ e
depth_unique p q = omega (arith, p.least q.tree, q.least p.tree)

module _ (g : Grammar) (w : List ℕ) where
  pub within_grows : (h k A i j : ℕ) → h ≤ k → within g w h A i j ≡ true → within g w k A i j ≡ true
  within_grows h k A i j l e = let t = within_sound g w h A i j e in within_complete g w t.tree k (le_trans t.low l)

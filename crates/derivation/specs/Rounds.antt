-- Rounds: the greatest depth.
use Rattle.std.specs.Prelude.{ℕ, ◌≤◌, ◌<◌, List}
use Rattle.derivation.specs.Grammar.{Grammar}
use Rattle.derivation.specs.Depth.{Depth}

-- r is the greatest depth of any fact, 0 without facts
pub record RoundsIs (g : Grammar) (w : List ℕ) (r : ℕ) : Type 0 where
  pub most : (A i j d : ℕ) → Depth g w A i j d → d ≤ r
  pub met : 0 < r → (A : ℕ) × (i : ℕ) × (j : ℕ) × Depth g w A i j r

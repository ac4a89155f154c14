-- The step over a class, where `places` is the set of the positions at which the line has that class.
use Rattle.std.specs.Prelude.{◌≡◌, ◌↔◌, ℕ, ◌+◌}
use Rattle.positions.specs.Member.{Member}

-- j is the next position after some mid in the set at which the line has the class
pub record InAfterClass (set places j : ℕ) : Type 0 where
  pub mid : ℕ
  pub chosen : Member set mid
  pub classed : Member places mid
  pub next : j ≡ mid + 1

-- r is the set of the positions after those of the set at which the line has the class
abbrev pub AfterClass : ℕ → ℕ → ℕ → Type 0
AfterClass set places r = (j : ℕ) → Member r j ↔ InAfterClass set places j

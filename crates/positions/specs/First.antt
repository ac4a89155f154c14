-- The smallest position of a set.
use Rattle.std.specs.Prelude.{ℕ, ◌<◌, ◌≤◌}
use Rattle.positions.specs.Member.{Member}

-- r is the smallest of the 64 positions that is in the set, and 64 where none is
pub record First (set r : ℕ) : Type 0 where
  pub within : r ≤ 64
  pub none_below : (j : ℕ) → j < r → Member set j → ⊥
  pub found : r < 64 → Member set r

-- The largest position of a set.
use Rattle.std.specs.Prelude.{ℕ, ◌<◌}
use Rattle.positions.specs.Member.{Member}

-- r is the largest position that is in the set
pub record Last (set r : ℕ) : Type 0 where
  pub found : Member set r
  pub none_above : (j : ℕ) → r < j → Member set j → ⊥

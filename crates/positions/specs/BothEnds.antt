-- The smallest and the largest position of a set, together.
use Rattle.std.specs.Prelude.{◌≡◌, ℕ, ◌≤◌}
use Rattle.positions.specs.Member.{Member}

-- what stands for either where the set has no position; it is none of the 64
abbrev pub no_end : ℕ
no_end = 255

pub data BothEnds (set smallest largest : ℕ) : Type 0 where
  -- both are in the set, and all of the set lies between them
  some : Member set smallest → Member set largest → ((j : ℕ) → Member set j → (smallest ≤ j) × (j ≤ largest)) → BothEnds set smallest largest
  -- the set has no position
  none : ((j : ℕ) → Member set j → ⊥) → smallest ≡ no_end → largest ≡ no_end → BothEnds set smallest largest

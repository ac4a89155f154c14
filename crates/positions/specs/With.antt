-- A set with one more position.
use Rattle.std.specs.Prelude.{◌≡◌, ◌⊎◌, ◌↔◌, ℕ}
use Rattle.positions.specs.Member.{Member}

-- the members of r are those of the set, and k
abbrev pub With : ℕ → ℕ → ℕ → Type 0
With set k r = (j : ℕ) → Member r j ↔ (Member set j ⊎ (j ≡ k))

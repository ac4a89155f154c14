-- The document's bounds on depth and rounds.
use Rattle.std.specs.Prelude.{ℕ, ◌+◌, ◌*◌, ◌-◌, List, length}
use Rattle.derivation.specs.Grammar.{Grammar}

-- a fact (A, i, j) has a depth of at most N×(j-i+1)
abbrev pub depth_bound : Grammar → ℕ → ℕ → ℕ
depth_bound g i j = length g.categories * (j - i + 1)

-- rounds is at most N×(n+1)
abbrev pub rounds_bound : Grammar → List ℕ → ℕ
rounds_bound g w = length g.categories * (length w + 1)

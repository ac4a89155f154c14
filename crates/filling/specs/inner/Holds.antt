-- A chart in memory: word A×(n+1)+i has the ends of category A from i.
use Rattle.std.specs.Prelude.{ℕ, ◌+◌, ◌*◌, ◌≤◌, ◌<◌, ◌↔◌, List, length, get_or}
use Rattle.positions.specs.Member.{Member}
use Rattle.derivation.specs.Grammar.{Grammar}
use Rattle.derivation.specs.inner.Within.{Within}

-- the words hold exactly what derives within height h: the facts of depth at most h
abbrev pub HoldsAfter : Grammar → List ℕ → ℕ → List ℕ → Type 0
HoldsAfter G line h words =
    (A i : ℕ) → A < length G.categories → i ≤ length line → (j : ℕ) →
    Member (get_or words (A * (length line + 1) + i) 0) j ↔ Within G line h A i j

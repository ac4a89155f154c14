-- The union of the rows that a set of positions selects: the step over a category, whose row base + m holds the ends of its facts from m.
use Rattle.std.specs.Prelude.{◌↔◌, List, ℕ, ◌+◌, ◌<◌, ◌≤◌, get_or}
use Rattle.positions.specs.Member.{Member}

-- j is in the row base + mid of some mid in the set, from ≤ mid < width
pub record InUnion (set : ℕ) (rows : List ℕ) (base from width j : ℕ) : Type 0 where
  pub mid : ℕ
  pub after : from ≤ mid
  pub before : mid < width
  pub chosen : Member set mid
  pub leads : Member (get_or rows (base + mid) 0) j

-- r is the union of the rows base + m over the members m of the set, from ≤ m < width
abbrev pub Union : ℕ → List ℕ → ℕ → ℕ → ℕ → ℕ → Type 0
Union set rows base from width r = (j : ℕ) → Member r j ↔ InUnion set rows base from width j

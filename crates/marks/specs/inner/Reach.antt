-- A filled chart's words, and how far the spans reach that began so far.
use Rattle.std.specs.Prelude.{ℕ, ◌+◌, ◌*◌, ◌≤◌, ◌<◌, ◌≡◌, ◌↔◌, ◌⊎◌, List, length, get_or}
use Rattle.positions.specs.Member.{Member}
use Rattle.derivation.specs.Grammar.{Grammar}
use Rattle.derivation.specs.Fact.{Fact}

-- the words of a filled chart
pub record ChartHolds (G : Grammar) (line words : List ℕ) : Type 0 where
  pub room : length G.categories * (length line + 1) ≤ length words
  pub word : (A i : ℕ) → A < length G.categories → i ≤ length line → (j : ℕ) → Member (get_or words (A * (length line + 1) + i) 0) j ↔ Fact G line A i j

-- t is before r exactly where it is before `far` or before a member of the row
abbrev pub RowReachIs : ℕ → ℕ → ℕ → Type 0
RowReachIs row far r = (t : ℕ) → (t < r) ↔ ((t < far) ⊎ ((j : ℕ) × Member row j × (t < j)))

-- t is before r exactly where it is before `far` or before an end from the start of a secret category
abbrev pub ReachIs : Grammar → List ℕ → ℕ → ℕ → ℕ → ℕ → Type 0
ReachIs G words width start far r =
    (t : ℕ) → (t < r) ↔ ((t < far) ⊎ ((A : ℕ) × (j : ℕ) × (A < length G.categories) × (get_or G.categories A 0 ≡ 1) × Member (get_or words (A * width + start) 0) j × (t < j)))

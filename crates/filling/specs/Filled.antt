-- Work memory that is filled: the chart and the depths of a line, and all past them as it was.
use Rattle.std.specs.Prelude.{ℕ, ◌+◌, ◌*◌, ◌≤◌, ◌<◌, ◌≡◌, ◌↔◌, List, length, get_or}
use Rattle.positions.specs.Member.{Member}
use Rattle.derivation.specs.Grammar.{Grammar}
use Rattle.derivation.specs.Fact.{Fact}
use Rattle.derivation.specs.Depth.{DepthIs}
use Rattle.derivation.specs.Rounds.{RoundsIs}
use Rattle.checks.specs.Memory.{chart_size, depths_size}

-- word A×(n+1)+i has bit j set exactly for fact (A, i, j); at (A×(n+1)+i)×(n+1)+j stands its depth, 0 where there is no fact
pub record WorkFilled (G : Grammar) (line words depths words' depths' : List ℕ) : Type 0 where
  pub words_long : length words' ≡ length words
  pub word :
      (A i : ℕ) → A < length G.categories → i ≤ length line → (j : ℕ) →
      Member (get_or words' (A * (length line + 1) + i) 0) j ↔ Fact G line A i j
  pub words_past : (q : ℕ) → chart_size (length G.categories) (length line) ≤ q → get_or words' q 0 ≡ get_or words q 0
  pub depths_long : length depths' ≡ length depths
  pub depth :
      (A i j : ℕ) → A < length G.categories → i ≤ length line → j ≤ length line →
      DepthIs G line A i j (get_or depths' ((A * (length line + 1) + i) * (length line + 1) + j) 0)
  pub depths_past : (q : ℕ) → depths_size (length G.categories) (length line) ≤ q → get_or depths' q 0 ≡ get_or depths q 0

-- what the filling leaves and answers
pub record Filled (G : Grammar) (line words depths words' depths' : List ℕ) (rounds : ℕ) : Type 0 where
  pub work : WorkFilled G line words depths words' depths'
  pub most : RoundsIs G line rounds

-- A count that stops past a limit.
use Rattle.std.specs.Prelude.{ℕ, suc, ◌+◌, ◌≤◌, ◌<◌, ◌≡◌}

-- of a total, `count` is counted and `rest` is left, or the count has passed the limit by one, and so the total passes it
pub record Counting (limit count rest total : ℕ) : Type 0 where
  pub most : count ≤ suc limit
  pub exact : count ≤ limit → count + rest ≡ total
  pub over : limit < count → limit < total

-- the total where it is at most the limit, and else one more than the limit
abbrev pub Counted : ℕ → ℕ → ℕ → Type 0
Counted total limit r = Counting limit r 0 total

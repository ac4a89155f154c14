-- Where the rules of read sections stand, by their numbers.
use Rattle.std.specs.Prelude.{ℕ, ◌≤◌, ◌<◌, ◌≡◌, List, length, get_or}
use Rattle.grammar.specs.declared.reading.Sections.{Sections}
use Rattle.grammar.specs.Value.{Found}

-- 128 positions: entry p is where rule p stands, and 0 past the last rule
pub record Starts (g : List ℕ) (s : Sections) (starts : List ℕ) : Type 0 where
  pub long : length starts ≡ 128
  pub found : (p : ℕ) → p < s.rules → Found g s p (get_or starts p 0)
  pub rest : (p : ℕ) → s.rules ≤ p → get_or starts p 0 ≡ 0

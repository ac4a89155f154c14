-- The marks of a line: 1 for each secret token and 0 for each other.
use Rattle.std.specs.Prelude.{ℕ, ◌≤◌, ◌<◌, ◌≡◌, List, length, get_or}
use Rattle.derivation.specs.Grammar.{Grammar}
use Rattle.derivation.specs.Secret.{Secret}
use Rattle.derivation.specs.computed.FactCount.{total}

-- the mark of token t
pub data MarkIs (G : Grammar) (line : List ℕ) (t : ℕ) : ℕ → Type 0 where
  marked : Secret G line t → MarkIs G line t 1
  unmarked : (Secret G line t → ⊥) → MarkIs G line t 0

-- the first n bytes are the marks, the others are as they were, and `secret` is the number of ones
pub record MarksAre (G : Grammar) (line marks marks' : List ℕ) (secret : ℕ) : Type 0 where
  pub long : length marks' ≡ length marks
  pub mark : (t : ℕ) → t < length line → MarkIs G line t (get_or marks' t 0)
  pub past : (q : ℕ) → length line ≤ q → get_or marks' q 0 ≡ get_or marks q 0
  pub ones : secret ≡ total (λ t. get_or marks' t 0) (length line)

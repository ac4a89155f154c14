-- The document's job: its grammar bytes, the grammar that they stand for, its line, and the work memory that it takes.
use Rattle.std.specs.Prelude.{ℕ, ◌≤◌, List, [], ◌∷◌, length}
use Rattle.derivation.specs.Grammar.{Grammar, rule}

unfoldable pub job_bytes : List ℕ
job_bytes = 3 ∷ 0 ∷ 0 ∷ 0 ∷ 1 ∷ 1 ∷ 2 ∷ 0 ∷ 3 ∷ 128 ∷ 1 ∷ 0 ∷ 0 ∷ 1 ∷ 0 ∷ []

-- three ordinary classes, the secret category A, and A → A 1 0 and A → 0
unfoldable pub job_grammar : Grammar
job_grammar = record { classes = 0 ∷ 0 ∷ 0 ∷ []; categories = 1 ∷ []; rules = rule 0 (128 ∷ 1 ∷ 0 ∷ []) ∷ rule 0 (0 ∷ []) ∷ [] }

unfoldable pub job_line : List ℕ
job_line = 2 ∷ 0 ∷ 1 ∷ 0 ∷ 1 ∷ 0 ∷ []

-- a line of the same length on which there is no fact
unfoldable pub other_line : List ℕ
other_line = 2 ∷ 2 ∷ 2 ∷ 2 ∷ 2 ∷ 2 ∷ []

-- 1×7 words and 1×7×7 numbers at least, of any contents
pub record JobMemory (words depths : List ℕ) : Type 0 where
  pub words_long : 7 ≤ length words
  pub depths_long : 49 ≤ length depths

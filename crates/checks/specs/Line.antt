-- The check of a line: 0 to 63 tokens, each a class of the grammar.
use Rattle.std.specs.Prelude.{ℕ, zero, suc, ◌+◌, ◌≤◌, ◌<◌, cond, List, [], length, get_or, ltb, Err}
use Rattle.refusals.specs.declared.Refusal.TheVariants.{LineTooLong, TokenNoClass}
use Rattle.refusals.specs.Check.{Check, nothing_wrong}
use Rattle.refusals.specs.Told.{Told, answered, refused}

-- a line of a grammar with this many classes
pub record IsLine (classes : ℕ) (line : List ℕ) : Type 0 where
  pub short : length line ≤ 63
  pub tokens : (t : ℕ) → t < length line → get_or line t 0 < classes

-- token t is the first that is no class
pub record FirstNoClass (classes : ℕ) (line : List ℕ) (t : ℕ) : Type 0 where
  pub inside : t < length line
  pub no_class : classes ≤ get_or line t 0
  pub first : (k : ℕ) → k < t → get_or line k 0 < classes

-- what the check of a line tells: 6 at 63, 7 at the first token that is no class, or no refusal
pub data LineOutcome (classes : ℕ) (line : List ℕ) : Told → Type 0 where
  too_long : 63 < length line → LineOutcome classes line (refused (record { number = 6; place = 63 }))
  bad_token : {t : ℕ} → length line ≤ 63 → FirstNoClass classes line t → LineOutcome classes line (refused (record { number = 7; place = t }))
  is_line : IsLine classes line → LineOutcome classes line (answered [])

-- the check, computed: `count` tokens, from token t on
unfoldable pub tokens_from : ℕ → List ℕ → ℕ → ℕ → Check
tokens_from classes line zero t = nothing_wrong
tokens_from classes line (suc count) t = cond (ltb (get_or line t 0) classes) (tokens_from classes line count (t + 1)) (Err (TokenNoClass t))

-- too long, or else the first token that is not below the number of classes
unfoldable pub line_check : ℕ → List ℕ → Check
line_check classes line = cond (ltb 63 (length line)) (Err LineTooLong) (tokens_from classes line (length line) 0)

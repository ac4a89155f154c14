-- Bounded search over numbers.
use Rattle.std.specs.Prelude.{ℕ, zero, suc, Bool, false, ◌||◌, cond}

-- some number below n passes the test
unfoldable pub some : (ℕ → Bool) → ℕ → Bool
some test zero = false
some test (suc n) = let rest = some test n in test n || rest

-- the first of k numbers from i on that passes the test; i + k where none does
unfoldable pub first_from : (ℕ → Bool) → ℕ → ℕ → ℕ
first_from test i zero = i
first_from test i (suc k) = let later = first_from test (suc i) k in cond (test i) i later

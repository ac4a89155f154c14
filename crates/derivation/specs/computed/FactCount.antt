-- The number of facts of a line, computed.
use Rattle.std.specs.Prelude.{ℕ, zero, suc, ◌+◌, cond, List, length}
use Rattle.derivation.specs.Grammar.{Grammar}
use Rattle.derivation.specs.computed.Facts.{facts}

-- f 0 + f 1 + .. + f (n - 1)
unfoldable pub total : (ℕ → ℕ) → ℕ → ℕ
total f zero = 0
total f (suc n) = total f n + f n

-- 1 for each (A, i, j) that is a fact, with A below N, and i and j from 0 to n
unfoldable pub fact_count : Grammar → List ℕ → ℕ
fact_count g w =
    let known = facts g w in
    total (λ A. total (λ i. total (λ j. cond (known A i j) 1 0) (suc (length w))) (suc (length w))) (length g.categories)

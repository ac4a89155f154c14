-- Rounds, the greatest depth, computed.
use Rattle.std.specs.Prelude.{ℕ, zero, suc, max, List, length}
use Rattle.derivation.specs.Grammar.{Grammar}
use Rattle.derivation.specs.Bound.{rounds_bound}
use Rattle.derivation.specs.computed.Table.{entry, depths}

-- the greatest of f 0, f 1, .., f (n - 1), 0 for none
unfoldable pub greatest : (ℕ → ℕ) → ℕ → ℕ
greatest f zero = 0
greatest f (suc n) = max (greatest f n) (f n)

-- the greatest depth of any (A, i, j), with A below N, and i and j from 0 to n
unfoldable pub rounds_of : Grammar → List ℕ → ℕ
rounds_of g w =
    let t = depths g w (rounds_bound g w) in
    greatest (λ A. greatest (λ i. greatest (λ j. entry t A i j) (suc (length w))) (suc (length w))) (length g.categories)

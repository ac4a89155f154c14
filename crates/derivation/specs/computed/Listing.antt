-- The values of a function as a list, and all that pass a test, in order.
use Rattle.std.specs.Prelude.{ℕ, zero, suc, Bool, cond}
use mathlib.Core.List.{List, [], ◌∷◌, flatten}

-- f i, f (i + 1), .., n of them
unfoldable pub listed : {X : Type 0} → (ℕ → X) → ℕ → ℕ → List X
listed f i zero = []
listed f i (suc n) = f i ∷ listed f (suc i) n

-- the lists f 0, f 1, .., n of them, one after the other
unfoldable pub gathered : {X : Type 0} → ℕ → (ℕ → List X) → List X
gathered n f = flatten (listed f 0 n)

-- x where it passes, and else nothing
unfoldable pub kept : {X : Type 0} → (X → Bool) → X → List X
kept test x = cond (test x) (x ∷ []) []

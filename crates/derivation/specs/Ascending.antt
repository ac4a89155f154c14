-- Lists in ascending order, by the numbers of their members.
use Rattle.std.specs.Prelude.{ℕ, ◌<◌}
use mathlib.Core.List.{List, Lexᴰ, IsChain}

module _ {X : Type 0} (numbers : X → List ℕ) where
  -- a comes before b: of their numbers, compared left to right, the first that differ rise
  abbrev pub Before : X → X → Type 0
  Before a b = Lexᴰ ◌<◌ (numbers a) (numbers b)

  -- each member comes before the next one; so each stands once
  abbrev pub Ascending : List X → Type 0
  Ascending = IsChain Before

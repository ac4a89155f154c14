-- The depth of a fact: the least height of its trees.
use Rattle.std.specs.Prelude.{ℕ, suc, ◌≤◌, ◌≡◌, List}
use Rattle.derivation.specs.Grammar.{Grammar}
use Rattle.derivation.specs.Tree.{Tree, height}
use Rattle.derivation.specs.Fact.{Fact}

-- d is the depth of the fact (A, i, j): some tree has height d, and no tree is lower
pub record Depth (g : Grammar) (w : List ℕ) (A i j d : ℕ) : Type 0 where
  pub tree : Tree g w A i j
  pub high : height tree ≡ d
  pub least : (t : Tree g w A i j) → d ≤ height t

-- the number kept for (A, i, j): its depth, and 0 where it is no fact
pub data DepthIs (g : Grammar) (w : List ℕ) (A i j : ℕ) : ℕ → Type 0 where
  no_fact : (Fact g w A i j → ⊥) → DepthIs g w A i j 0
  deep : {d : ℕ} → Depth g w A i j (suc d) → DepthIs g w A i j (suc d)

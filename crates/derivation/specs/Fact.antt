-- Facts: (A, i, j) is one where the category A derives i..j.
use Rattle.std.specs.Prelude.{ℕ, List}
use Rattle.derivation.specs.Grammar.{Grammar}
use Rattle.derivation.specs.Tree.{Tree}

-- (A, i, j) is a fact: it has a tree
abbrev pub Fact : Grammar → List ℕ → ℕ → ℕ → ℕ → Type 0
Fact g w A i j = Tree g w A i j

-- What has a tree of height at most h.
use Rattle.std.specs.Prelude.{ℕ, ◌≤◌, List}
use Rattle.derivation.specs.Grammar.{Grammar}
use Rattle.derivation.specs.Tree.{Tree, Child, Children, height, child_height, children_height}

-- some tree of (A, i, j) has height at most h; and so for a symbol, and for symbols
pub record Within (g : Grammar) (w : List ℕ) (h A i j : ℕ) : Type 0 where
  pub tree : Tree g w A i j
  pub low : height tree ≤ h

pub record ChildWithin (g : Grammar) (w : List ℕ) (h c i j : ℕ) : Type 0 where
  pub child : Child g w c i j
  pub low : child_height child ≤ h

pub record ChildrenWithin (g : Grammar) (w : List ℕ) (h : ℕ) (s : List ℕ) (i j : ℕ) : Type 0 where
  pub children : Children g w s i j
  pub low : children_height children ≤ h

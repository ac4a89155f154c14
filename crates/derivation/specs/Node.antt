-- The nodes of a tree, in preorder.
use Rattle.std.specs.Prelude.{ℕ, suc, List, [], ◌∷◌, ◌++◌}
use Rattle.derivation.specs.Grammar.{Grammar}
use Rattle.derivation.specs.Tree.{Tree, Child, Children, node, token, category, stop, then}

-- kind 0 and a class, or kind 1 and a rule's number; then start and end
pub record NodeValue : Type 0 where
  pub kind : ℕ
  pub number : ℕ
  pub start : ℕ
  pub end : ℕ

abbrev pub token_node : ℕ → ℕ → ℕ → NodeValue
token_node c i j = record { kind = 0; number = c; start = i; end = j }

abbrev pub rule_node : ℕ → ℕ → ℕ → NodeValue
rule_node p i j = record { kind = 1; number = p; start = i; end = j }

-- a tree's nodes in preorder, children left to right
unfoldable mutual
  pub preorder : {g : Grammar} {w : List ℕ} {A i j : ℕ} → Tree g w A i j → List NodeValue
  preorder (node {i = i} {j = j} p r bs) = rule_node p i j ∷ children_preorder bs

  pub child_preorder : {g : Grammar} {w : List ℕ} {c i j : ℕ} → Child g w c i j → List NodeValue
  child_preorder (token {c} {i} k h e) = token_node c i (suc i) ∷ []
  child_preorder (category k t) = preorder t

  pub children_preorder : {g : Grammar} {w : List ℕ} {s : List ℕ} {i j : ℕ} → Children g w s i j → List NodeValue
  children_preorder (stop h) = []
  children_preorder (then b bs) = child_preorder b ++ children_preorder bs

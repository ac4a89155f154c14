-- The one tree that is shown, as its nodes in preorder, computed.
use Rattle.std.specs.Prelude.{ℕ, zero, suc, pred, ◌-◌, ◌&&◌, cond, List, [], ◌∷◌, ◌++◌, length, eqb, ltb}
use Rattle.derivation.specs.Grammar.{Grammar, rule_at}
use Rattle.derivation.specs.computed.Search.{first_from}
use Rattle.derivation.specs.computed.Round.{Known, child, children}
use Rattle.derivation.specs.computed.Table.{seen, depth_of}
use Rattle.derivation.specs.Node.{NodeValue, token_node, rule_node}

module _ (g : Grammar) (w : List ℕ) (depth : ℕ → ℕ → ℕ → ℕ) where
  -- the categories that may be children below depth h + 1: those with a depth of at most h
  unfoldable pub below : ℕ → Known
  below h A i j = seen h (depth A i j)

  -- the lowest-numbered rule of A that serves
  unfoldable pub chosen_rule : ℕ → ℕ → ℕ → ℕ → ℕ
  chosen_rule h A i j = first_from (λ p. eqb (rule_at g p).left A && children w (below h) (rule_at g p).right i j) 0 (length g.rules)

  -- the first end of symbol c from i after which symbols s reach j
  unfoldable pub chosen_end : ℕ → ℕ → List ℕ → ℕ → ℕ → ℕ
  chosen_end h c s i j = first_from (λ m. child w (below h) c i m && children w (below h) s m j) 0 (suc j)

  -- the nodes of symbols s from i to j, where `sub` gives those of a category
  unfoldable pub chosen_row : (ℕ → ℕ → ℕ → List NodeValue) → ℕ → List ℕ → ℕ → ℕ → List NodeValue
  chosen_row sub h [] i j = []
  chosen_row sub h (c ∷ s) i j =
      let m = chosen_end h c s i j in
      let child = sub (c - 128) i m in
      cond (ltb c 128) (token_node c i m ∷ []) child ++ chosen_row sub h s m j

  -- the nodes of (A, i, j), whose depth is at most k
  unfoldable pub chosen : ℕ → ℕ → ℕ → ℕ → List NodeValue
  chosen zero A i j = []
  chosen (suc k) A i j =
      let h = pred (depth A i j) in
      let p = chosen_rule h A i j in
      rule_node p i j ∷ chosen_row (chosen k) h (rule_at g p).right i j

-- the nodes shown for the fact (A, i, j)
unfoldable pub shown : Grammar → List ℕ → ℕ → ℕ → ℕ → List NodeValue
shown g w A i j = chosen g w (depth_of g w) (depth_of g w A i j) A i j

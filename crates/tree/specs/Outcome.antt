-- The one outcome of the tree question: the answer, and what all lent memory then holds.
use Rattle.refusals.specs.Check.{nothing_wrong}
use Rattle.std.specs.Prelude.{ℕ, ◌≤◌, ◌<◌, ◌≡◌, List, [], ◌∷◌, ◌++◌, length, drop, Err, Result}
use Rattle.refusals.specs.declared.Refusal.{Refusal}
use Rattle.refusals.specs.declared.Refusal.TheVariants.{TreeOfNoFact, TreeTooSmall}
use Rattle.refusals.specs.Order.{early}
use Rattle.refusals.specs.Told as told
use Rattle.derivation.specs.Tree.{Tree}
use Rattle.derivation.specs.Fact.{Fact}
use Rattle.derivation.specs.Node.{preorder}
use Rattle.derivation.specs.Choice.{Chosen}
use Rattle.grammar.specs.Given.{grammar_given}
use Rattle.filling.specs.Filled.{WorkFilled}
use Rattle.tree.specs.Bytes.{bytes}
use Rattle.tree.specs.Checks.{tree_checks}
use Rattle.tree.specs.Told.{tree_told}

pub data TreeOutcome (g line : List ℕ) (A i j : ℕ) (words depths out : List ℕ) (answer : Result ℕ Refusal) (words' depths' out' : List ℕ) : Type 0 where
  -- 1 to 9 and 14: the first refusal is the answer, and no lent memory changes
  turned_down : {refusal : Refusal} →
      early (tree_checks g line A i j words depths) ≡ Err refusal →
      answer ≡ Err refusal → words' ≡ words → depths' ≡ depths → out' ≡ out →
      TreeOutcome g line A i j words depths out answer words' depths' out'
  -- 10: (A, i, j) is no fact; the work memory is filled, and the output is as it was
  no_fact :
      early (tree_checks g line A i j words depths) ≡ nothing_wrong → (Fact (grammar_given g) line A i j → ⊥) →
      answer ≡ Err TreeOfNoFact →
      WorkFilled (grammar_given g) line words depths words' depths' → out' ≡ out →
      TreeOutcome g line A i j words depths out answer words' depths' out'
  -- 11: the bytes of the chosen tree have no room; the work memory is filled, and the output is as it was
  no_room : (t : Tree (grammar_given g) line A i j) →
      early (tree_checks g line A i j words depths) ≡ nothing_wrong → Chosen t → length out < length (bytes (preorder t)) →
      answer ≡ Err TreeTooSmall →
      WorkFilled (grammar_given g) line words depths words' depths' → out' ≡ out →
      TreeOutcome g line A i j words depths out answer words' depths' out'
  -- the node count of the chosen tree is told; the output begins with its nodes' bytes in preorder, and past them it is as it was
  shows : (t : Tree (grammar_given g) line A i j) →
      early (tree_checks g line A i j words depths) ≡ nothing_wrong → Chosen t → length (bytes (preorder t)) ≤ length out →
      tree_told answer ≡ told.answered (length (preorder t) ∷ []) →
      WorkFilled (grammar_given g) line words depths words' depths' →
      out' ≡ bytes (preorder t) ++ drop (length (bytes (preorder t))) out →
      TreeOutcome g line A i j words depths out answer words' depths' out'

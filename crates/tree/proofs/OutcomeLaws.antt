-- The outcome of the tree question, from what the checks, the filling and the showing gave.
use Rattle.std.proofs.Common.{Err, Result}
use Rattle.refusals.specs.Check.{nothing_wrong}
use Prim.Native.Nat.{ℕ}
use mathlib.Core.Path.{◌≡◌, refl, ap, ◌∙◌}
use mathlib.Core.List.{List, [], ◌∷◌, ◌++◌}
use native.Mathlib.Nat.{zero-add}
use lib.ListN.{length, drop}
use Rattle.refusals.specs.declared.Refusal.{Refusal}
use Rattle.refusals.specs.Order.{early}
use Rattle.refusals.specs.Told as told
use Rattle.derivation.specs.Grammar.{Proper}
use Rattle.derivation.specs.Tree.{Tree}
use Rattle.derivation.specs.Fact.{Fact}
use Rattle.derivation.specs.Node.{NodeValue, preorder}
use Rattle.derivation.specs.Choice.{Chosen}
use Rattle.derivation.proofs.Decide.{depth_exists}
use Rattle.derivation.proofs.Shown.{chosen_exists}
use Rattle.derivation.specs.computed.Shown.{shown}
use Rattle.checks.specs.declared.Asked.TheVariants.{Span}
use Rattle.grammar.specs.declared.reading.Sections.{Sections}
use Rattle.grammar.specs.Value.{grammar_of}
use Rattle.grammar.specs.Given.{grammar_given}
use Rattle.grammar.proofs.Encoded.{sections_proper}
use Rattle.filling.specs.Filled.{WorkFilled}
use Rattle.tree.specs.Bytes.{bytes, wrote}
use Rattle.chart.proofs.CheckLaws.{Passes, sections, grammar_is, early_passed}
use Rattle.tree.specs.Told.{tree_told}
use Rattle.tree.specs.Checks.{tree_checks}
use Rattle.tree.specs.inner.ShowOutcome.{ShowOutcome}
use Rattle.tree.specs.inner.ShowOutcome as shows
use Rattle.tree.specs.Outcome.{TreeOutcome}
use Rattle.tree.specs.Outcome as outcome

-- written from the beginning
wrote_first : (row written : List ℕ) → wrote row 0 written ≡ written ++ drop (length written) row
unfolding wrote
wrote_first row written = rw (zero-add (length written))

module _ (g line : List ℕ) (A i j : ℕ) (words depths out : List ℕ) where
  pub tree_turned : (refusal : Refusal) → early (tree_checks g line A i j words depths) ≡ Err refusal → TreeOutcome g line A i j words depths out (Err refusal) words depths out
  tree_turned refusal e = outcome.turned_down {refusal = refusal} e refl refl refl refl

  module _ (s : Sections) (passes : Passes g line (Span A i j) (length words) (length depths) s) {words' depths' : List ℕ} (filled : WorkFilled (grammar_of g s) line words depths words' depths') where
    work_is : WorkFilled (grammar_given g) line words depths words' depths'
    work_is = rw (grammar_is passes) filled

    passed : early (tree_checks g line A i j words depths) ≡ nothing_wrong
    passed = early_passed words depths nothing_wrong nothing_wrong passes

    proper : Proper (grammar_given g)
    proper = rw (grammar_is passes) (sections_proper g s (sections passes))

    -- a fact's chosen tree, whose nodes are shown
    chosen : Fact (grammar_given g) line A i j → (t : Tree (grammar_given g) line A i j) × Chosen t × (shown (grammar_given g) line A i j ≡ preorder t)
    chosen f =
        let r = chosen_exists (grammar_given g) line proper (depth_exists (grammar_given g) line f).1 in
        (r.0, r.1, r.3)

    showing : (answer : Result ℕ Refusal) (out' : List ℕ) → ShowOutcome (grammar_given g) line A i j out answer out' → TreeOutcome g line A i j words depths out answer words' depths' out'
    showing answer out' (shows.no_fact n q o) = outcome.no_fact passed n q work_is o
    showing answer out' (shows.no_room f l q o) = let c = chosen f in outcome.no_room c.0 passed c.1 (rw c.2 at l) q work_is o
    showing answer out' (shows.shows f l q o) =
        let c = chosen f in
        outcome.shows c.0 passed c.1 (rw c.2 at l) (ap tree_told q ∙ ap (λ (s : List NodeValue). told.answered (length s ∷ [])) c.2) work_is
        (o ∙ wrote_first out (bytes (shown (grammar_given g) line A i j)) ∙ ap (λ (s : List NodeValue). bytes s ++ drop (length (bytes s)) out) c.2)

    pub tree_shown : (answer : Result ℕ Refusal) (out' : List ℕ) → ShowOutcome (grammar_of g s) line A i j out answer out' → TreeOutcome g line A i j words depths out answer words' depths' out'
    tree_shown answer out' o = showing answer out' (rw (grammar_is passes) o)

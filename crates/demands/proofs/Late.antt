-- What is refused after the filling is told as the table says.
use Prim.Native.Nat.{ℕ, ◌<◌}
use mathlib.Core.Path.{◌≡◌, sym, ap, ◌∙◌}
use mathlib.Core.List.{List}
use native.Mathlib.Omega.{arith}
use lib.ListN.{length}
use Rattle.refusals.specs.declared.Refusal.{Refusal}
use Rattle.refusals.specs.declared.Refusal.TheVariants.{MarksTooSmall, ForestTooSmall}
use Rattle.refusals.specs.Row.{row_of}
use Rattle.refusals.specs.Told.{refused}
use Rattle.derivation.specs.Grammar.{Grammar}
use Rattle.derivation.specs.Tree.{Tree}
use Rattle.derivation.specs.Fact.{Fact}
use Rattle.derivation.specs.Branch.{BranchValue, ForestIs}
use Rattle.derivation.specs.Node.{NodeValue, preorder}
use Rattle.derivation.specs.Choice.{Chosen}
use Rattle.derivation.proofs.Choice.{chosen_unique}
use Rattle.derivation.proofs.Forest.{forest_unique}
use Rattle.checks.proofs.Laws.{one_refusal, not_both, reported_passed, too_small}
use Rattle.grammar.specs.Given.{grammar_given}
use Rattle.marks.specs.Told.{marks_told}
use Rattle.marks.specs.Outcome.{marks_checks}
use Rattle.marks.specs.Outcome as marks-outcome
use Rattle.tree.specs.Told.{tree_told}
use Rattle.tree.specs.Bytes.{bytes}
use Rattle.tree.specs.Outcome as tree_outcome
use Rattle.forest.specs.declared.Branch.{Branch}
use Rattle.forest.specs.Told.{forest_told}
use Rattle.forest.specs.Outcome as forest-outcome
use Rattle.demands.specs.Question.{Input, marks, tree, forest, Result, Allowed}
use Rattle.demands.specs.TurnedDown.{by, AllRight}
use Rattle.demands.proofs.AllRight.{given_is}
use Rattle.demands.proofs.Refusals.{right_passed}

module _ (x : Input) {G : Grammar} where
  module _ (row : List ℕ) (r : Result (marks row)) (right : AllRight G x (marks row)) where
    pub marks_told_lem : Allowed x (marks row) r → length row < length x.line → r.told ≡ refused (by 11 (length x.line))
    marks_told_lem (answer, tells, marks-outcome.turned_down e a w d m) l = absurd (not_both e (right_passed x (marks row) right))
    marks_told_lem (answer, tells, marks-outcome.no_room e k a y m) l =
        sym tells ∙ ap marks_told a ∙ ap (λ (z : Refusal). refused (row_of z)) (one_refusal k (too_small _ _ (MarksTooSmall (length x.line)) l))
    marks_told_lem (answer, tells, marks-outcome.answered e t y m) l =
        absurd (not_both (too_small _ _ (MarksTooSmall (length x.line)) l) (reported_passed (marks_checks x.grammar x.line x.words x.depths row) e).1)

  module _ (A i j : ℕ) (row : List ℕ) (r : Result (tree A i j row)) (right : AllRight G x (tree A i j row)) where
    abbrev same : grammar_given x.grammar ≡ G
    same = given_is right.grammar

    pub no_fact_told : Allowed x (tree A i j row) r → ¬ Fact G x.line A i j → r.told ≡ refused (by 10 0)
    no_fact_told (answer, tells, tree_outcome.turned_down e a w d o) n = absurd (not_both e (right_passed x (tree A i j row) right))
    no_fact_told (answer, tells, tree_outcome.no_fact e m a y o) n = sym tells ∙ ap tree_told a
    no_fact_told (answer, tells, tree_outcome.no_room t e c l a y o) n = absurd (n (rw same at t))
    no_fact_told (answer, tells, tree_outcome.shows t e c l a y o) n = absurd (n (rw same at t))

    -- the chosen tree of a grammar has no room
    abbrev TooLarge : Grammar → Type 0
    TooLarge H = (t : Tree H x.line A i j) × Chosen t × (length row < length (bytes (preorder t)))

    no_room_told : Allowed x (tree A i j row) r → TooLarge (grammar_given x.grammar) → r.told ≡ refused (by 11 0)
    no_room_told (answer, tells, tree_outcome.turned_down e a w d o) large = absurd (not_both e (right_passed x (tree A i j row) right))
    no_room_told (answer, tells, tree_outcome.no_fact e n a y o) large = absurd (n large.0)
    no_room_told (answer, tells, tree_outcome.no_room t e c l a y o) large = sym tells ∙ ap tree_told a
    no_room_told (answer, tells, tree_outcome.shows t e c l a y o) (u, d, k) =
        absurd (omega (arith, l, k, ap (λ (q : List NodeValue). length (bytes q)) (chosen_unique t u c d)))

    pub tree_told_lem : Allowed x (tree A i j row) r → TooLarge G → r.told ≡ refused (by 11 0)
    tree_told_lem allowed large = no_room_told allowed (rw (← same) at large)

  module _ (rows : List Branch) (r : Result (forest rows)) (right : AllRight G x (forest rows)) where
    pub forest_told_lem : Allowed x (forest rows) r → {records : List BranchValue} → ForestIs G x.line records → length rows < length records → r.told ≡ refused (by 11 (length records))
    forest_told_lem (answer, tells, forest-outcome.turned_down e a w d o) is l = absurd (not_both e (right_passed x (forest rows) right))
    forest_told_lem (answer, tells, forest-outcome.no_room e is' k a y o) is l =
        let one = forest_unique is' (rw (← given_is right.grammar) at is) in
        sym tells ∙ ap forest_told a ∙ ap (λ (z : List BranchValue). refused (row_of (ForestTooSmall (length z)))) one
    forest_told_lem (answer, tells, forest-outcome.answered e is' k a y o) is l =
        let one = forest_unique is' (rw (← given_is right.grammar) at is) in
        absurd (omega (arith, k, l, ap (λ (z : List BranchValue). length z) one))

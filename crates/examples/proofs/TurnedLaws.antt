-- A refused grammar: every question tells the refusal, and no lent memory changes.
use Rattle.std.proofs.Common.{Err}
use Prim.Native.Nat.{ℕ}
use mathlib.Core.Path.{◌≡◌, refl, sym}
use mathlib.Core.Bool.{true, false≢true}
use mathlib.Core.List.{List, []}
use Rattle.refusals.specs.declared.Refusal.{Refusal}
use Rattle.refusals.specs.Row.{row_of}
use Rattle.refusals.specs.Told.{Told, refused}
use Rattle.derivation.specs.Branch.{branch_numbers}
use Rattle.derivation.proofs.Tests.{and_parts}
use Rattle.grammar.specs.Reading.{read_of}
use Rattle.chart.proofs.OutcomeLaws.{chart_turned, ends_turned}
use Rattle.marks.proofs.OutcomeLaws.{marks_turned}
use Rattle.tree.specs.Bytes.{node_bytes, bytes}
use Rattle.tree.specs.Outcome as tree_outcome
use Rattle.forest.specs.Outcome as forest-outcome
use Rattle.examples.specs.Entry.{Question, chart, ends, marks, tree, forest, Work, as_before, holding}
use Rattle.examples.specs.Claim.{OutcomeIs}
use Rattle.examples.proofs.Test.{same, same_by, same_told, writes_nothing, turned_test}
use Rattle.examples.proofs.OnlyLaws.{chart_only, ends_only, marks_only, tree_only, forest_only}
use Rattle.examples.proofs.TestLaws.{same_is, same_by_lem, node_one, branch_one, told_is}

module _ (g line : List ℕ) (refusal : Refusal) (read : read_of g ≡ Err refusal) where
  pub turned_holds : (question : Question) (told : Told) (work : Work) → turned_test g line question told work refusal ≡ true → OutcomeIs g line question told work
  unfolding turned_test writes_nothing bytes
  turned_holds question told (holding facts) ok = absurd (false≢true ok)
  turned_holds chart told as_before ok = λ words depths lent.
      chart_only (Err refusal, sym (told_is told _ ok), chart_turned g line words depths refusal (rw read))
  turned_holds (ends A i) told as_before ok = λ words depths lent.
      ends_only (Err refusal, sym (told_is told _ ok), ends_turned g line words depths A i refusal (rw read))
  turned_holds (marks new) told as_before ok = λ words depths row lent room.
      let p = and_parts (same new []) (same_told told (refused (row_of refusal))) ok in
      marks_only (Err refusal, sym (told_is told _ p.1), rw (same_is new [] p.0) (marks_turned g line words depths row refusal (rw read)))
  turned_holds (tree A i j nodes) told as_before ok = λ words depths row lent room.
      let p = and_parts (same_by node_bytes nodes []) (same_told told (refused (row_of refusal))) ok in
      let none = same_by_lem node_bytes node_one nodes [] p.0 in
      tree_only (Err refusal, sym (told_is told _ p.1), tree_outcome.turned_down {refusal = refusal} (rw read) refl refl refl (rw none))
  turned_holds (forest branches) told as_before ok = λ words depths rows lent room.
      let p = and_parts (same_by branch_numbers branches []) (same_told told (refused (row_of refusal))) ok in
      let none = same_by_lem branch_numbers branch_one branches [] p.0 in
      forest_only (Err refusal, sym (told_is told _ p.1), forest-outcome.turned_down {refusal = refusal} (rw read) refl refl refl (rw none))

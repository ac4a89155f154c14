-- At each `return` what the checks, the filling, the counting and the writing gave is the outcome.
use Rattle.std.proofs.lemmas.Result.{err_from_is_err_and}
use Rattle.refusals.specs.Check.{nothing_wrong}
use Rattle.checks.specs.declared.Asked.TheVariants.{Nothing}
use Rattle.chart.proofs.CheckLaws.{checked_refused, passed, fillable}
use Rattle.forest.proofs.OutcomeLaws.{forest_turned, charted, forest_crowded, forest_written}
use Rattle.forest.proofs.forest.Goals as goal

pub returns-in_err-grammar : goal.returns-in_err-grammar
returns-in_err-grammar c =
    let p = err_from_is_err_and c.from_residual.result c.from_residual.ensures.1 in
    let a = c.args in
    rw (p.1, p.2) (forest_turned _ _ _ _ _ (checked_refused a.g.now a.line.now Nothing a.words.now a.depths.now nothing_wrong nothing_wrong _ c.in_err-grammar.ensures))

pub fill-requires : goal.fill-requires
fill-requires c = fillable (passed c.in_ok-grammar.ensures.0)

pub invariant_of-chart : goal.invariant_of-chart
invariant_of-chart c = record { charted = ∣ charted (passed c.in_ok-grammar.ensures.0) c.fill.ensures.work ∣₁ }

pub returns-then-rows-count : goal.returns-then-rows-count
returns-then-rows-count c =
    let e = c.in_ok-grammar.ensures in
    forest_crowded (passed e.0) (rw e.1 at c.fill.ensures.work) _ (rw e.1 at c.count_records-count.ensures) c.if-rows-count.true

pub returns : goal.returns
returns c =
    let e = c.in_ok-grammar.ensures in
    forest_written (passed e.0) (rw e.1 at c.fill.ensures.work) _ (rw e.1 at c.count_records-count.ensures) c.if-rows-count.false (rw e.1 at c.write_records.ensures)

-- At each `return` what the checks and the filling gave is the outcome.
use Rattle.std.proofs.Common.{◌≤◌, length, arith, length-take-le, ◌∙◌}
use Rattle.std.proofs.lemmas.Result.{err_from_is_err_and}
use Rattle.refusals.specs.Check.{nothing_wrong}
use Rattle.checks.specs.declared.Asked.TheVariants.{Nothing}
use Rattle.checks.specs.Memory.{chart_size}
use Rattle.checks.proofs.Laws.{chart_small}
use Rattle.chart.proofs.CountLaws.{total_front}
use Rattle.chart.proofs.CheckLaws.{checked_refused, passed, line_is, memory_is, fillable, categories_few}
use Rattle.chart.proofs.OutcomeLaws.{chart_turned, chart_filled}
use Rattle.chart.proofs.chart.Goals as goal

pub returns-in_err-grammar : goal.returns-in_err-grammar
returns-in_err-grammar c =
    let p = err_from_is_err_and c.from_residual.result c.from_residual.ensures.1 in
    let a = c.args in
    rw (p.1, p.2) (chart_turned _ _ _ _ _ (checked_refused a.g.now a.line.now Nothing a.words.now a.depths.now nothing_wrong nothing_wrong _ c.in_err-grammar.ensures))

pub fill-rounds-requires : goal.fill-rounds-requires
fill-rounds-requires c = fillable (passed c.in_ok-grammar.ensures.0)

pub count_ends-facts-requires : goal.count_ends-facts-requires
count_ends-facts-requires c =
    let p = passed c.in_ok-grammar.ensures.0 in
    let room : chart_size c.in_ok-grammar.grammar.view.sections.categories (length c.args.line.now) ≤ length c.fill-rounds.new.words = omega (arith, (memory_is p).0, c.fill-rounds.ensures.work.words_long) in
    omega (arith, length-take-le _ _ room, chart_small _ _ (categories_few p) (line_is p).short)

pub returns : goal.returns
returns c =
    let p = passed c.in_ok-grammar.ensures.0 in
    let room : chart_size c.in_ok-grammar.grammar.view.sections.categories (length c.args.line.now) ≤ length c.fill-rounds.new.words = omega (arith, (memory_is p).0, c.fill-rounds.ensures.work.words_long) in
    chart_filled _ _ _ _ _ _ _ _ _ p (rw c.in_ok-grammar.ensures.1 at c.fill-rounds.ensures) (c.count_ends-facts.ensures ∙ total_front _ _ room)

-- Each turn counts one more place; few are counted in all.
use Rattle.std.proofs.Common.{◌+◌, sym, arith}
use Rattle.derivation.proofs.Totals.{total_none, total_next}
use Rattle.grammar.specs.Value.{standing}
use Rattle.grammar.specs.Checked.{grammar_in}
use Rattle.forest.specs.inner.Count.{place_count}
use Rattle.forest.proofs.ChartLaws.{opened}
use Rattle.forest.proofs.CountLaws.{rule_le}
use Rattle.forest.proofs.place.Chart.count_rule.Goals as goal

pub loop-d-init : goal.loop-d-init
loop-d-init c = sym (total_none _)

pub overflow_add-records : goal.overflow_add-records
overflow_add-records c =
    let chart = c.args.self.now in
    let right = (standing chart.grammar.view.bytes.now c.args.at).right in
    let few = rule_le (grammar_in chart.grammar) chart.line.now right (opened chart.charted).is_line.short (c.loop-d.d + 1) (omega arith) in
    omega (arith, few, total_next (place_count (grammar_in chart.grammar) chart.line.now right) c.loop-d.d)

pub loop-d-preserved : goal.loop-d-preserved
loop-d-preserved c =
    let chart = c.args.self.now in
    omega (arith, total_next (place_count (grammar_in chart.grammar) chart.line.now (standing chart.grammar.view.bytes.now c.args.at).right) c.loop-d.d)

-- Each turn counts one more start; few are counted in all.
use Rattle.std.proofs.Common.{◌≡◌, suc, ◌+◌, length, sym, ap, arith}
use Rattle.derivation.specs.computed.FactCount.{total}
use Rattle.derivation.proofs.Totals.{total_none, total_next}
use Rattle.grammar.specs.Value.{standing}
use Rattle.grammar.specs.Checked.{grammar_in}
use Rattle.forest.specs.inner.Count.{start_count}
use Rattle.forest.proofs.EndsLaws.{chart_of}
use Rattle.forest.proofs.CountLaws.{place_le}
use Rattle.forest.proofs.place.Place.count.Goals as goal

pub loop-start-init : goal.loop-start-init
loop-start-init c = sym (total_none _)

pub overflow_add-records : goal.overflow_add-records
overflow_add-records c =
    let place = c.args.self.now in
    let few = place_le (grammar_in place.chart.now.grammar) place.chart.now.line.now (chart_of place).is_line.short (standing place.chart.now.grammar.view.bytes.now place.at).right place.d (c.loop-start.start + 1) (omega arith) in
    omega (arith, few, total_next (start_count (grammar_in place.chart.now.grammar) place.chart.now.line.now (standing place.chart.now.grammar.view.bytes.now place.at).right place.d) c.loop-start.start)

pub loop-start-preserved : goal.loop-start-preserved
loop-start-preserved c =
    let place = c.args.self.now in
    omega (arith, total_next (start_count (grammar_in place.chart.now.grammar) place.chart.now.line.now (standing place.chart.now.grammar.view.bytes.now place.at).right place.d) c.loop-start.start)

-- the last start is counted at the return
pub returns-2 : goal.returns-2
returns-2 c =
    let place = c.args.self.now in
    let all : c.loop-start.start + 1 ≡ suc (length place.chart.now.line.now) = omega arith in
    let counts = start_count (grammar_in place.chart.now.grammar) place.chart.now.line.now (standing place.chart.now.grammar.view.bytes.now place.at).right place.d in
    omega (arith, total_next counts c.loop-start.start, ap (total counts) all)

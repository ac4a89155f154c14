-- `records` is the total of the starts below this one.
use Rattle.std.proofs.Common.{◌≡◌}
use Rattle.derivation.specs.computed.FactCount.{total}
use Rattle.grammar.specs.Value.{standing}
use Rattle.grammar.specs.Checked.{grammar_in}
use Rattle.forest.specs.inner.Count.{start_count}
use Rattle.forest.proofs.place.Place.count.Given as goal

abbrev pub invariant-loop-start : goal.invariant-loop-start
invariant-loop-start l = l.records ≡ total (start_count (grammar_in l.self.chart.now.grammar) l.self.chart.now.line.now (standing l.self.chart.now.grammar.view.bytes.now l.self.at).right l.self.d) l.start

-- `records` is the total of the symbols below d.
use Rattle.std.proofs.Common.{◌≡◌}
use Rattle.derivation.specs.computed.FactCount.{total}
use Rattle.grammar.specs.Value.{standing}
use Rattle.grammar.specs.Checked.{grammar_in}
use Rattle.forest.specs.inner.Count.{place_count}
use Rattle.forest.proofs.place.Chart.count_rule.Given as goal

abbrev pub invariant-loop-d : goal.invariant-loop-d
invariant-loop-d l = l.records ≡ total (place_count (grammar_in l.self.grammar) l.self.line.now (standing l.self.grammar.view.bytes.now l.at).right) l.d

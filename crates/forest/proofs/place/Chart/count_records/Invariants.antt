-- This rule stands here, and `records` is the total of the rules before it.
use Rattle.std.proofs.Common.{◌≡◌}
use Rattle.derivation.specs.computed.FactCount.{total}
use Rattle.grammar.specs.Value.{start_of}
use Rattle.grammar.specs.Checked.{grammar_in}
use Rattle.forest.proofs.CountLaws.{numbered_records}
use Rattle.forest.proofs.place.Chart.count_records.Given as goal

abbrev pub invariant-loop-rule : goal.invariant-loop-rule
invariant-loop-rule l = record {
  place : l.at ≡ start_of l.self.grammar.view.bytes.now l.rule l.self.grammar.view.sections.first;
  records : l.records ≡ total (numbered_records (grammar_in l.self.grammar) l.self.line.now) l.rule;
}

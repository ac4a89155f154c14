-- This rule stands here, and the records of the rules before it are written.
use Rattle.std.proofs.Common.{◌≡◌}
use Rattle.derivation.specs.computed.Listing.{gathered}
use Rattle.grammar.specs.Value.{start_of}
use Rattle.forest.specs.inner.Writing.{rule_rows, Front}
use Rattle.forest.proofs.place.Chart.write_records.Given as goal

abbrev pub invariant-loop-rule : goal.invariant-loop-rule
invariant-loop-rule l = record {
  place : l.at ≡ start_of l.self.grammar.view.bytes.now l.rule l.self.grammar.view.sections.first;
  front : Front (gathered l.rule (rule_rows l.self)) l.initial.rows l.rows l.written;
}

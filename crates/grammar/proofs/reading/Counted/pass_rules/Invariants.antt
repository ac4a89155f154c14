-- The rules so far are kept on the chains, and those that are left give what all give.
use Rattle.std.proofs.Common.{◌≡◌}
use Rattle.grammar.proofs.Passing.{SoFar}
use Rattle.grammar.proofs.reading.Counted.pass_rules.Given as goal

abbrev pub invariant-loop : goal.invariant-loop
invariant-loop l = record {
  count : l.chains.count ≡ l.counter;
  so_far : SoFar l.self.bytes.now l.self.classes l.self.categories l.count l.first l.chains.words l.chains.before l.chains.latest l.here l.counter;
}

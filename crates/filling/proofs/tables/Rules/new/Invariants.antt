-- The next rule stands here, and those passed stand where they are to, with their masks.
use Rattle.std.proofs.Common.{◌≡◌, length}
use Rattle.grammar.specs.Value.{start_of}
use Rattle.filling.proofs.TableLaws.{RulesBefore}
use Rattle.filling.proofs.tables.Rules.new.Given as goal

abbrev pub invariant-loop-entry : goal.invariant-loop-entry
invariant-loop-entry l = record {
  many : l.entry-index-end ≡ l.grammar.view.sections.rules;
  long : length l.entry-items ≡ l.grammar.view.sections.rules;
  here : l.at ≡ start_of l.bytes l.entry-index l.initial.at;
  before : RulesBefore l.bytes l.initial.at l.entry-index l.entry-items;
}

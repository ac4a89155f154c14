-- The next rule stands here, and the entries so far are where the rules before it stand.
use Rattle.std.proofs.Common.{◌≡◌, ℕ, ◌<◌, length, get_or}
use Rattle.grammar.specs.Value.{start_of}
use Rattle.grammar.proofs.view.Checked.rule_starts.Given as goal

abbrev pub invariant-loop-start : goal.invariant-loop-start
invariant-loop-start l = record {
  many : l.start-index-end ≡ l.self.view.sections.rules;
  long : length l.start-items ≡ l.self.view.sections.rules;
  here : l.at ≡ start_of l.bytes l.start-index l.initial.at;
  done : (q : ℕ) → q < l.start-index → get_or l.start-items q 0 ≡ start_of l.bytes q l.initial.at;
}

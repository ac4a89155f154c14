-- No rule before this one serves; of its symbols, the ends of the first d are chosen.
use Rattle.std.proofs.Common.{◌≤◌}
use Rattle.derivation.specs.computed.Table.{depth_of}
use Rattle.derivation.specs.computed.Shown.{chosen_rule}
use Rattle.grammar.specs.Checked.{grammar_in}
use Rattle.tree.specs.inner.Searched.{child_limit}
use Rattle.tree.proofs.SearchLaws.{SearchTurn}
use Rattle.tree.proofs.search.Search.node.Given as goal

abbrev pub invariant-loop-d : goal.invariant-loop-d
invariant-loop-d l =
    let G = grammar_in l.self.grammar in
    let line = l.self.kept.line.now in
    SearchTurn G line (child_limit G line l.span) l.symbols l.span.start l.span.end l.ends l.m l.d

abbrev pub invariant-rules : goal.invariant-rules
invariant-rules l =
    let G = grammar_in l.self.grammar in
    let line = l.self.kept.line.now in
    l.number ≤ chosen_rule G line (depth_of G line) (child_limit G line l.span) l.span.category l.span.start l.span.end

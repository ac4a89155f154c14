-- What holds after as many rounds as the depth; there are at most 2048.
use Rattle.std.proofs.Common.{◌-◌, ◌≤◌}
use Rattle.grammar.specs.Checked.{grammar_in}
use Rattle.filling.proofs.FillLaws.{Done}
use Rattle.filling.proofs.rounds.fill.Given as goal

abbrev pub invariant-loop-changed : goal.invariant-loop-changed
invariant-loop-changed l = record {
  few : l.depth ≤ 2049;
  done : Done (grammar_in l.grammar) l.line l.depth l.changed l.fn.words l.fn.depths l.words l.next l.depths;
}

abbrev pub decreases-loop-changed : goal.decreases-loop-changed
decreases-loop-changed l = 2049 - l.depth

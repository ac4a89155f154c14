use Rattle.grammar.specs.Checked.{grammar_in}
use Rattle.marks.proofs.ReachLaws.{ReachesBelow}
use Rattle.marks.proofs.reach_from.Given as goal

-- the secret categories below a are seen
abbrev pub invariant-loop-a : goal.invariant-loop-a
invariant-loop-a l = ReachesBelow (grammar_in l.grammar) l.words l.width l.start l.a l.far l.reach

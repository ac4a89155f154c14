-- Of the set, the members that have left are still to be tried.
use Rattle.tree.proofs.DivisionLaws.{ClassTurn}
use Rattle.tree.proofs.kept.Kept.class_starts.Given as goal

abbrev pub invariant-loop-e : goal.invariant-loop-e
invariant-loop-e l = ClassTurn l.self.line.now l.class l.set l.start l.e-iterator.left l.starts

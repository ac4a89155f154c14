-- The rows of the categories passed are committed.
use Rattle.filling.specs.inner.Gained.{AllCommitted}
use Rattle.filling.proofs.commit.Round.commit.Given as goal

abbrev pub invariant-loop-a : goal.invariant-loop-a
invariant-loop-a l = AllCommitted l.a l.self.width l.self.depth l.initial.words l.self.next.now l.initial.depths l.words l.depths l.changed

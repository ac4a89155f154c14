-- The rows passed are committed.
use Rattle.std.proofs.Common.{◌≤◌, max}
use Rattle.filling.specs.inner.Gained.{RowsCommitted}
use Rattle.filling.proofs.commit.Round.commit_rows.Given as goal

abbrev pub invariant-loop-q : goal.invariant-loop-q
invariant-loop-q l = record {
  inside : l.q ≤ max l.fn.from l.fn.to;
  rows : RowsCommitted l.fn.from l.q l.self.width l.self.depth l.initial.words l.self.next.now l.initial.depths l.words l.depths l.gained;
}

-- A row without members, and one whose largest member is its last.
use Rattle.marks.proofs.ReachLaws.{row_empty, row_further}
use Rattle.marks.proofs.reach_of.Goals as goal

pub returns-then-row-eq0 : goal.returns-then-row-eq0
returns-then-row-eq0 c = rw c.if-row-eq0.true (row_empty _)

pub returns : goal.returns
returns c = rw c.max.ensures (row_further _ _ _ c.last.ensures)

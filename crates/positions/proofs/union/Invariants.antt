-- Where the set leads is gathered, or what is left of it leads there. The inner loop takes the members of a run, one after the other.
use Rattle.std.proofs.Common.{ℕ, ◌+◌, ◌^◌, ◌≤◌, ◌<◌}
use Rattle.positions.specs.Member.{Member}
use Rattle.positions.proofs.Unions.{Gathered, RowLeads, From}
use Rattle.positions.proofs.union.Given as goal

abbrev pub invariant-loop-row : goal.invariant-loop-row
invariant-loop-row l = Gathered (RowLeads l.rows l.base l.from l.width) (Member l.set) (From l.left (l.m + l.row-index)) l.all

abbrev pub invariant-loop-left : goal.invariant-loop-left
invariant-loop-left l = record {
  word : l.left < 2 ^ 64;
  gathered : Gathered (RowLeads l.rows l.base l.from l.width) (Member l.set) (Member l.left) l.all;
  bounds : (m : ℕ) → Member l.left m → (l.from ≤ m) × (m < l.width);
}

abbrev pub decreases-loop-left : goal.decreases-loop-left
decreases-loop-left l = l.left

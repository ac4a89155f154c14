use Rattle.std.proofs.Common.{◌≡◌, get_or}
use Rattle.positions.specs.Count.{count_below}
use Rattle.derivation.specs.computed.FactCount.{total}
use Rattle.chart.proofs.work.count_ends.Given as goal

-- the total of the rows so far
abbrev pub invariant-loop-row : goal.invariant-loop-row
invariant-loop-row l = l.ends ≡ total (λ q. count_below 64 (get_or l.rows q 0)) l.row-index

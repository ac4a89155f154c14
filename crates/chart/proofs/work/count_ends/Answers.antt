-- The total of one row more; each row shows at most 64 ends.
use Rattle.std.proofs.Common.{ℕ, get_or, arith, sym}
use Rattle.positions.specs.Count.{count_below}
use Rattle.positions.proofs.Counts.{count_le}
use Rattle.derivation.proofs.Totals.{total_none, total_next, total_le}
use Rattle.chart.proofs.work.count_ends.Goals as goal

pub loop-row-init : goal.loop-row-init
loop-row-init c = sym (total_none _)

pub overflow_add-ends : goal.overflow_add-ends
overflow_add-ends c =
    let l = c.loop-row in
    let shown : ℕ → ℕ = λ q. count_below 64 (get_or c.args.rows.now q 0) in
    omega (arith, total_le shown 64 l.row-index (λ q. count_le 64 _), l.invariant)

pub loop-row-preserved : goal.loop-row-preserved
loop-row-preserved c =
    let l = c.loop-row in
    let shown : ℕ → ℕ = λ q. count_below 64 (get_or c.args.rows.now q 0) in
    omega (arith, total_next shown l.row-index, l.invariant, c.count.ensures)

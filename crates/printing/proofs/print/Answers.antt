-- `printing::print`: each piece asked for was written and is in the row, and printing ends as it must.
use Rattle.std.proofs.Common.{ap, refl, ℕ, ◌+◌}
use Rattle.std.proofs.lemmas.Result.{err_from_is_err_and}
use Rattle.printing.proofs.Laws.{reached_none, reached_next, ended_whole, ended_unwritten}
use Rattle.printing.proofs.print.Goals as goal

pub loop-progress-init : goal.loop-progress-init
loop-progress-init c = (refl, reached_none _ _)

pub loop-progress-preserved : goal.loop-progress-preserved
loop-progress-preserved c =
    let next = c.in_ok-progress.ensures in
    (next.written_after, reached_next c.loop-progress.invariant.1 c.loop-progress-test.true next.asked_value next.more_value c.print_next.ensures.out_after)

pub returns-in_err-progress : goal.returns-in_err-progress
returns-in_err-progress c =
    let end = err_from_is_err_and c.from_residual.result c.from_residual.ensures.1 in
    let next = c.in_err-progress.ensures in
    let asked = ap (λ (n : ℕ). n + 1) next.asked_value in
    rw (end.1, end.2) (ended_unwritten (reached_next c.loop-progress.invariant.1 c.loop-progress-test.true asked next.more_value c.print_next.ensures.out_after))

pub returns : goal.returns
returns c = ended_whole c.loop-progress.invariant.1 c.loop-progress-test.false

-- `printing::print`. The loop's invariant: every piece asked for was written, and what the row holds of them. The measure is how many are left.
use Rattle.std.proofs.Common.{◌≡◌, ◌-◌, true, length}
use Rattle.report.specs.Printed.{pieces}
use Rattle.printing.proofs.Laws.{Reached}
use Rattle.printing.proofs.print.Given as goal

abbrev pub invariant-loop-progress : goal.invariant-loop-progress
invariant-loop-progress l = (l.progress.written ≡ true) × Reached l.input l.initial.out l.out l.progress.asked l.progress.more

abbrev pub decreases-loop-progress : goal.decreases-loop-progress
decreases-loop-progress l = length (pieces l.input) - l.progress.asked

-- `lines::writing::Page::digits`: a digit more has room, and is printed after those before.
use Rattle.std.proofs.Common.{arith}
use Rattle.lines.proofs.WriteLaws.{printed_none, printed_then, digits_more}
use Rattle.lines.proofs.writing.Page.digits.Goals as goal

pub loop-mark-init : goal.loop-mark-init
loop-mark-init c = printed_none _ (omega arith)

pub loop-mark-preserved : goal.loop-mark-preserved
loop-mark-preserved c = rw (digits_more c.args.marks.now c.loop-mark.mark-index (omega arith)) (printed_then c.loop-mark.invariant c.bytes.ensures)

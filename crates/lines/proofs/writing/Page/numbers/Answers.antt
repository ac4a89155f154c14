-- `lines::writing::Page::numbers`: a space and the next number have room, and are printed after those before.
use Rattle.std.proofs.Common.{arith}
use Rattle.lines.specs.Lines.{spaced}
use Rattle.lines.proofs.WriteLaws.{printed_none, printed_then, numbers_more, numbers_room}
use Rattle.lines.proofs.writing.Page.numbers.Goals as goal

pub loop-number-init : goal.loop-number-init
unfolding spaced
loop-number-init c = printed_none _ (omega (arith, c.requires))

pub bytes-requires : goal.bytes-requires
bytes-requires c = omega (arith, c.requires, numbers_room c.args.numbers.now c.loop-number.number-index (omega arith))

pub decimal-requires : goal.decimal-requires
decimal-requires c = omega (arith, c.requires, numbers_room c.args.numbers.now c.loop-number.number-index (omega arith))

pub loop-number-preserved : goal.loop-number-preserved
loop-number-preserved c =
    rw (numbers_more c.args.numbers.now c.loop-number.number-index (omega arith))
    (printed_then c.loop-number.invariant (printed_then c.bytes.ensures c.decimal.ensures))

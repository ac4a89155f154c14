-- `lines::writing::Page::digits`: the digits of the marks up to the index are printed.
use Rattle.std.proofs.Common.{map, take}
use Rattle.lines.specs.Decimal.{digit_code}
use Rattle.lines.specs.inner.Printed.{Printed}
use Rattle.lines.proofs.writing.Page.digits.Given as goal

abbrev pub invariant-loop-mark : goal.invariant-loop-mark
invariant-loop-mark l = Printed l.initial.self (map digit_code (take l.mark-index l.marks)) l.self

-- `lines::writing::Page::numbers`: the numbers up to the index are printed.
use Rattle.lines.specs.inner.Printed.{Printed}
use Rattle.lines.proofs.WriteLaws.{numbers_to}
use Rattle.lines.proofs.writing.Page.numbers.Given as goal

abbrev pub invariant-loop-number : goal.invariant-loop-number
invariant-loop-number l = Printed l.initial.self (numbers_to l.numbers l.number-index) l.self

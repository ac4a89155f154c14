-- `lines::writing::Page::facts`: what is printed of the numbers up to the index.
use Rattle.derivation.specs.computed.Listing.{gathered}
use Rattle.lines.specs.inner.Printed.{Printed}
use Rattle.lines.specs.inner.Listing.{fact_line_at}
use Rattle.lines.proofs.writing.Page.facts.Given as goal

abbrev pub invariant-loop-q : goal.invariant-loop-q
invariant-loop-q l = Printed l.initial.self (gathered l.q (fact_line_at l.depths l.width)) l.self

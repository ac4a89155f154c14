-- `report::sections::refused_line`: the row's two numbers have room in the line.
use Rattle.std.proofs.Common.{arith, sym, ◌∷◌, []}
use Rattle.lines.specs.Lines.{text, line_of, numbered}
use Rattle.lines.proofs.LineLaws.{line_few}
use Rattle.report.specs.Printed.{refused_line}
use Rattle.report.proofs.sections.refused_line.Goals as goal

pub line-requires : goal.line-requires
line-requires c = omega (arith, line_few 19 (c.from-row.result.number ∷ c.from-row.result.place ∷ []) (omega arith, (omega arith, tt)))

pub returns-clause-printed : goal.returns-clause-printed
unfolding refused_line numbered line_of text
returns-clause-printed c = rw (sym c.from-row.ensures) c.line.ensures

pub returns-clause-short : goal.returns-clause-short
returns-clause-short c = omega (arith, line_few 19 (c.from-row.result.number ∷ c.from-row.result.place ∷ []) (omega arith, (omega arith, tt)))

-- `lines::writing::Page::rounds`: the words and the numbers one after the other.
use Rattle.std.proofs.Common.{arith, sym, ◌∷◌, []}
use Rattle.lines.specs.Lines.{text}
use Rattle.lines.proofs.WriteLaws.{printed_then}
use Rattle.lines.proofs.LineLaws.{spaced_few, line_few, rounds_parts}
use Rattle.lines.proofs.writing.Page.rounds.Goals as goal

pub numbers-requires : goal.numbers-requires
numbers-requires c = omega (arith, spaced_few 19 (c.args.rounds ∷ []) (omega arith, tt))

pub line-requires : goal.line-requires
line-requires c = omega (arith, spaced_few 19 (c.args.rounds ∷ []) (omega arith, tt), line_few 19 (c.args.facts ∷ []) (omega arith, tt))

pub returns : goal.returns
unfolding text
returns c = rw (sym (rounds_parts c.args.rounds c.args.facts)) (printed_then c.bytes.ensures (printed_then c.numbers.ensures c.line.ensures))

-- `lines::writing::Page::line`: the word, the numbers and byte 10 one after the other.
use Rattle.lines.proofs.WriteLaws.{printed_then}
use Rattle.lines.proofs.writing.Page.line.Goals as goal

pub returns : goal.returns
returns c = printed_then c.bytes.ensures (printed_then c.numbers.ensures c.bytes-2.ensures)

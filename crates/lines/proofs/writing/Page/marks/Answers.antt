-- `lines::writing::Page::marks`: the word, the digits and byte 10 one after the other.
use Rattle.std.proofs.Common.{rules, sym}
use Rattle.lines.specs.Lines.{text}
use Rattle.lines.proofs.WriteLaws.{printed_then}
use Rattle.lines.proofs.LineLaws.{marks_none, marks_parts}
use Rattle.lines.proofs.writing.Page.marks.Goals as goal
use Rattle.lines.proofs.writing.Page.marks.Goals.{then-not-is_empty, else-not-is_empty}

pub returns : goal.returns
unfolding text
returns c =
    elim c.if-not-is_empty.branch [
      | then-not-is_empty w ↦
          let last = rw w.self-is at c.bytes-2.ensures in
          rw (sym (marks_parts c.args.marks.now (search rules)))
          (printed_then c.bytes.ensures (printed_then w.bytes-then-not-is_empty.ensures (printed_then w.digits.ensures last)))
      | else-not-is_empty w ↦
          let last = rw w.self-is at c.bytes-2.ensures in
          rw (sym (marks_none c.args.marks.now (search rules))) (printed_then c.bytes.ensures last)
    ]

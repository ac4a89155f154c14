-- `report::sections::CheckedJob::write_marked`: the line of the marks that the question answers.
use Rattle.std.proofs.Common.{arith, rules, ℕ, ◌<◌, length, length-take, sym}
use Rattle.std.proofs.lemmas.List.{length-replicate, get_or-take}
use Rattle.lines.proofs.WriteLaws.{printed_stored}
use Rattle.report.specs.Printed.{marks_line}
use Rattle.chart.proofs.CheckLaws.{passed}
use Rattle.report.proofs.AnswerLaws.{ready_short, marks_answered}
use Rattle.report.proofs.sections.CheckedJob.write_marked.Goals as goal

pub slice_bounds-marked-end : goal.slice_bounds-marked-end
slice_bounds-marked-end c = omega (arith, ready_short (passed c.args.self.passes), c.marks.auto.marks, length-replicate {A = ℕ} 63 0)

pub slice_bounds-answered-end : goal.slice_bounds-answered-end
slice_bounds-answered-end c = omega (arith, ready_short (passed c.args.self.passes), c.marks.auto.marks, length-replicate {A = ℕ} 63 0, length-take {A = ℕ})

pub marks-requires-2-clause-bits : goal.marks-requires-2-clause-bits
marks-requires-2-clause-bits c t h =
    let passes = passed c.args.self.passes in
    let marked = marks_answered passes (length-replicate {A = ℕ} 512 0) (length-replicate {A = ℕ} 16384 0) (length-replicate {A = ℕ} 63 0) c.marks.ensures in
    let l : t < length c.args.self.line.now = omega (arith, length-take {A = ℕ}) in
    rw (get_or-take (length c.args.self.line.now) c.marks.new.marks t 0 l) (marked.2 t l)

pub returns : goal.returns
unfolding marks_line
returns c =
    let passes = passed c.args.self.passes in
    let marked = marks_answered passes (length-replicate {A = ℕ} 512 0) (length-replicate {A = ℕ} 16384 0) (length-replicate {A = ℕ} 63 0) c.marks.ensures in
    rw (sym marked.0) (printed_stored c.marks-2.ensures (search rules))

-- `report::answer_piece`: each number has the piece that stands there.
use Rattle.std.proofs.Common.{arith}
use Rattle.report.proofs.PieceLaws.{piece_stored, piece_none, answers_more, first_answer, second_answer, later_answer, no_answer}
use Rattle.report.proofs.answer_piece.Goals as goal
use Rattle.report.proofs.answer_piece.Goals.{in-0, in-1, in_default+in-Some, in_default+in-None}

pub returns : goal.returns
returns c =
    let a = c.args in
    let follows = answers_more a.job.grammar.view.bytes.now a.job.line.now a.questions.now a.number in
    elim c.match-number.branch [
      | in-0 w ↦ rw (w.out-is, w.length-is) (piece_stored _ a.number _ follows _ (rw w.in-0.is (first_answer _ _ _)) w.write_chart-length.ensures)
      | in-1 w ↦ rw (w.out-is, w.length-is) (piece_stored _ a.number _ follows _ (rw w.in-1.is (second_answer _ _ _)) w.write_marked-length.ensures)
      | in_default+in-Some w ↦
          let found = w.in-Some.ensures in
          rw (w.out-is, w.length-is) (piece_stored _ a.number _ follows _ (later_answer _ _ _ a.number w.in-Some.asked.now (omega arith) found.0 found.1) w.write_tree.ensures)
      | in_default+in-None w ↦
          rw (w.out-is, w.length-is) (piece_none _ a.number _ follows (no_answer _ _ _ a.number (omega arith) w.in-None.ensures))
    ]

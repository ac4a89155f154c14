-- The chart's refusal is what the first checks found; where they pass, the answers follow.
use Rattle.chart.proofs.CheckLaws.{passed}
use Rattle.report.specs.Printed.{chart_pieces}
use Rattle.report.proofs.CheckLaws.{job_refused, job_passed}
use Rattle.report.proofs.job_piece.Goals as goal

pub returns-in-Err : goal.returns-in-Err
unfolding chart_pieces
returns-in-Err c = rw (job_refused _ _ _ c.in-Err.ensures) c.refused_piece.ensures

pub returns-in-Ok : goal.returns-in-Ok
unfolding chart_pieces
returns-in-Ok c = let e = c.in-Ok.ensures in rw (job_passed (passed e.0)) (rw e.1 at c.answer_piece.ensures)

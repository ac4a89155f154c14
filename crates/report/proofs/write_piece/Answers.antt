-- The parts of the job that was read are handed on.
use Rattle.std.proofs.Common.{◌≡◌, ◌+◌, ◌-◌, sym, ◌∙◌, arith}
use Rattle.report.specs.Printed.{pieces}
use Rattle.report.proofs.JobLaws.{job_read, length_read}
use Rattle.report.proofs.PieceLaws.{questions_read_lem}
use Rattle.report.proofs.write_piece.Goals as goal

pub overflow_add-line_at : goal.overflow_add-line_at
overflow_add-line_at c = omega (arith, length_read _ c.read_job.ensures c.in-Ok.is)

pub overflow_add-line_end : goal.overflow_add-line_end
overflow_add-line_end c = omega (arith, length_read _ c.read_job.ensures c.in-Ok.is)

pub overflow_add-questions_at : goal.overflow_add-questions_at
overflow_add-questions_at c = omega (arith, length_read _ c.read_job.ensures c.in-Ok.is)

pub slice_bounds-job_piece-end : goal.slice_bounds-job_piece-end
slice_bounds-job_piece-end c = omega (arith, length_read _ c.read_job.ensures c.in-Ok.is)

pub slice_bounds-job_piece-end-in-Ok : goal.slice_bounds-job_piece-end-in-Ok
slice_bounds-job_piece-end-in-Ok c = omega (arith, length_read _ c.read_job.ensures c.in-Ok.is)

pub slice_bounds-job_piece-count-in-Ok-2 : goal.slice_bounds-job_piece-count-in-Ok-2
slice_bounds-job_piece-count-in-Ok-2 c = omega (arith, length_read _ c.read_job.ensures c.in-Ok.is)

pub slice_bounds-job_piece-start-in-Ok-2 : goal.slice_bounds-job_piece-start-in-Ok-2
slice_bounds-job_piece-start-in-Ok-2 c = omega (arith, length_read _ c.read_job.ensures c.in-Ok.is)

pub returns-in-Err : goal.returns-in-Err
unfolding pieces
returns-in-Err c = rw (sym c.read_job.ensures ∙ c.in-Err.is) c.refused_piece.ensures

pub returns-in-Ok : goal.returns-in-Ok
unfolding pieces
returns-in-Ok c =
    let was = sym c.read_job.ensures ∙ c.in-Ok.is in
    let job = c.in-Ok.job in
    let e₁ : 3 + job.grammar - 1 - 2 ≡ job.grammar = omega arith in
    let e₂ : 3 + job.grammar + job.line - (3 + job.grammar) ≡ job.line = omega arith in
    let questions = questions_read_lem _ _ (job_read _ _ was) (3 + job.grammar + job.line + 1) (omega arith) in
    rw was (rw (e₁, e₂, questions) at c.job_piece.ensures)

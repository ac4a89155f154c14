-- At each `return` what the checks, the filling and the marking gave is the outcome.
use Rattle.std.proofs.lemmas.Result.{err_from_is_err_and}
use Rattle.refusals.specs.Check.{nothing_wrong}
use Rattle.checks.specs.declared.Asked.TheVariants.{Nothing}
use Rattle.grammar.proofs.Encoded.{category_count_lem}
use Rattle.chart.proofs.CheckLaws.{passed, checked_refused, line_is, memory_is, fillable}
use Rattle.marks.specs.Outcome.{marks_room}
use Rattle.marks.proofs.OutcomeLaws.{marks_turned, marks_no_room, marks_answered}
use Rattle.marks.proofs.marks.Goals as goal

pub returns-in_err-grammar : goal.returns-in_err-grammar
returns-in_err-grammar c =
    let p = err_from_is_err_and c.from_residual.result c.from_residual.ensures.1 in
    let a = c.args in
    let room = marks_room a.line.now a.marks.now in
    rw (p.1, p.2) (marks_turned _ _ _ _ _ _ (checked_refused a.g.now a.line.now Nothing a.words.now a.depths.now nothing_wrong room _ c.in_err-grammar.ensures))

pub fill-requires : goal.fill-requires
fill-requires c = fillable (passed c.in_ok-grammar.ensures.0)

pub returns-then-marks-line : goal.returns-then-marks-line
returns-then-marks-line c = marks_no_room _ _ _ _ _ _ (passed c.in_ok-grammar.ensures.0) _ _ c.if-marks-line.true (rw c.in_ok-grammar.ensures.1 at c.fill.ensures.work)

pub mark_tokens-requires : goal.mark_tokens-requires
mark_tokens-requires c =
    let p = passed c.in_ok-grammar.ensures.0 in
    let w = c.fill.ensures.work in
    (line_is p, record { room = rw (category_count_lem _ _ c.in_ok-grammar.grammar.sectioned, w.words_long) (memory_is p).0; word = w.word }, c.if-marks-line.false)

pub returns : goal.returns
returns c =
    let e = c.in_ok-grammar.ensures in
    marks_answered _ _ _ _ _ _ (passed e.0) _ _ _ _ c.if-marks-line.false (rw e.1 at c.fill.ensures.work) (rw e.1 at c.mark_tokens.ensures)

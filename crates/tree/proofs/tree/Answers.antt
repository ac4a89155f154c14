-- At each `return` what the checks, the filling and the showing gave is the outcome.
use Rattle.std.proofs.lemmas.Result.{err_from_is_err_and}
use Rattle.refusals.specs.Check.{nothing_wrong}
use Rattle.checks.specs.declared.Asked.TheVariants.{Span}
use Rattle.checks.proofs.Laws.{span_passed}
use Rattle.chart.proofs.CheckLaws.{checked_refused, passed, line_is, asked_is, memory_is, fillable}
use Rattle.tree.proofs.OutcomeLaws.{tree_turned, tree_shown}
use Rattle.tree.proofs.tree.Goals as goal

pub returns-in_err-grammar : goal.returns-in_err-grammar
returns-in_err-grammar c =
    let p = err_from_is_err_and c.from_residual.result c.from_residual.ensures.1 in
    let a = c.args in
    let asked = Span a.category a.start a.end in
    rw (p.1, p.2) (tree_turned _ _ _ _ _ _ _ _ _ (checked_refused a.g.now a.line.now asked a.words.now a.depths.now nothing_wrong nothing_wrong _ c.in_err-grammar.ensures))

pub fill-requires : goal.fill-requires
fill-requires c = fillable (passed c.in_ok-grammar.ensures.0)

pub show-requires : goal.show-requires
show-requires c =
    let p = passed c.in_ok-grammar.ensures.0 in
    let span = span_passed _ _ _ _ _ (asked_is p) in
    let work = c.fill.ensures.work in
    record {
      category = span.0;
      start = span.1;
      end = span.2;
      work = record { kept = work.depth; rows = work.word };
      rows = rw work.words_long (memory_is p).0;
      room = rw work.depths_long (memory_is p).1;
    }

pub returns : goal.returns
returns c =
    let e = c.in_ok-grammar.ensures in
    tree_shown _ _ _ _ _ _ _ _ _ (passed e.0) (rw e.1 at c.fill.ensures.work) _ _ (rw e.1 at c.show.ensures)

pub invariant_of-kept : goal.invariant_of-kept
invariant_of-kept c = record { short = (line_is (passed c.in_ok-grammar.ensures.0)).short }

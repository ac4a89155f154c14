-- At each `return` what the checks and the filling gave is the outcome.
use Rattle.std.proofs.Common.{ℕ, ◌+◌, ◌*◌, ◌<◌, ◌≤◌, List, length, arith}
use Rattle.std.proofs.lemmas.Result.{err_from_is_err_and}
use Rattle.refusals.specs.Check.{nothing_wrong}
use Rattle.checks.specs.declared.Asked.TheVariants.{Start}
use Rattle.checks.proofs.Laws.{chart_small, start_passed}
use Rattle.grammar.specs.declared.reading.Sections.{Sections}
use Rattle.filling.proofs.RowLaws.{row_inside}
use Rattle.chart.proofs.CheckLaws.{Passes, checked_refused, passed, line_is, asked_is, memory_is, fillable, categories_few}
use Rattle.chart.proofs.OutcomeLaws.{ends_turned, ends_found}
use Rattle.chart.proofs.ends.Goals as goal

module _ {g line : List ℕ} {A i words numbers : ℕ} {s : Sections} (passes : Passes g line (Start A i) words numbers s) where
  -- the category is the grammar's, and the start is on the line
  inside : (A < s.categories) × (i ≤ length line)
  inside = start_passed _ _ _ _ (asked_is passes)

  -- the word that is read is one of the chart's
  in_chart : (A * (length line + 1) + i < words) × (A * (length line + 1) + i < 2048)
  in_chart =
      let row : A * (length line + 1) + i < s.categories * (length line + 1) = row_inside _ _ _ _ inside.0 (omega (arith, inside.1)) in
      (omega (arith, row, (memory_is passes).0), omega (arith, row, chart_small _ _ (categories_few passes) (line_is passes).short))

pub returns-in_err-grammar : goal.returns-in_err-grammar
returns-in_err-grammar c =
    let p = err_from_is_err_and c.from_residual.result c.from_residual.ensures.1 in
    let a = c.args in
    let asked = Start a.category a.start in
    rw (p.1, p.2) (ends_turned _ _ _ _ _ _ _ (checked_refused a.g.now a.line.now asked a.words.now a.depths.now nothing_wrong nothing_wrong _ c.in_err-grammar.ensures))

pub fill-requires : goal.fill-requires
fill-requires c = fillable (passed c.in_ok-grammar.ensures.0)

pub overflow_mul-row : goal.overflow_mul-row
overflow_mul-row c = omega (arith, (in_chart (passed c.in_ok-grammar.ensures.0)).1)

pub overflow_add-row-2 : goal.overflow_add-row-2
overflow_add-row-2 c = omega (arith, (in_chart (passed c.in_ok-grammar.ensures.0)).1)

pub offset_bounds-words-category : goal.offset_bounds-words-category
offset_bounds-words-category c = omega (arith, (in_chart (passed c.in_ok-grammar.ensures.0)).1)

pub bounds-words-category : goal.bounds-words-category
bounds-words-category c =
    omega (arith, (in_chart (passed c.in_ok-grammar.ensures.0)).0, c.fill.ensures.work.words_long)

pub returns : goal.returns
returns c =
    let p = passed c.in_ok-grammar.ensures.0 in
    let i = inside p in
    rw c.count.ensures (ends_found _ _ _ _ _ _ _ _ _ _ _ p i.0 i.1 (rw c.in_ok-grammar.ensures.1 at c.fill.ensures.work) c.both_ends-both.ensures)

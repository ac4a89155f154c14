-- How a question ends: turned down before the filling, turned down after it, or with an answer.
use Rattle.std.proofs.Common.{Err, Ok}
use Prim.Native.Nat.{ℕ}
use mathlib.Core.Path.{◌≡◌, refl, sym, ap, ◌∙◌}
use mathlib.Core.Logic.{inl, inr}
use mathlib.Core.List.{List}
use native.Mathlib.Omega.{arith}
use mathlib.Core.Bool.{Bool, true, false}
use lib.ListN.{length}
use lib.Dec.{ltb}
use borrow.Author.Tests.{ltb-true}
use Rattle.refusals.specs.declared.Refusal.{Refusal}
use Rattle.refusals.specs.declared.Row.{Row}
use Rattle.refusals.specs.Check.{Check, nothing_wrong}
use Rattle.refusals.specs.Order.{and_then}
use Rattle.checks.specs.Question.{refuse_if}
use Rattle.refusals.specs.Row.{row_of}
use Rattle.refusals.specs.Told.{answered, refused}
use Rattle.checks.proofs.Laws.{reported_passed}
use Rattle.grammar.specs.Given.{grammar_given}
use Rattle.filling.specs.Filled.{WorkFilled}
use Rattle.chart.specs.Told.{chart_told, ends_told}
use Rattle.chart.specs.ChartOutcome as chart-outcome
use Rattle.chart.specs.EndsOutcome as ends_outcome
use Rattle.chart.proofs.CheckLaws.{grammar_is}
use Rattle.marks.specs.Told.{marks_told}
use Rattle.marks.specs.Outcome.{marks_checks}
use Rattle.marks.specs.Outcome as marks-outcome
use Rattle.tree.specs.Told.{tree_told}
use Rattle.forest.specs.Told.{forest_told}
use Rattle.tree.specs.Outcome as tree_outcome
use Rattle.forest.specs.Outcome as forest-outcome
use Rattle.demands.specs.Question.{Input, Query, chart, ends, marks, tree, forest, row_before, Result, Allowed}
use Rattle.demands.specs.TurnedDown.{LateNumber, AllRight, TurnedDown, tree_of_no_fact, marks_too_small, forest_too_small, tree_too_small}
use Rattle.demands.proofs.AllRight.{early_passes, passes_right}
use Rattle.demands.proofs.Refusals.{first}

-- the work memory is filled
abbrev pub Worked : (x : Input) {q : Query} → Result q → Type 0
Worked x r = WorkFilled (grammar_given x.grammar) x.line x.words x.depths r.words r.depths

pub data Ending (x : Input) (q : Query) (r : Result q) : Type 0 where
  before : (refusal : Refusal) → first x q ≡ Err refusal → r.told ≡ refused (row_of refusal) →
      r.words ≡ x.words → r.depths ≡ x.depths → r.row ≡ row_before q → Ending x q r
  after : (row : Row) → first x q ≡ nothing_wrong → r.told ≡ refused row → TurnedDown x q row → LateNumber row.number →
      Worked x r → r.row ≡ row_before q → Ending x q r
  answers : (values : List ℕ) → first x q ≡ nothing_wrong → r.told ≡ answered values → Worked x r → Ending x q r

-- where the first checks pass all is right, for the grammar that is given
pub all_right_lem : (x : Input) (q : Query) → first x q ≡ nothing_wrong → AllRight (grammar_given x.grammar) x q
all_right_lem x q e = let p = early_passes x q nothing_wrong nothing_wrong e in rw (grammar_is p.1) (passes_right p.1)

and_passed : (c : Check) → and_then c nothing_wrong ≡ c
and_passed (Ok u) = refl
and_passed (Err refusal) = refl

-- a refusal that is given is given for its fault
fault_found : (fault : Bool) {r refusal : Refusal} → refuse_if fault r ≡ Err refusal → (fault ≡ true) × (r ≡ refusal)
fault_found true e = (refl, cc)
fault_found false e = absurd (let z : ◌≡◌ {A = ℕ} 0 1 = cc in omega arith)

pub ending : (x : Input) (q : Query) (r : Result q) → Allowed x q r → Ending x q r
ending x chart r (answer, tells, chart-outcome.turned_down {refusal = refusal} e a w d) = before refusal (sym (and_passed _) ∙ e) (sym tells ∙ ap chart_told a) w d refl
ending x chart r (answer, tells, chart-outcome.filled e t m f y) = answers _ (sym (and_passed _) ∙ e) (sym tells ∙ t) y
ending x (ends A i) r (answer, tells, ends_outcome.turned_down {refusal = refusal} e a w d) = before refusal (sym (and_passed _) ∙ e) (sym tells ∙ ap ends_told a) w d refl
ending x (ends A i) r (answer, tells, ends_outcome.found e t m c f y) = answers _ (sym (and_passed _) ∙ e) (sym tells ∙ t) y
ending x (marks row) r (answer, tells, marks-outcome.turned_down {refusal = refusal} e a w d m) = before refusal e (sym tells ∙ ap marks_told a) w d m
ending x (marks row) r (answer, tells, marks-outcome.no_room e l a y m) =
    let f = fault_found (ltb (length row) (length x.line)) l in
    after _ e (sym tells ∙ ap marks_told a ∙ ap (λ (z : Refusal). refused (row_of z)) (sym f.1)) (marks_too_small (all_right_lem x (marks row) e) (ltb-true _ _ f.0)) (inr refl) y m
ending x (marks row) r (answer, tells, marks-outcome.answered e t y m) = answers _ (reported_passed (marks_checks x.grammar x.line x.words x.depths row) e).0 (sym tells ∙ t) y
ending x (tree A i j row) r (answer, tells, tree_outcome.turned_down {refusal = refusal} e a w d o) = before refusal e (sym tells ∙ ap tree_told a) w d o
ending x (tree A i j row) r (answer, tells, tree_outcome.no_fact e n a y o) = after _ e (sym tells ∙ ap tree_told a) (tree_of_no_fact (all_right_lem x (tree A i j row) e) n) (inl refl) y o
ending x (tree A i j row) r (answer, tells, tree_outcome.no_room t e c l a y o) = after _ e (sym tells ∙ ap tree_told a) (tree_too_small (all_right_lem x (tree A i j row) e) t c l) (inr refl) y o
ending x (tree A i j row) r (answer, tells, tree_outcome.shows t e c l a y o) = answers _ e (sym tells ∙ a) y
ending x (forest rows) r (answer, tells, forest-outcome.turned_down {refusal = refusal} e a w d o) = before refusal e (sym tells ∙ ap forest_told a) w d o
ending x (forest rows) r (answer, tells, forest-outcome.no_room e i l a y o) = after _ e (sym tells ∙ ap forest_told a) (forest_too_small (all_right_lem x (forest rows) e) i l) (inr refl) y o
ending x (forest rows) r (answer, tells, forest-outcome.answered e i l a y o) = answers _ e (sym tells ∙ a) y

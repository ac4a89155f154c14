-- One result for every input, refusals as the table says, and what memory then holds.
use Rattle.refusals.specs.Check.{nothing_wrong}
use Prim.Native.Nat.{ℕ}
use mathlib.Core.Path.{◌≡◌, refl, sym, ap, ◌∙◌}
use mathlib.Core.Logic.{inl, inr}
use mathlib.Core.List.{List}
use native.Mathlib.Omega.{arith}
use Rattle.refusals.specs.declared.Row.{Row}
use Rattle.refusals.specs.Row.{row_of}
use Rattle.refusals.specs.Told.{Told, answered, refused}
use Rattle.derivation.specs.Grammar.{Grammar}
use Rattle.checks.specs.Line.{too_long, bad_token}
use Rattle.checks.proofs.Laws.{one_refusal, not_both}
use Rattle.filling.specs.Filled.{WorkFilled}
use Rattle.chart.specs.Told.{chart_told, ends_told}
use Rattle.chart.proofs.Unique.{chart_outcome_unique, ends_outcome_unique}
use Rattle.marks.specs.Told.{marks_told}
use Rattle.marks.proofs.Unique.{marks_outcome_unique}
use Rattle.tree.specs.Told.{tree_told}
use Rattle.tree.proofs.Unique.{tree_outcome_unique}
use Rattle.forest.specs.Told.{forest_told}
use Rattle.forest.proofs.Unique.{forest_outcome_unique}
use Rattle.demands.specs.Question.{Input, Query, chart, ends, marks, tree, forest, row_before, Result, Allowed}
use Rattle.demands.specs.TurnedDown.{EarlyNumber, LateNumber, AllRight, TurnedDown, grammar_wrong, line_too_long, token_no_class, number_wrong, words_too_few, depths_too_few, tree_of_no_fact, marks_too_small, forest_too_small, tree_too_small}
use Rattle.demands.specs.Demands.{Fills, answers, late}
use Rattle.demands.proofs.AllRight.{given_is}
use Rattle.demands.proofs.Refusals.{first, TurnedEarly, grammar_turned, line_turned, number_turned, words_turned, depths_turned, right_passed, early_listed}
use Rattle.demands.proofs.Ending.{Worked, Ending, before, after, ending}
use Rattle.demands.proofs.Ending as ends_by
use Rattle.demands.proofs.Late.{marks_told_lem, no_fact_told, tree_told_lem, forest_told_lem}

-- an answer is no refusal
pub not_refused : {told : Told} {values : List ℕ} {row : Row} → told ≡ answered values → told ≡ refused row → ⊥
not_refused a b = let z : ◌≡◌ {A = ℕ} 0 1 = cc in omega arith

one_row : {told : Told} {a b : Row} → told ≡ refused a → told ≡ refused b → a ≡ b
one_row p q = cc

-- two results with the same parts are one
same_result : {q : Query} {a b : Result q} → a.told ≡ b.told → a.words ≡ b.words → a.depths ≡ b.depths → a.row ≡ b.row → a ≡ b
same_result t w d r = λ i. record { told = t i; words = w i; depths = d i; row = r i }

pub result_unique : (x : Input) (q : Query) (a b : Result q) → Allowed x q a → Allowed x q b → a ≡ b
result_unique x chart a b (p, t, o) (p', t', o') =
    let e = chart_outcome_unique x.grammar x.line x.words x.depths o o' in
    same_result (sym t ∙ ap chart_told e.0 ∙ t') e.1 e.2 refl
result_unique x (ends A i) a b (p, t, o) (p', t', o') =
    let e = ends_outcome_unique x.grammar x.line x.words x.depths A i o o' in
    same_result (sym t ∙ ap ends_told e.0 ∙ t') e.1 e.2 refl
result_unique x (marks row) a b (p, t, o) (p', t', o') =
    let e = marks_outcome_unique x.grammar x.line x.words x.depths row o o' in
    same_result (sym t ∙ ap marks_told e.0 ∙ t') e.1 e.2 e.3
result_unique x (tree A i j row) a b (p, t, o) (p', t', o') =
    let e = tree_outcome_unique o o' in
    same_result (sym t ∙ ap tree_told e.0 ∙ t') e.1 e.2 e.3
result_unique x (forest rows) a b (p, t, o) (p', t', o') =
    let e = forest_outcome_unique x.grammar x.line x.words x.depths rows o o' in
    same_result (sym t ∙ ap forest_told e.0 ∙ t') e.1 e.2 e.3

not_both_numbers : {number : ℕ} → EarlyNumber number → LateNumber number → ⊥
not_both_numbers (inl a) (inl b) = omega arith
not_both_numbers (inl a) (inr b) = omega arith
not_both_numbers (inr a) (inl b) = omega arith
not_both_numbers (inr a) (inr b) = omega arith

module _ (x : Input) (q : Query) (r : Result q) where
  pub told_listed : Ending x q r → (row : Row) → r.told ≡ refused row → TurnedDown x q row
  told_listed (before refusal e t w d m) row h = rw (one_row h t) (early_listed x q refusal e).0
  told_listed (after other e t down n y m) row h = rw (one_row h t) down
  told_listed (ends_by.answers values e t y) row h = absurd (not_refused t h)

  pub work_unchanged : Ending x q r → (row : Row) → r.told ≡ refused row → EarlyNumber row.number → (r.words ≡ x.words) × (r.depths ≡ x.depths)
  work_unchanged (before refusal e t w d m) row h n = (w, d)
  work_unchanged (after other e t down k y m) row h n = absurd (not_both_numbers (rw (one_row h t) at n) k)
  work_unchanged (ends_by.answers values e t y) row h n = absurd (not_refused t h)

  pub row_unchanged : Ending x q r → (row : Row) → r.told ≡ refused row → r.row ≡ row_before q
  row_unchanged (before refusal e t w d m) row h = m
  row_unchanged (after other e t down k y m) row h = m
  row_unchanged (ends_by.answers values e t y) row h = absurd (not_refused t h)

  -- what is refused before the filling
  early_told : {row : Row} → TurnedEarly x q row → Ending x q r → r.told ≡ refused row
  early_told (refusal, f, same) (before other e t w d m) = t ∙ ap refused (ap row_of (one_refusal e f) ∙ same)
  early_told (refusal, f, same) (after other e t down k y m) = absurd (not_both f e)
  early_told (refusal, f, same) (ends_by.answers values e t y) = absurd (not_both f e)

  -- the work memory is filled where the first checks pass
  pub worked : first x q ≡ nothing_wrong → Ending x q r → Worked x r
  worked p (before other e t w d m) = absurd (not_both e p)
  worked p (after other e t down k y m) = y
  worked p (ends_by.answers values e t y) = y

  pub right_fills : first x q ≡ nothing_wrong → Ending x q r → Fills r.told
  right_fills p (before other e t w d m) = absurd (not_both e p)
  right_fills p (after other e t down k y m) = rw t (late k)
  right_fills p (ends_by.answers values e t y) = rw t answers

  -- a refusal before the filling fills nothing
  early_fills : {row : Row} → EarlyNumber row.number → Fills (refused row) → ⊥
  early_fills n (late k) = not_both_numbers n k

  pub fills_passed : Ending x q r → Fills r.told → first x q ≡ nothing_wrong
  fills_passed (before refusal e t w d m) f = absurd (early_fills (early_listed x q refusal e).1 (rw t at f))
  fills_passed (after other e t down k y m) f = e
  fills_passed (ends_by.answers values e t y) f = e

  -- filled memory, for the grammar that is encoded
  pub work_for : {G : Grammar} → AllRight G x q → Allowed x q r → WorkFilled G x.line x.words x.depths r.words r.depths
  work_for right a = rw (given_is right.grammar) at (worked (right_passed x q right) (ending x q r a))

-- what the table lists is told
pub listed_told : (x : Input) {q : Query} (r : Result q) → Allowed x q r → {row : Row} → TurnedDown x q row → r.told ≡ refused row
listed_told x {q} r a (grammar_wrong w) = early_told x q r (grammar_turned x q w) (ending x q r a)
listed_told x {q} r a (line_too_long e l) = early_told x q r (line_turned x q e (too_long l)) (ending x q r a)
listed_told x {q} r a (token_no_class e l f) = early_told x q r (line_turned x q e (bad_token l f)) (ending x q r a)
listed_told x {q} r a (number_wrong e l f) = early_told x q r (number_turned x q e l f) (ending x q r a)
listed_told x {q} r a (words_too_few e l n w) = early_told x q r (words_turned x q e l n w) (ending x q r a)
listed_told x {q} r a (depths_too_few e l n w d) = early_told x q r (depths_turned x q e l n w d) (ending x q r a)
listed_told x r a (tree_of_no_fact right n) = no_fact_told x _ _ _ _ r right a n
listed_told x r a (marks_too_small right l) = marks_told_lem x _ r right a l
listed_told x r a (forest_too_small right is l) = forest_told_lem x _ r right a is l
listed_told x r a (tree_too_small right t c l) = tree_told_lem x _ _ _ _ r right a (t, c, l)

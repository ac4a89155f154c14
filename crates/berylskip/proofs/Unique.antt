-- Any two outcomes that the contract of an exported question allows are equal: the numbers handed over, and all lent memory.
use Prim.Native.Nat.{ℕ}
use mathlib.Core.Path.{◌≡◌, sym, ap, ◌∙◌}
use mathlib.Core.List.{List}
use Rattle.refusals.specs.Told.{Told}
use Rattle.chart.proofs.Unique.{chart_outcome_unique, ends_outcome_unique}
use Rattle.marks.proofs.Unique.{marks_outcome_unique}
use Rattle.tree.proofs.Unique.{tree_outcome_unique}
use Rattle.forest.specs.declared.Branch.{Branch}
use Rattle.forest.proofs.Unique.{forest_outcome_unique}
use Rattle.berylskip.specs.Exported.{Numbers, handed, Exported}
use Rattle.berylskip.specs.Questions.{ChartExported, EndsExported, MarksExported, TreeExported, ForestExported}

-- one answer hands over one set of numbers
pub same_numbers :
    {Answer : Type 0} {Outcome Outcome' : Answer → Type 0} {told : Answer → Told} {values : List ℕ} {place : ℕ} {x y : Numbers} →
    (e : Exported Outcome told values place x) (f : Exported Outcome' told values place y) → e.answer ≡ f.answer → x ≡ y
same_numbers {Answer = Answer} {told = told} {values = values} {place = place} e f same =
    sym e.hands ∙ ap (λ (a : Answer). handed (told a) values place) same ∙ f.hands

module _ (g line words depths values : List ℕ) (place : ℕ) {w d w' d' : List ℕ} {x y : Numbers} where
  pub chart_exported_unique :
      ChartExported g line words depths values place w d x → ChartExported g line words depths values place w' d' y →
      (x ≡ y) × (w ≡ w') × (d ≡ d')
  chart_exported_unique e f =
      let u = chart_outcome_unique g line words depths e.outcome f.outcome in
      (same_numbers e f u.0, u.1, u.2)

  pub ends_exported_unique : (A i : ℕ) →
      EndsExported g line A i words depths values place w d x → EndsExported g line A i words depths values place w' d' y →
      (x ≡ y) × (w ≡ w') × (d ≡ d')
  ends_exported_unique A i e f =
      let u = ends_outcome_unique g line words depths A i e.outcome f.outcome in
      (same_numbers e f u.0, u.1, u.2)

  pub marks_exported_unique : (marks : List ℕ) {m m' : List ℕ} →
      MarksExported g line words depths marks values place w d m x → MarksExported g line words depths marks values place w' d' m' y →
      (x ≡ y) × (w ≡ w') × (d ≡ d') × (m ≡ m')
  marks_exported_unique marks e f =
      let u = marks_outcome_unique g line words depths marks e.outcome f.outcome in
      (same_numbers e f u.0, u.1, u.2, u.3)

  pub tree_exported_unique : (A i j : ℕ) (out : List ℕ) {o o' : List ℕ} →
      TreeExported g line A i j words depths out values place w d o x → TreeExported g line A i j words depths out values place w' d' o' y →
      (x ≡ y) × (w ≡ w') × (d ≡ d') × (o ≡ o')
  tree_exported_unique A i j out e f =
      let u = tree_outcome_unique e.outcome f.outcome in
      (same_numbers e f u.0, u.1, u.2, u.3)

  pub forest_exported_unique : (rows : List Branch) {r r' : List Branch} →
      ForestExported g line words depths rows values place w d r x → ForestExported g line words depths rows values place w' d' r' y →
      (x ≡ y) × (w ≡ w') × (d ≡ d') × (r ≡ r')
  forest_exported_unique rows e f =
      let u = forest_outcome_unique g line words depths rows e.outcome f.outcome in
      (same_numbers e f u.0, u.1, u.2, u.3)

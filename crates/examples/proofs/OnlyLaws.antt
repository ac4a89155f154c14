-- An outcome that a question's contract allows is the only one.
use Rattle.std.proofs.Common.{Result}
use Rattle.refusals.specs.declared.Refusal.{Refusal}
use Prim.Native.Nat.{ℕ}
use mathlib.Core.Path.{◌≡◌, sym}
use mathlib.Core.List.{List}
use Rattle.refusals.specs.Told.{Told}
use Rattle.chart.specs.declared.ChartAnswer.{ChartAnswer}
use Rattle.chart.specs.declared.EndsAnswer.{EndsAnswer}
use Rattle.chart.specs.Told.{chart_told, ends_told}
use Rattle.chart.specs.ChartOutcome.{ChartOutcome}
use Rattle.chart.specs.EndsOutcome.{EndsOutcome}
use Rattle.chart.proofs.Unique.{chart_outcome_unique, ends_outcome_unique}
use Rattle.marks.specs.Told.{marks_told}
use Rattle.marks.specs.Outcome.{MarksOutcome}
use Rattle.marks.proofs.Unique.{marks_outcome_unique}
use Rattle.tree.specs.Told.{tree_told}
use Rattle.tree.specs.Outcome.{TreeOutcome}
use Rattle.tree.proofs.Unique.{tree_outcome_unique}
use Rattle.forest.specs.declared.Branch.{Branch}
use Rattle.forest.specs.Told.{forest_told}
use Rattle.forest.specs.Outcome.{ForestOutcome}
use Rattle.forest.proofs.Unique.{forest_outcome_unique}
use Rattle.examples.specs.Claim.{OnlyOutcome}

-- where any two outcomes that are allowed are equal, one that is allowed is the only one
only_outcome : {Answer Memory : Type 0} {tells : Answer → Told} {Allows : Answer → Memory → Type 0} {told : Told} {memory : Memory} →
    ((a b : Answer) (x y : Memory) → Allows a x → Allows b y → (a ≡ b) × (x ≡ y)) →
    (answer : Answer) × (tells answer ≡ told) × Allows answer memory → OnlyOutcome tells Allows told memory
only_outcome {memory = memory} one allowed =
    record {
      allowed = allowed;
      only = λ other left also. let same = one allowed.0 other memory left allowed.2 also in (rw same.0 at allowed.1, sym same.1);
    }

module _ {g line words depths words' depths' : List ℕ} {told : Told} where
  pub chart_only : (answer : Result ChartAnswer Refusal) × (chart_told answer ≡ told) × ChartOutcome g line words depths answer words' depths' →
      OnlyOutcome {Memory = List ℕ × List ℕ} chart_told (λ answer (words', depths'). ChartOutcome g line words depths answer words' depths') told (words', depths')
  chart_only = only_outcome (λ a b x y p q. let same = chart_outcome_unique g line words depths p q in (same.0, λ k. (same.1 k, same.2 k)))

  pub ends_only : {A i : ℕ} → (answer : Result EndsAnswer Refusal) × (ends_told answer ≡ told) × EndsOutcome g line A i words depths answer words' depths' →
      OnlyOutcome {Memory = List ℕ × List ℕ} ends_told (λ answer (words', depths'). EndsOutcome g line A i words depths answer words' depths') told (words', depths')
  ends_only {A} {i} = only_outcome (λ a b x y p q. let same = ends_outcome_unique g line words depths A i p q in (same.0, λ k. (same.1 k, same.2 k)))

  pub marks_only : {row row' : List ℕ} → (answer : Result ℕ Refusal) × (marks_told answer ≡ told) × MarksOutcome g line words depths row answer words' depths' row' →
      OnlyOutcome {Memory = List ℕ × List ℕ × List ℕ} marks_told (λ answer (words', depths', row'). MarksOutcome g line words depths row answer words' depths' row') told (words', depths', row')
  marks_only {row} = only_outcome (λ a b x y p q. let same = marks_outcome_unique g line words depths row p q in (same.0, λ k. (same.1 k, same.2 k, same.3 k)))

  pub tree_only : {A i j : ℕ} {row row' : List ℕ} → (answer : Result ℕ Refusal) × (tree_told answer ≡ told) × TreeOutcome g line A i j words depths row answer words' depths' row' →
      OnlyOutcome {Memory = List ℕ × List ℕ × List ℕ} tree_told (λ answer (words', depths', row'). TreeOutcome g line A i j words depths row answer words' depths' row') told (words', depths', row')
  tree_only = only_outcome (λ a b x y p q. let same = tree_outcome_unique p q in (same.0, λ k. (same.1 k, same.2 k, same.3 k)))

  pub forest_only : {rows rows' : List Branch} → (answer : Result ℕ Refusal) × (forest_told answer ≡ told) × ForestOutcome g line words depths rows answer words' depths' rows' →
      OnlyOutcome {Memory = List ℕ × List ℕ × List Branch} forest_told (λ answer (words', depths', rows'). ForestOutcome g line words depths rows answer words' depths' rows') told (words', depths', rows')
  forest_only {rows} = only_outcome (λ a b x y p q. let same = forest_outcome_unique g line words depths rows p q in (same.0, λ k. (same.1 k, same.2 k, same.3 k)))

-- What an example claims; of a question, that on all lent memory of sufficient size, whatever it held, the one outcome is the one written out.
use Rattle.refusals.specs.Check.{nothing_wrong}
use Rattle.std.specs.Prelude.{ℕ, ◌≤◌, ◌≡◌, length}
use mathlib.Core.List.{List, [], map, flatten}
use Rattle.refusals.specs.Told.{Told}
use Rattle.derivation.specs.Bound.{depth_bound}
use Rattle.derivation.specs.Fact.{Fact}
use Rattle.derivation.specs.Depth.{Depth}
use Rattle.grammar.specs.Given.{grammar_check, grammar_given}
use Rattle.chart.specs.Told.{chart_told, ends_told}
use Rattle.chart.specs.ChartOutcome.{ChartOutcome}
use Rattle.chart.specs.EndsOutcome.{EndsOutcome}
use Rattle.marks.specs.Told.{marks_told}
use Rattle.marks.specs.Outcome.{MarksOutcome}
use Rattle.tree.specs.Told.{tree_told}
use Rattle.tree.specs.Bytes.{bytes}
use Rattle.tree.specs.Outcome.{TreeOutcome}
use Rattle.forest.specs.declared.Branch.{Branch}
use Rattle.forest.specs.Told.{forest_told}
use Rattle.forest.specs.Record.{record_of}
use Rattle.forest.specs.Outcome.{ForestOutcome}
use Rattle.lines.specs.Lines.{line_of}
use Rattle.report.specs.Printed.{printed}
use Rattle.examples.specs.Entry.{Question, chart, ends, marks, tree, forest, Work, Entry, outcome, no_facts, meets_bound, prints}
use Rattle.examples.specs.Memory.{overwritten, Lent, words_after, depths_after}

-- a contract allows one outcome, and it tells this and leaves this memory
pub record OnlyOutcome {Answer Memory : Type 0} (tells : Answer → Told) (Allows : Answer → Memory → Type 0) (told : Told) (memory : Memory) : Type 0 where
  -- an outcome that tells this and leaves this memory is allowed
  pub allowed : (answer : Answer) × (tells answer ≡ told) × Allows answer memory
  -- every outcome that is allowed tells this and leaves this memory
  pub only : (answer : Answer) (left : Memory) → Allows answer left → (tells answer ≡ told) × (left ≡ memory)

-- the question's one outcome
abbrev pub OutcomeIs : (g line : List ℕ) → Question → Told → Work → Type 0
OutcomeIs g line chart told work =
    (words depths : List ℕ) → Lent g line words depths →
    OnlyOutcome {Memory = List ℕ × List ℕ} chart_told (λ answer (words', depths'). ChartOutcome g line words depths answer words' depths')
    told (words_after g line work words, depths_after g line work depths)
OutcomeIs g line (ends A i) told work =
    (words depths : List ℕ) → Lent g line words depths →
    OnlyOutcome {Memory = List ℕ × List ℕ} ends_told (λ answer (words', depths'). EndsOutcome g line A i words depths answer words' depths')
    told (words_after g line work words, depths_after g line work depths)
OutcomeIs g line (marks new) told work =
    (words depths row : List ℕ) → Lent g line words depths → length new ≤ length row →
    OnlyOutcome {Memory = List ℕ × List ℕ × List ℕ} marks_told (λ answer (words', depths', row'). MarksOutcome g line words depths row answer words' depths' row')
    told (words_after g line work words, depths_after g line work depths, overwritten new row)
OutcomeIs g line (tree A i j nodes) told work =
    (words depths row : List ℕ) → Lent g line words depths → length (bytes nodes) ≤ length row →
    OnlyOutcome {Memory = List ℕ × List ℕ × List ℕ} tree_told (λ answer (words', depths', row'). TreeOutcome g line A i j words depths row answer words' depths' row')
    told (words_after g line work words, depths_after g line work depths, overwritten (bytes nodes) row)
OutcomeIs g line (forest branches) told work =
    (words depths : List ℕ) (rows : List Branch) → Lent g line words depths → length branches ≤ length rows →
    OnlyOutcome {Memory = List ℕ × List ℕ × List Branch} forest_told (λ answer (words', depths', rows'). ForestOutcome g line words depths rows answer words' depths' rows')
    told (words_after g line work words, depths_after g line work depths, overwritten (map record_of branches) rows)

abbrev pub Holds : Entry → Type 0
Holds (outcome g line question told work) = OutcomeIs g line question told work
Holds (no_facts g) = (grammar_check g ≡ nothing_wrong) × ((line : List ℕ) (A i j : ℕ) → Fact (grammar_given g) line A i j → ⊥)
Holds (meets_bound g line fact) =
    Depth (grammar_given g) line fact.category fact.start fact.end fact.depth
    × (fact.depth ≡ depth_bound (grammar_given g) fact.start fact.end)
Holds (prints input lines) = printed input ≡ flatten (map (λ line. line_of line []) lines)

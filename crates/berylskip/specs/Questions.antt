-- What each exported question returns and writes: its outcome, handed over in numbers.
use Rattle.std.specs.Prelude.{ℕ, List}
use Rattle.chart.specs.ChartOutcome.{ChartOutcome}
use Rattle.chart.specs.EndsOutcome.{EndsOutcome}
use Rattle.chart.specs.Told.{chart_told, ends_told}
use Rattle.marks.specs.Outcome.{MarksOutcome}
use Rattle.marks.specs.Told.{marks_told}
use Rattle.tree.specs.Outcome.{TreeOutcome}
use Rattle.tree.specs.Told.{tree_told}
use Rattle.forest.specs.declared.Branch.{Branch}
use Rattle.forest.specs.Outcome.{ForestOutcome}
use Rattle.forest.specs.Told.{forest_told}
use Rattle.berylskip.specs.Exported.{Exported, Numbers}

-- rounds, facts
abbrev pub ChartExported : (g line words depths values : List ℕ) (place : ℕ) (words' depths' : List ℕ) → Numbers → Type 0
ChartExported g line words depths values place words' depths' = Exported (λ answer. ChartOutcome g line words depths answer words' depths') chart_told values place

-- the row, how many ends it shows, the smallest, the largest
abbrev pub EndsExported : (g line : List ℕ) (A i : ℕ) (words depths values : List ℕ) (place : ℕ) (words' depths' : List ℕ) → Numbers → Type 0
EndsExported g line A i words depths values place words' depths' = Exported (λ answer. EndsOutcome g line A i words depths answer words' depths') ends_told values place

-- the number of secret tokens
abbrev pub MarksExported : (g line words depths marks values : List ℕ) (place : ℕ) (words' depths' marks' : List ℕ) → Numbers → Type 0
MarksExported g line words depths marks values place words' depths' marks' = Exported (λ answer. MarksOutcome g line words depths marks answer words' depths' marks') marks_told values place

-- the number of nodes
abbrev pub TreeExported : (g line : List ℕ) (A i j : ℕ) (words depths out values : List ℕ) (place : ℕ) (words' depths' out' : List ℕ) → Numbers → Type 0
TreeExported g line A i j words depths out values place words' depths' out' = Exported (λ answer. TreeOutcome g line A i j words depths out answer words' depths' out') tree_told values place

-- the number of records
abbrev pub ForestExported : (g line words depths : List ℕ) (rows : List Branch) (values : List ℕ) (place : ℕ) (words' depths' : List ℕ) (rows' : List Branch) → Numbers → Type 0
ForestExported g line words depths rows values place words' depths' rows' = Exported (λ answer. ForestOutcome g line words depths rows answer words' depths' rows') forest_told values place

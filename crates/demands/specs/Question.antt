-- The five questions under one name: what is handed in, and the results that a question's own outcome allows.
use Rattle.refusals.specs.declared.Refusal.{Refusal}
use Rattle.std.specs.Prelude.{ℕ, ◌≡◌, List, [], ◌∷◌}
use Rattle.std.specs.Prelude as std
use Rattle.refusals.specs.Told.{Told}
use Rattle.chart.specs.declared.ChartAnswer.{ChartAnswer}
use Rattle.chart.specs.declared.EndsAnswer.{EndsAnswer}
use Rattle.chart.specs.Told.{chart_told, ends_told}
use Rattle.chart.specs.ChartOutcome.{ChartOutcome}
use Rattle.chart.specs.EndsOutcome.{EndsOutcome}
use Rattle.marks.specs.Told.{marks_told}
use Rattle.marks.specs.Outcome.{MarksOutcome}
use Rattle.tree.specs.Told.{tree_told}
use Rattle.tree.specs.Outcome.{TreeOutcome}
use Rattle.forest.specs.declared.Branch.{Branch}
use Rattle.forest.specs.Told.{forest_told}
use Rattle.forest.specs.Outcome.{ForestOutcome}

-- what every question takes: grammar bytes, a line, and lent work memory with its old contents
pub record Input : Type 0 where
  pub grammar : List ℕ
  pub line : List ℕ
  pub words : List ℕ
  pub depths : List ℕ

-- which question: the numbers A, i, j that it asks with, and the row lent for its marks, nodes or records, with its old contents
pub data Query : Type 0 where
  chart : Query
  ends : ℕ → ℕ → Query
  marks : List ℕ → Query
  tree : ℕ → ℕ → ℕ → List ℕ → Query
  forest : List Branch → Query

-- the numbers that it asks with
abbrev pub numbers : Query → List ℕ
numbers chart = []
numbers (ends A i) = A ∷ i ∷ []
numbers (marks row) = []
numbers (tree A i j row) = A ∷ i ∷ j ∷ []
numbers (forest rows) = []

-- what the lent row is made of; Chart and Ends have none
abbrev pub LentRow : Query → Type 0
LentRow chart = Unit {0}
LentRow (ends A i) = Unit {0}
LentRow (marks row) = List ℕ
LentRow (tree A i j row) = List ℕ
LentRow (forest rows) = List Branch

-- what it held on entry
abbrev pub row_before : (q : Query) → LentRow q
row_before chart = tt
row_before (ends A i) = tt
row_before (marks row) = row
row_before (tree A i j row) = row
row_before (forest rows) = rows

-- a result: what the answer tells, and what all that is lent to be written then holds; grammar and line are lent to be read, and nothing else is lent
pub record Result (q : Query) : Type 0 where
  pub told : Told
  pub words : List ℕ
  pub depths : List ℕ
  pub row : LentRow q

-- the question's own outcome allows this result
abbrev pub Allowed : (x : Input) (q : Query) → Result q → Type 0
Allowed x chart r =
    (answer : std.Result ChartAnswer Refusal) × (chart_told answer ≡ r.told)
    × ChartOutcome x.grammar x.line x.words x.depths answer r.words r.depths
Allowed x (ends A i) r =
    (answer : std.Result EndsAnswer Refusal) × (ends_told answer ≡ r.told)
    × EndsOutcome x.grammar x.line A i x.words x.depths answer r.words r.depths
Allowed x (marks row) r =
    (answer : std.Result ℕ Refusal) × (marks_told answer ≡ r.told)
    × MarksOutcome x.grammar x.line x.words x.depths row answer r.words r.depths r.row
Allowed x (tree A i j row) r =
    (answer : std.Result ℕ Refusal) × (tree_told answer ≡ r.told)
    × TreeOutcome x.grammar x.line A i j x.words x.depths row answer r.words r.depths r.row
Allowed x (forest rows) r =
    (answer : std.Result ℕ Refusal) × (forest_told answer ≡ r.told)
    × ForestOutcome x.grammar x.line x.words x.depths rows answer r.words r.depths r.row

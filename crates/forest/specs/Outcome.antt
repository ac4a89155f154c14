-- The one outcome of the forest question: the answer, and what all lent memory then holds.
use Rattle.refusals.specs.Check.{nothing_wrong}
use Rattle.std.specs.Prelude.{ℕ, ◌≤◌, ◌<◌, ◌≡◌, List, [], ◌∷◌, ◌++◌, map, length, drop, Err, Result}
use Rattle.refusals.specs.declared.Refusal.{Refusal}
use Rattle.refusals.specs.declared.Refusal.TheVariants.{ForestTooSmall}
use Rattle.refusals.specs.Order.{early}
use Rattle.refusals.specs.Told as told
use Rattle.derivation.specs.Branch.{BranchValue, ForestIs}
use Rattle.grammar.specs.Given.{grammar_given}
use Rattle.filling.specs.Filled.{WorkFilled}
use Rattle.chart.specs.Checks.{chart_checks}
use Rattle.forest.specs.declared.Branch.{Branch}
use Rattle.forest.specs.Told.{forest_told}
use Rattle.forest.specs.Record.{record_of}

pub data ForestOutcome (g line words depths : List ℕ) (rows : List Branch) (answer : Result ℕ Refusal) (words' depths' : List ℕ) (rows' : List Branch) : Type 0 where
  -- 1 to 9 and 14: the first refusal is the answer, and no lent memory changes
  turned_down : {refusal : Refusal} →
      early (chart_checks g line words depths) ≡ Err refusal →
      answer ≡ Err refusal → words' ≡ words → depths' ≡ depths → rows' ≡ rows →
      ForestOutcome g line words depths rows answer words' depths' rows'
  -- 11: there are more records than rows; the work memory is filled, and the rows are untouched
  no_room : {records : List BranchValue} →
      early (chart_checks g line words depths) ≡ nothing_wrong →
      ForestIs (grammar_given g) line records → length rows < length records →
      answer ≡ Err (ForestTooSmall (length records)) →
      WorkFilled (grammar_given g) line words depths words' depths' → rows' ≡ rows →
      ForestOutcome g line words depths rows answer words' depths' rows'
  -- the number of records is told, the work memory is filled, and the rows begin with the forest's records
  answered : {records : List BranchValue} →
      early (chart_checks g line words depths) ≡ nothing_wrong →
      ForestIs (grammar_given g) line records → length records ≤ length rows →
      forest_told answer ≡ told.answered (length records ∷ []) →
      WorkFilled (grammar_given g) line words depths words' depths' →
      rows' ≡ map record_of records ++ drop (length records) rows →
      ForestOutcome g line words depths rows answer words' depths' rows'

-- The one outcome of the chart question: the answer, and what all lent memory then holds.
use Rattle.refusals.specs.Check.{nothing_wrong}
use Rattle.std.specs.Prelude.{ℕ, ◌≡◌, List, [], ◌∷◌, length, Err, Result}
use Rattle.refusals.specs.declared.Refusal.{Refusal}
use Rattle.refusals.specs.Order.{reported}
use Rattle.refusals.specs.Told as told
use Rattle.derivation.specs.Rounds.{RoundsIs}
use Rattle.derivation.specs.FactList.{Span, FactsAre}
use Rattle.grammar.specs.Given.{grammar_given}
use Rattle.filling.specs.Filled.{WorkFilled}
use Rattle.chart.specs.declared.ChartAnswer.{ChartAnswer}
use Rattle.chart.specs.Checks.{chart_checks}
use Rattle.chart.specs.Told.{chart_told}

pub data ChartOutcome (g line words depths : List ℕ) (answer : Result ChartAnswer Refusal) (words' depths' : List ℕ) : Type 0 where
  -- the first refusal is the answer, and no lent memory changes
  turned_down : {refusal : Refusal} →
      reported (chart_checks g line words depths) ≡ Err refusal →
      answer ≡ Err refusal → words' ≡ words → depths' ≡ depths →
      ChartOutcome g line words depths answer words' depths'
  -- rounds and the number of facts are told, and the work memory is filled
  filled : {rounds : ℕ} {facts : List Span} →
      reported (chart_checks g line words depths) ≡ nothing_wrong →
      chart_told answer ≡ told.answered (rounds ∷ length facts ∷ []) →
      RoundsIs (grammar_given g) line rounds → FactsAre (grammar_given g) line facts →
      WorkFilled (grammar_given g) line words depths words' depths' →
      ChartOutcome g line words depths answer words' depths'

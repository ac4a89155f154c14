-- The one outcome of the ends question: the answer, and what all lent memory then holds.
use Rattle.refusals.specs.Check.{nothing_wrong}
use Rattle.std.specs.Prelude.{ℕ, ◌≡◌, ◌↔◌, List, [], ◌∷◌, Err, Result}
use Rattle.refusals.specs.declared.Refusal.{Refusal}
use Rattle.refusals.specs.Order.{reported}
use Rattle.refusals.specs.Told as told
use Rattle.positions.specs.Member.{Member}
use Rattle.positions.specs.Count.{count_below}
use Rattle.positions.specs.BothEnds.{BothEnds}
use Rattle.derivation.specs.Fact.{Fact}
use Rattle.grammar.specs.Given.{grammar_given}
use Rattle.filling.specs.Filled.{WorkFilled}
use Rattle.chart.specs.declared.EndsAnswer.{EndsAnswer}
use Rattle.chart.specs.Checks.{ends_checks}
use Rattle.chart.specs.Told.{ends_told}

pub data EndsOutcome (g line : List ℕ) (A i : ℕ) (words depths : List ℕ) (answer : Result EndsAnswer Refusal) (words' depths' : List ℕ) : Type 0 where
  -- the first refusal is the answer, and no lent memory changes
  turned_down : {refusal : Refusal} →
      reported (ends_checks g line A i words depths) ≡ Err refusal →
      answer ≡ Err refusal → words' ≡ words → depths' ≡ depths →
      EndsOutcome g line A i words depths answer words' depths'
  -- the row of (A, i), the number of its ends, the smallest and the largest are told, and the work memory is filled
  found : {row count smallest largest : ℕ} →
      reported (ends_checks g line A i words depths) ≡ nothing_wrong →
      ends_told answer ≡ told.answered (row ∷ count ∷ smallest ∷ largest ∷ []) →
      ((j : ℕ) → Member row j ↔ Fact (grammar_given g) line A i j) → count ≡ count_below 64 row → BothEnds row smallest largest →
      WorkFilled (grammar_given g) line words depths words' depths' →
      EndsOutcome g line A i words depths answer words' depths'

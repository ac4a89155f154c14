-- The one outcome of the marks question: the answer, and what all lent memory then holds.
use Rattle.std.specs.Prelude.{ℕ, ◌≡◌, List, [], ◌∷◌, length, ltb, Err, Result}
use Rattle.refusals.specs.declared.Refusal.{Refusal}
use Rattle.refusals.specs.declared.Refusal.TheVariants.{MarksTooSmall}
use Rattle.refusals.specs.Check.{Check, nothing_wrong}
use Rattle.refusals.specs.Order.{Checks, early, late, reported}
use Rattle.refusals.specs.Told as told
use Rattle.checks.specs.declared.Asked.TheVariants.{Nothing}
use Rattle.checks.specs.Question.{refuse_if}
use Rattle.grammar.specs.Given.{grammar_given}
use Rattle.filling.specs.Filled.{WorkFilled}
use Rattle.chart.specs.Checks.{checks_of}
use Rattle.marks.specs.Marks.{MarksAre}
use Rattle.marks.specs.Told.{marks_told}

-- room for the marks: a byte for each token
abbrev pub marks_room : (line marks : List ℕ) → Check
marks_room line marks = refuse_if (ltb (length marks) (length line)) (MarksTooSmall (length line))

-- marks checks its room
abbrev pub marks_checks : (g line words depths marks : List ℕ) → Checks
marks_checks g line words depths marks = checks_of g line Nothing words depths nothing_wrong (marks_room line marks)

pub data MarksOutcome (g line words depths marks : List ℕ) (answer : Result ℕ Refusal) (words' depths' marks' : List ℕ) : Type 0 where
  -- 1 to 9 and 14: the first refusal is the answer, and no lent memory changes
  turned_down : {refusal : Refusal} →
      early (marks_checks g line words depths marks) ≡ Err refusal →
      answer ≡ Err refusal → words' ≡ words → depths' ≡ depths → marks' ≡ marks →
      MarksOutcome g line words depths marks answer words' depths' marks'
  -- 11: the work memory is filled, and the marks are untouched
  no_room : {refusal : Refusal} →
      early (marks_checks g line words depths marks) ≡ nothing_wrong → late (marks_checks g line words depths marks) ≡ Err refusal →
      answer ≡ Err refusal →
      WorkFilled (grammar_given g) line words depths words' depths' → marks' ≡ marks →
      MarksOutcome g line words depths marks answer words' depths' marks'
  -- the number of secret tokens is told, the work memory is filled, and the marks are written
  answered : {secret : ℕ} →
      reported (marks_checks g line words depths marks) ≡ nothing_wrong →
      marks_told answer ≡ told.answered (secret ∷ []) →
      WorkFilled (grammar_given g) line words depths words' depths' → MarksAre (grammar_given g) line marks marks' secret →
      MarksOutcome g line words depths marks answer words' depths' marks'

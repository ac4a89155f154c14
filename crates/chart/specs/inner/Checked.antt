-- What a question's first checks find, from the reading of its grammar on: the line, the question's numbers, the work memory.
use Rattle.refusals.specs.declared.Refusal.{Refusal}
use Rattle.std.specs.Prelude.{ℕ, List, Err, Ok, Result}
use Rattle.refusals.specs.Check.{Check}
use Rattle.checks.specs.declared.Asked.{Asked}
use Rattle.checks.specs.inner.Rest.{rest_check}
use Rattle.grammar.specs.declared.reading.Sections.{Sections}

abbrev pub accepted_if : Sections → Check → Result Sections Refusal
accepted_if s (Ok u) = Ok s
accepted_if s (Err refusal) = Err refusal

abbrev pub checked_of : Result Sections Refusal → List ℕ → Asked → (words numbers : ℕ) → Result Sections Refusal
checked_of (Ok s) line asked words numbers = accepted_if s (rest_check s.classes s.categories line asked words numbers)
checked_of (Err refusal) line asked words numbers = Err refusal

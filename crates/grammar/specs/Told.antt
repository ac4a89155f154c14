-- What the reading of a grammar tells: T, N and P, or the number and place of the refusal.
use Rattle.refusals.specs.declared.Refusal.{Refusal}
use Rattle.std.specs.Prelude.{[], ◌∷◌, Err, Ok, Result}
use Rattle.refusals.specs.Row.{row_of}
use Rattle.grammar.specs.declared.reading.Sections.{Sections}
use Rattle.refusals.specs.Told.{Told, answered, refused}

abbrev pub reading_told : Result Sections Refusal → Told
reading_told (Ok s) = answered (s.classes ∷ s.categories ∷ s.rules ∷ [])
reading_told (Err refusal) = refused (row_of refusal)

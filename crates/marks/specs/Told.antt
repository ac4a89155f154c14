-- What the answer of Marks tells: the number of secret tokens, or the number and place of the refusal.
use Rattle.refusals.specs.declared.Refusal.{Refusal}
use Rattle.std.specs.Prelude.{ℕ, [], ◌∷◌, Err, Ok, Result}
use Rattle.refusals.specs.Row.{row_of}
use Rattle.refusals.specs.Told.{Told, answered, refused}

abbrev pub marks_told : Result ℕ Refusal → Told
marks_told (Ok secret) = answered (secret ∷ [])
marks_told (Err refusal) = refused (row_of refusal)

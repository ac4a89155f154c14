-- What the answer of the forest question tells: the number of records, or the number and place of the refusal.
use Rattle.refusals.specs.declared.Refusal.{Refusal}
use Rattle.std.specs.Prelude.{ℕ, [], ◌∷◌, Err, Ok, Result}
use Rattle.refusals.specs.Row.{row_of}
use Rattle.refusals.specs.Told.{Told, answered, refused}

abbrev pub forest_told : Result ℕ Refusal → Told
forest_told (Ok count) = answered (count ∷ [])
forest_told (Err refusal) = refused (row_of refusal)

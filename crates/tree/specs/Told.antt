-- What the answer of Tree tells: the node count, or the number and place of the refusal.
use Rattle.refusals.specs.declared.Refusal.{Refusal}
use Rattle.std.specs.Prelude.{ℕ, [], ◌∷◌, Err, Ok, Result}
use Rattle.refusals.specs.Row.{row_of}
use Rattle.refusals.specs.Told.{Told, answered, refused}

abbrev pub tree_told : Result ℕ Refusal → Told
tree_told (Ok count) = answered (count ∷ [])
tree_told (Err refusal) = refused (row_of refusal)

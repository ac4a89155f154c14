-- What an answer tells in the document's terms.
use Rattle.std.specs.Prelude.{ℕ, List, [], Err, Ok}
use Rattle.refusals.specs.declared.Row.{Row}
use Rattle.refusals.specs.Check.{Check}
use Rattle.refusals.specs.Row.{row_of}

-- the values answered, or the number and place of the refusal
pub data Told : Type 0 where
  answered : List ℕ → Told
  refused : Row → Told

-- a check that passes answers no value
abbrev pub check_told : Check → Told
check_told (Ok u) = answered []
check_told (Err refusal) = refused (row_of refusal)

-- the first where it is a refusal, or else the next
abbrev pub told_first : Told → Told → Told
told_first (refused row) next = refused row
told_first (answered values) next = next

-- How printing ends: after the last piece, or after one that could not be written.
use Rattle.std.specs.Prelude.{ℕ, ◌+◌, ◌≤◌, ◌<◌, ◌≡◌, Bool, true, false, List, [], ◌∷◌, length, take, ltb, Result, Ok, Err}
use Rattle.tree.specs.Bytes.{wrote}
use Rattle.report.specs.Printed.{pieces}
use Rattle.printing.specs.declared.Unwritten.{Unwritten}

-- the row after each of these was written at its front, one after the other
unfoldable pub wrote_each : List ℕ → List (List ℕ) → List ℕ
wrote_each row [] = row
wrote_each row (piece ∷ others) = wrote_each (wrote row 0 piece) others

-- how many pieces were asked for: all of them, or those up to one that could not be written
abbrev pub asked : Result ℕ Unwritten → ℕ
asked (Ok count) = count
asked (Err unwritten) = unwritten.number + 1

-- whether the last of them was written
abbrev pub written : Result ℕ Unwritten → Bool
written (Ok count) = true
written (Err unwritten) = false

-- whether another follows them
abbrev pub more : Result ℕ Unwritten → Bool
more (Ok count) = false
more (Err unwritten) = unwritten.more

pub record Ended (input row row' : List ℕ) (end : Result ℕ Unwritten) : Type 0 where
  -- where the last piece asked for was written, it is the last of all
  pub whole : written end ≡ true → asked end ≡ length (pieces input)
  -- a first piece is asked for, and none past the last
  pub some : 0 < asked end
  pub within : asked end ≤ length (pieces input)
  -- whether another would follow
  pub follows : more end ≡ ltb (asked end) (length (pieces input))
  -- the pieces asked for were written into the row, in their order
  pub holds : row' ≡ wrote_each row (take (asked end) (pieces input))

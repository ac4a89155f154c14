-- What a call that writes bytes into a row leaves, and the place that it answers.
use Rattle.std.specs.Prelude.{ℕ, ◌+◌, ◌≡◌, List, length}
use Rattle.tree.specs.Bytes.{wrote}

-- bytes are written from a place on, and the place after them is answered
pub record Stored (row : List ℕ) (at : ℕ) (bytes row' : List ℕ) (next : ℕ) : Type 0 where
  pub holds : row' ≡ wrote row at bytes
  pub after : next ≡ at + length bytes

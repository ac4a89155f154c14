-- What one call for a piece leaves.
use Rattle.std.specs.Prelude.{ℕ, suc, ◌≡◌, List, [], length, get_or, ltb}
use Rattle.tree.specs.Bytes.{wrote}
use Rattle.report.specs.declared.Piece.{Piece}

-- piece number k of these is written at the front of the row, and it is said whether another follows; past the last piece nothing is written
pub record Yielded (all : List (List ℕ)) (k : ℕ) (row row' : List ℕ) (piece : Piece) : Type 0 where
  pub holds : row' ≡ wrote row 0 (get_or all k [])
  pub long : piece.length ≡ length (get_or all k [])
  pub more : piece.more ≡ ltb (suc k) (length all)

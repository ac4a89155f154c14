-- What a call that prints on a page needs and leaves.
use Rattle.std.specs.Prelude.{ℕ, ◌+◌, ◌≡◌, ◌≤◌, List, [], ◌∷◌, ◌++◌, map, length}
use Rattle.tree.specs.Bytes.{wrote}
use Rattle.lines.specs.Decimal.{decimal}
use Rattle.lines.specs.Lines.{spaced}
use Rattle.lines.specs.declared.writing.Page.{Page}

-- numbers, with a space before each; and a line of a word's bytes and numbers
abbrev pub spaced_numbers : List ℕ → List ℕ
spaced_numbers numbers = spaced (map decimal numbers)

abbrev pub line_with : (word numbers : List ℕ) → List ℕ
line_with word numbers = word ++ (spaced_numbers numbers ++ (10 ∷ []))

-- so many bytes more have room
abbrev pub HasRoom : Page → ℕ → Type 0
HasRoom page n = page.at + n ≤ length page.row.now

-- bytes are printed from the page's place on, the page stands at the place after them, and its row, of the same length, is all else as it was
pub record Printed (page : Page) (bytes : List ℕ) (page' : Page) : Type 0 where
  pub holds : page'.row.now ≡ wrote page.row.now page.at bytes
  pub after : page'.at ≡ page.at + length bytes
  pub fits : page'.at ≤ length page'.row.now
  pub long : length page'.row.now ≡ length page.row.now
  pub same_row : page'.row.ghost_name ≡ page.row.ghost_name

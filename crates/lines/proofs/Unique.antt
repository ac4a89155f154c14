-- Where a contract of this crate is a relation, two outcomes that it allows are equal.
use Prim.Native.Nat.{ℕ}
use mathlib.Core.Path.{◌≡◌, sym, ◌∙◌}
use mathlib.Core.List.{List}
use Rattle.lines.specs.declared.writing.Page.{Page}
use Rattle.lines.specs.inner.Printed.{Printed}
use Rattle.lines.specs.inner.Stored.{Stored}

-- bytes are written in one way
pub stored_unique : (row : List ℕ) (at : ℕ) (bytes : List ℕ) {a b : List ℕ} {m n : ℕ} → Stored row at bytes a m → Stored row at bytes b n → (a ≡ b) × (m ≡ n)
stored_unique row at bytes x y = (x.holds ∙ sym y.holds, x.after ∙ sym y.after)

-- and are printed in one way
pub printed_unique : (page : Page) (bytes : List ℕ) {a b : Page} → Printed page bytes a → Printed page bytes b → (a.row.now ≡ b.row.now) × (a.at ≡ b.at) × (a.row.ghost_name ≡ b.row.ghost_name)
printed_unique page bytes x y = (x.holds ∙ sym y.holds, x.after ∙ sym y.after, x.same_row ∙ sym y.same_row)

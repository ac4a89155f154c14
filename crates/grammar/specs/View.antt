-- A view of grammar bytes: the caller's own bytes, with the counts and the offsets beside them.
use Rattle.std.specs.Prelude.{ℕ, List}
use Rattle.std.specs.Borrow.{Bor}
use Rattle.grammar.specs.declared.reading.Sections.{Sections}
use Rattle.grammar.specs.declared.view.View.{View}

-- the view of bytes whose sections have these counts and offsets
abbrev pub view_of : Bor (List ℕ) → Sections → View
view_of g s =
    record {
      bytes = g;
      sections = record { classes = s.classes; categories = s.categories; rules = s.rules; flags = s.flags; first = s.first; end = s.end };
    }

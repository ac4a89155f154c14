-- The first checks of the tree question: it asks with a category and a span.
use Rattle.refusals.specs.Check.{nothing_wrong}
use Rattle.std.specs.Prelude.{ℕ, List}
use Rattle.refusals.specs.Order.{Checks}
use Rattle.checks.specs.declared.Asked.TheVariants.{Span}
use Rattle.chart.specs.Checks.{checks_of}

abbrev pub tree_checks : (g line : List ℕ) → (A i j : ℕ) → (words depths : List ℕ) → Checks
tree_checks g line A i j words depths = checks_of g line (Span A i j) words depths nothing_wrong nothing_wrong

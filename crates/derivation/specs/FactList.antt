-- The facts of a line as a list.
use Rattle.std.specs.Prelude.{ℕ, ◌↔◌}
use mathlib.Core.List.{List, [], ◌∷◌, Memᴰ}
use Rattle.derivation.specs.Grammar.{Grammar}
use Rattle.derivation.specs.Fact.{Fact}
use Rattle.derivation.specs.Ascending.{Ascending}

-- the document's (A, i, j)
pub record Span : Type 0 where
  pub category : ℕ
  pub start : ℕ
  pub end : ℕ

-- A, i, j
abbrev pub span_numbers : Span → List ℕ
span_numbers s = s.category ∷ s.start ∷ s.end ∷ []

-- l lists the facts of the line w: its members are exactly the facts, ascending by A, i, j
pub record FactsAre (g : Grammar) (w : List ℕ) (l : List Span) : Type 0 where
  pub each : (s : Span) → Memᴰ s l ↔ Fact g w s.category s.start s.end
  pub ascending : Ascending span_numbers l

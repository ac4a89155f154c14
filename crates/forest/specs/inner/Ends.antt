-- Sets of ends: of a symbol from one position, of a symbol from the positions of a set, and of a rule's first symbols.
use Rattle.std.specs.Prelude.{ℕ, ◌↔◌, get_or, take}
use Rattle.positions.specs.Member.{Member}
use Rattle.derivation.specs.Tree.{Child, Children}
use Rattle.grammar.specs.Value.{standing}
use Rattle.grammar.specs.Checked.{grammar_in}
use Rattle.forest.specs.declared.place.Chart.{Chart}

-- symbol d, counted from 0, of the rule that stands at `at` derives m..j
abbrev pub SymbolDerives : Chart → ℕ → ℕ → ℕ → ℕ → Type 0
SymbolDerives chart at d m j = Child (grammar_in chart.grammar) chart.line.now (get_or (standing chart.grammar.view.bytes.now at).right d 0) m j

-- r is the set of its ends from m
abbrev pub SymbolEnds : Chart → ℕ → ℕ → ℕ → ℕ → Type 0
SymbolEnds chart at d m r = (j : ℕ) → Member r j ↔ SymbolDerives chart at d m j

-- r is the set of its ends from the positions of a set
abbrev pub StepEnds : Chart → ℕ → ℕ → ℕ → ℕ → Type 0
StepEnds chart at d set r = (j : ℕ) → Member r j ↔ ((m : ℕ) × Member set m × SymbolDerives chart at d m j)

-- the first d symbols derive i..m
abbrev pub Reached : Chart → ℕ → ℕ → ℕ → ℕ → Type 0
Reached chart at d i m = Children (grammar_in chart.grammar) chart.line.now (take d (standing chart.grammar.view.bytes.now at).right) i m

-- r is the set of the ends of the first d symbols from i
abbrev pub PrefixEnds : Chart → ℕ → ℕ → ℕ → ℕ → Type 0
PrefixEnds chart at d i r = (m : ℕ) → Member r m ↔ Reached chart at d i m

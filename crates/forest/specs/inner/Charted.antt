-- What the records are read from: a grammar, a line of its classes, and words that hold every fact.
use Rattle.std.specs.Prelude.{ℕ, ◌+◌, ◌*◌, ◌≤◌, ◌<◌, ◌↔◌, List, length, get_or}
use Rattle.positions.specs.Member.{Member}
use Rattle.derivation.specs.Fact.{Fact}
use Rattle.checks.specs.Line.{IsLine}
use Rattle.checks.specs.Memory.{chart_size}
use Rattle.grammar.specs.declared.view.Checked.{Checked}
use Rattle.grammar.specs.Value.{Found}
use Rattle.grammar.specs.Checked.{grammar_in}

-- word A×(n+1)+i has bit j set exactly for fact (A, i, j)
pub record Charted (grammar : Checked) (line words : List ℕ) : Type 0 where
  pub is_line : IsLine grammar.view.sections.classes line
  pub room : chart_size grammar.view.sections.categories (length line) ≤ length words
  pub word :
      (A i : ℕ) → A < length (grammar_in grammar).categories → i ≤ length line → (j : ℕ) →
      Member (get_or words (A * (length line + 1) + i) 0) j ↔ Fact (grammar_in grammar) line A i j

-- rule p stands at a position
pub record RuleStands (grammar : Checked) (p at : ℕ) : Type 0 where
  pub below : p < grammar.view.sections.rules
  pub found : Found grammar.view.bytes.now grammar.view.sections p at

-- What the search at a node answers: the rule and the child ends that are shown.
use Rattle.std.specs.Prelude.{ℕ, suc, ◌-◌, ◌<◌, ◌≡◌, List, length, get_or, drop}
use Rattle.derivation.specs.Grammar.{Grammar, rule_at}
use Rattle.derivation.specs.computed.Table.{depth_of}
use Rattle.derivation.specs.computed.Shown.{chosen_rule, chosen_end}
use Rattle.tree.specs.declared.kept.Span.{Span}
use Rattle.tree.specs.declared.search.Found.{Found}

-- the first division of i..j among symbols: the start, then the end of each symbol, chosen from the left
pub record Division (G : Grammar) (line : List ℕ) (h : ℕ) (symbols : List ℕ) (i j : ℕ) (ends : List ℕ) : Type 0 where
  pub first : get_or ends 0 0 ≡ i
  pub each : (d : ℕ) → d < length symbols → get_or ends (suc d) 0 ≡ chosen_end G line (depth_of G line) h (get_or symbols d 0) (drop (suc d) symbols) (get_or ends d 0) j

-- one less than a fact's depth: the most that its children have
abbrev pub child_limit : Grammar → List ℕ → Span → ℕ
child_limit G line span = depth_of G line span.category span.start span.end - 1

-- the rule that is chosen for a fact, its symbols, and their division
pub record Searched (G : Grammar) (line : List ℕ) (span : Span) (found : Found) : Type 0 where
  pub rule : found.rule ≡ chosen_rule G line (depth_of G line) (child_limit G line span) span.category span.start span.end
  pub symbols : found.symbols.now ≡ (rule_at G found.rule).right
  pub division : Division G line (child_limit G line span) found.symbols.now span.start span.end found.ends

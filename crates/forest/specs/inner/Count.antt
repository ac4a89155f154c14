-- The number of records, by rule, place and start. A symbol is numbered from 0, its place from 1.
use Rattle.std.specs.Prelude.{ℕ, suc, Bool, ◌&&◌, cond, List, length, get_or, take}
use Rattle.derivation.specs.Grammar.{Grammar}
use Rattle.derivation.specs.computed.Round.{child, children}
use Rattle.derivation.specs.computed.Facts.{facts}
use Rattle.derivation.specs.computed.FactCount.{total}
use Rattle.grammar.specs.Value.{standing}
use Rattle.grammar.specs.Checked.{grammar_in}
use Rattle.forest.specs.declared.place.Chart.{Chart}

-- the symbols before symbol d derive i..m and symbol d derives m..j
abbrev pub derives : Grammar → List ℕ → List ℕ → ℕ → ℕ → ℕ → ℕ → Bool
derives G line symbols d i m j = children line (facts G line) (take d symbols) i m && child line (facts G line) (get_or symbols d 0) m j

abbrev pub middle_count : Grammar → List ℕ → List ℕ → ℕ → ℕ → ℕ → ℕ
middle_count G line symbols d i m = total (λ j. cond (derives G line symbols d i m j) 1 0) (suc (length line))

abbrev pub start_count : Grammar → List ℕ → List ℕ → ℕ → ℕ → ℕ
start_count G line symbols d i = total (middle_count G line symbols d i) (suc (length line))

abbrev pub place_count : Grammar → List ℕ → List ℕ → ℕ → ℕ
place_count G line symbols d = total (start_count G line symbols d) (suc (length line))

abbrev pub rule_count : Grammar → List ℕ → List ℕ → ℕ
rule_count G line symbols = total (place_count G line symbols) (length symbols)

-- the same of a chart, by the rule that stands at a position
abbrev pub start_records : Chart → ℕ → ℕ → ℕ → ℕ
start_records chart at = start_count (grammar_in chart.grammar) chart.line.now (standing chart.grammar.view.bytes.now at).right

abbrev pub place_records : Chart → ℕ → ℕ → ℕ
place_records chart at = place_count (grammar_in chart.grammar) chart.line.now (standing chart.grammar.view.bytes.now at).right

abbrev pub rule_records : Chart → ℕ → ℕ
rule_records chart at = rule_count (grammar_in chart.grammar) chart.line.now (standing chart.grammar.view.bytes.now at).right

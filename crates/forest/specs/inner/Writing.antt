-- The records as they are written, at the front of a row.
use Rattle.std.specs.Prelude.{ℕ, suc, ◌≡◌, List, ◌++◌, map, length, drop}
use Rattle.derivation.specs.computed.Forest.{forest}
use Rattle.grammar.specs.Checked.{grammar_in}
use Rattle.forest.specs.declared.Branch.{Branch}
use Rattle.forest.specs.declared.place.Chart.{Chart}
use Rattle.forest.specs.Record.{record_of}
use Rattle.forest.specs.inner.Parts.{middle_part, start_part, place_part, rule_part}

-- the rows of all records, and those of a rule p, its symbol d (counted from 0), a start i and a middle m
abbrev pub all_rows : Chart → List Branch
all_rows chart = map record_of (forest (grammar_in chart.grammar) chart.line.now)

abbrev pub rule_rows : Chart → ℕ → List Branch
rule_rows chart p = map record_of (rule_part (grammar_in chart.grammar) chart.line.now p)

abbrev pub place_rows : Chart → ℕ → ℕ → List Branch
place_rows chart p d = map record_of (place_part (grammar_in chart.grammar) chart.line.now p (suc d))

abbrev pub start_rows : Chart → ℕ → ℕ → ℕ → List Branch
start_rows chart p d i = map record_of (start_part (grammar_in chart.grammar) chart.line.now p (suc d) i)

abbrev pub middle_rows : Chart → ℕ → ℕ → ℕ → ℕ → List Branch
middle_rows chart p d i m = map record_of (middle_part (grammar_in chart.grammar) chart.line.now p (suc d) i m)

-- l is written at the front of the rows, and the others are as before
pub record Front (l rows rows' : List Branch) (written : ℕ) : Type 0 where
  pub count : written ≡ length l
  pub laid : rows' ≡ l ++ drop (length l) rows

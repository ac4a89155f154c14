-- A question's grammar: what its reading finds as one check, its counts, and the grammar that it is.
use Rattle.refusals.specs.declared.Refusal.{Refusal}
use Rattle.std.specs.Prelude.{ℕ, List, Err, Ok, Result}
use Rattle.refusals.specs.Check.{Check, nothing_wrong}
use Rattle.derivation.specs.Grammar.{Grammar}
use Rattle.grammar.specs.declared.reading.Sections.{Sections}
use Rattle.grammar.specs.Reading.{read_of}
use Rattle.grammar.specs.Value.{grammar_of}

abbrev pub check_of : Result Sections Refusal → Check
check_of (Ok s) = nothing_wrong
check_of (Err refusal) = Err refusal

-- the counts and offsets of accepted bytes; all 0 where they are refused, and then no one asks
abbrev pub sections_in : Result Sections Refusal → Sections
sections_in (Ok s) = s
sections_in (Err refusal) = record { classes = 0; categories = 0; rules = 0; flags = 0; first = 0; end = 0 }

abbrev pub grammar_check : List ℕ → Check
grammar_check g = check_of (read_of g)

abbrev pub sections_given : List ℕ → Sections
sections_given g = sections_in (read_of g)

-- the grammar that accepted bytes stand for
abbrev pub grammar_given : List ℕ → Grammar
grammar_given g = grammar_of g (sections_given g)

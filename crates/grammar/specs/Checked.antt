-- A checked view of grammar bytes.
use Rattle.derivation.specs.Grammar.{Grammar}
use Rattle.grammar.specs.declared.view.Checked.{Checked}
use Rattle.grammar.specs.Value.{grammar_of}

-- the grammar that its bytes stand for
abbrev pub grammar_in : Checked → Grammar
grammar_in c = grammar_of c.view.bytes.now c.view.sections

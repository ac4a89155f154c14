-- `next` has gained what the rules passed that are run derive.
use Rattle.std.proofs.Common.{map}
use Rattle.grammar.specs.Checked.{grammar_in}
use Rattle.filling.specs.declared.tables.MaskedRule.{MaskedRule}
use Rattle.filling.proofs.RuleLaws.{RulesBelow}
use Rattle.filling.proofs.rounds.apply_rules.Given as goal

abbrev pub invariant-loop-entry : goal.invariant-loop-entry
invariant-loop-entry l =
    RulesBelow (grammar_in l.rules.grammar) (map (λ (r : MaskedRule). r.mask) l.rules.table) l.changed l.chart.words.now l.chart.places.now l.chart.width l.entry-index l.initial.next l.next

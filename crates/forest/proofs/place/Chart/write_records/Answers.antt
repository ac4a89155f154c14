-- Each turn writes the records of one more rule.
use Rattle.std.proofs.Common.{◌≡◌, List, length, sym, ap, arith}
use Rattle.grammar.specs.Checked.{grammar_in}
use Rattle.grammar.proofs.Accepted.{start_none}
use Rattle.forest.specs.declared.Branch.{Branch}
use Rattle.forest.specs.inner.Charted.{RuleStands}
use Rattle.forest.specs.inner.Writing.{rule_rows}
use Rattle.forest.proofs.RuleLaws.{rules_all, rule_found, rule_next}
use Rattle.forest.proofs.RowLaws.{all_rows_are, gathered_begins, gathered_room, gathered_more}
use Rattle.forest.proofs.place.Chart.write_records.Goals as goal
use Rattle.forest.proofs.place.Chart.write_records.Goals.{In-loop-rule}

-- the rule of this turn
here : (c : In-loop-rule) → RuleStands c.args.self.now.grammar c.loop-rule.rule c.loop-rule.at
here c = rule_found _ _ _ c.loop-rule.invariant.place c.loop-rule-test.true

pub loop-rule-init : goal.loop-rule-init
loop-rule-init c = record { place = sym (start_none _ _); front = gathered_begins _ _ }

pub write_rule-written-requires-clause-stands : goal.write_rule-written-requires-clause-stands
write_rule-written-requires-clause-stands c = here (goal.at.write_rule-written-requires-clause-stands c).In-loop-rule

pub write_rule-written-requires-clause-room : goal.write_rule-written-requires-clause-room
write_rule-written-requires-clause-room c =
    let chart = c.args.self.now in
    let same = all_rows_are chart in
    gathered_room (rule_rows chart) c.loop-rule.invariant.front (length (grammar_in chart.grammar).rules) (omega (arith, rules_all chart.grammar)) (omega (arith, ap (λ (s : List Branch). length s) same, c.requires))

pub invariant_of-after : goal.invariant_of-after
invariant_of-after c = record { stands = (here (goal.at.invariant_of-after c).In-loop-rule).found.stands }

pub loop-rule-preserved : goal.loop-rule-preserved
loop-rule-preserved c =
    let chart = c.args.self.now in
    let same = all_rows_are chart in
    record {
      place = rule_next chart.grammar _ _ c.loop-rule.invariant.place _ c.after-at.ensures;
      front = gathered_more (rule_rows chart) c.loop-rule.invariant.front (length (grammar_in chart.grammar).rules) (omega (arith, rules_all chart.grammar)) (omega (arith, ap (λ (s : List Branch). length s) same, c.requires)) c.write_rule-written.ensures;
    }

pub returns : goal.returns
returns c =
    let chart = c.args.self.now in
    let all : c.loop-rule.rule ≡ length (grammar_in chart.grammar).rules = omega (arith, rules_all chart.grammar) in
    rw (← all_rows_are chart) (rw all at c.loop-rule.invariant.front)

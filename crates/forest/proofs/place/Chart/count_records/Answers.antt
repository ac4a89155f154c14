-- Each turn counts one more rule; few are counted in all.
use Rattle.std.proofs.Common.{◌≡◌, ℕ, ◌+◌, ◌≤◌, length, sym, ap, ◌∙◌, arith}
use Rattle.derivation.specs.Grammar.{Rule, Grammar}
use Rattle.derivation.specs.computed.FactCount.{total}
use Rattle.derivation.proofs.Totals.{total_none, total_next}
use Rattle.grammar.specs.Value.{standing}
use Rattle.grammar.specs.Checked.{grammar_in}
use Rattle.grammar.proofs.Accepted.{start_none}
use Rattle.grammar.proofs.Encoded.{sections_within}
use Rattle.forest.specs.declared.place.Chart.{Chart}
use Rattle.forest.specs.inner.Charted.{RuleStands}
use Rattle.forest.specs.inner.Count.{rule_count}
use Rattle.forest.proofs.ChartLaws.{opened}
use Rattle.forest.proofs.RuleLaws.{rules_few, rules_all, rule_found, rule_next}
use Rattle.forest.proofs.CountLaws.{numbered_records, all_le, forest_counted}
use Rattle.forest.proofs.place.Chart.count_records.Goals as goal
use Rattle.forest.proofs.place.Chart.count_records.Goals.{In-loop-rule}

-- the records of a rule that stands somewhere, and all up to it
module _ (chart : Chart) (p at : ℕ) (stands : RuleStands chart.grammar p at) where
  abbrev G : Grammar
  G = grammar_in chart.grammar

  counted : rule_count G chart.line.now (standing chart.grammar.view.bytes.now at).right ≡ numbered_records G chart.line.now p
  counted = ap (λ (r : Rule). rule_count G chart.line.now r.right) stands.found.is

  few : total (numbered_records G chart.line.now) (p + 1) ≤ 268435456
  few =
      all_le G chart.line.now (opened chart.charted).is_line.short (p + 1) (omega (arith, stands.below, rules_few chart.grammar))
      (λ q h. ((sections_within _ _ chart.grammar.sectioned).each q (omega (arith, h, stands.below, rules_all chart.grammar))).long)

-- the rule of this turn
here : (c : In-loop-rule) → RuleStands c.args.self.now.grammar c.loop-rule.rule c.loop-rule.at
here c = rule_found _ _ _ c.loop-rule.invariant.place c.loop-rule-test.true

pub loop-rule-init : goal.loop-rule-init
loop-rule-init c = record { place = sym (start_none _ _); records = sym (total_none _) }

pub count_rule-records-requires : goal.count_rule-records-requires
count_rule-records-requires c = here (goal.at.count_rule-records-requires c).In-loop-rule

pub overflow_add-records : goal.overflow_add-records
overflow_add-records c =
    let chart = c.args.self.now in
    let l = c.loop-rule in
    let h = here (goal.at.overflow_add-records c).In-loop-rule in
    omega (arith, l.invariant.records, c.count_rule-records.ensures, counted chart _ _ h, few chart _ _ h, total_next (numbered_records (grammar_in chart.grammar) chart.line.now) l.rule)

pub invariant_of-after : goal.invariant_of-after
invariant_of-after c = record { stands = (here (goal.at.invariant_of-after c).In-loop-rule).found.stands }

pub loop-rule-preserved : goal.loop-rule-preserved
loop-rule-preserved c =
    let chart = c.args.self.now in
    let l = c.loop-rule in
    let h = here (goal.at.loop-rule-preserved c).In-loop-rule in
    record {
      place = rule_next chart.grammar _ _ l.invariant.place _ c.after-at.ensures;
      records = omega (arith, l.invariant.records, c.count_rule-records.ensures, counted chart _ _ h, total_next (numbered_records (grammar_in chart.grammar) chart.line.now) l.rule);
    }

pub returns : goal.returns
returns c =
    let all : c.loop-rule.rule ≡ length (grammar_in c.args.self.now.grammar).rules = omega (arith, rules_all c.args.self.now.grammar) in
    rw all at c.loop-rule.invariant.records ∙ sym (forest_counted _ _)

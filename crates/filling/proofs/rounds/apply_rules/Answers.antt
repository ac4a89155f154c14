-- A rule that is run is applied where it stands; one that is not run derives nothing more.
use Rattle.std.proofs.Common.{arith}
use Rattle.std.proofs.lemmas.List.{length-take-le, length-map}
use Rattle.grammar.proofs.Accepted.{whole}
use Rattle.grammar.proofs.Encoded.{rule_count_lem}
use Rattle.filling.specs.declared.tables.MaskedRule.{MaskedRule}
use Rattle.filling.proofs.TableLaws.{rule_there}
use Rattle.filling.proofs.RuleLaws.{rules_none, rules_skip, rules_run, rules_all, rule_is, rule_left_few, rule_room, rule_chart}
use Rattle.filling.proofs.rounds.apply_rules.Goals as goal
use Rattle.filling.proofs.rounds.apply_rules.Goals.{then-entry-changed-ne0, else-entry-changed-ne0}

pub loop-entry-init : goal.loop-entry-init
loop-entry-init c = rules_none

pub invariant_of-rule : goal.invariant_of-rule
invariant_of-rule c = record { stands = (rule_there _ _ _ c.args.rules.now.placed c.loop-entry.entry-index c.loop-entry-test.true).found.stands }

pub apply-requires : goal.apply-requires
apply-requires c =
    let p = c.loop-entry.entry-index in
    let t = rule_there _ _ _ c.args.rules.now.placed p c.loop-entry-test.true in (
      rw c.symbols.ensures (rule_room _ _ c.args.rules.now.grammar.sectioned p _ t.found t.below _ _ c.requires),
      rw c.left.ensures (rule_left_few _ _ c.args.rules.now.grammar.sectioned p _ t.found t.below),
    )

pub loop-entry-preserved : goal.loop-entry-preserved
loop-entry-preserved c =
    let l = c.loop-entry in
    let p = l.entry-index in
    let t = rule_there _ _ _ c.args.rules.now.placed p c.loop-entry-test.true in
    elim c.if-entry-changed-ne0.branch [
      | then-entry-changed-ne0 w ↦
          rw w.next-is
          (rules_run p _ _ _ _ (rule_is _ _ c.args.rules.now.grammar.sectioned p _ t.found t.below) (rw t.mask w.if-entry-changed-ne0.true)
          (rule_chart _ _ c.args.rules.now.grammar.sectioned p _ t.found t.below _ _ _)
          (rw (w.symbols.ensures, w.left.ensures) at w.apply.ensures)
          l.invariant)
      | else-entry-changed-ne0 w ↦ rw w.next-is (rules_skip p _ (rw t.mask w.if-entry-changed-ne0.false) l.invariant)
    ]

pub returns : goal.returns
returns c =
    let k = length-take-le c.args.rules.now.grammar.view.sections.rules c.args.rules.now.table (omega (arith, (whole _ _ c.args.rules.now.grammar.sectioned).rules_high, length-map c.args.rules.now.table (λ (r : MaskedRule). r.at), c.args.rules.now.placed.long)) in
    rules_all _ _ (rw (rule_count_lem _ _ c.args.rules.now.grammar.sectioned) (omega (arith, k))) c.loop-entry.invariant

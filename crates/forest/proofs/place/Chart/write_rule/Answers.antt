-- Each turn writes the records of one more place.
use Rattle.std.proofs.Common.{◌≡◌, ℕ, List, length, ap, ◌∙◌, arith}
use Rattle.derivation.specs.Grammar.{Rule}
use Rattle.derivation.specs.computed.Listing.{gathered}
use Rattle.grammar.specs.Value.{standing}
use Rattle.forest.specs.declared.Branch.{Branch}
use Rattle.forest.specs.declared.place.Chart.{Chart}
use Rattle.forest.specs.inner.Charted.{RuleStands}
use Rattle.forest.specs.inner.Writing.{place_rows, rule_rows}
use Rattle.forest.proofs.RowLaws.{rule_rows_are, gathered_begins, gathered_room, gathered_more}
use Rattle.forest.proofs.place.Chart.write_rule.Goals as goal

-- the rows of the rule, by the rule that stands there
rows_are : (chart : Chart) (p at : ℕ) → RuleStands chart.grammar p at → gathered (length (standing chart.grammar.view.bytes.now at).right) (place_rows chart p) ≡ rule_rows chart p
rows_are chart p at stands = ap (λ (r : Rule). gathered (length r.right) (place_rows chart p)) stands.found.is ∙ rule_rows_are chart p

pub loop-d-init : goal.loop-d-init
loop-d-init c = gathered_begins _ _

pub write-written-requires : goal.write-written-requires
write-written-requires c =
    let chart = c.args.self.now in
    let same = rows_are chart c.args.rule c.args.at c.requires.stands in
    gathered_room (place_rows chart c.args.rule) c.loop-d.invariant (length (standing chart.grammar.view.bytes.now c.args.at).right) (omega arith) (omega (arith, ap (λ (s : List Branch). length s) same, c.requires.room))

pub loop-d-preserved : goal.loop-d-preserved
loop-d-preserved c =
    let chart = c.args.self.now in
    let same = rows_are chart c.args.rule c.args.at c.requires.stands in
    gathered_more (place_rows chart c.args.rule) c.loop-d.invariant (length (standing chart.grammar.view.bytes.now c.args.at).right) (omega arith) (omega (arith, ap (λ (s : List Branch). length s) same, c.requires.room)) c.write-written.ensures

pub returns : goal.returns
returns c =
    let chart = c.args.self.now in
    let all : c.loop-d.d ≡ length (standing chart.grammar.view.bytes.now c.args.at).right = omega arith in
    rw (← rows_are chart c.args.rule c.args.at c.requires.stands) (rw all at c.loop-d.invariant)

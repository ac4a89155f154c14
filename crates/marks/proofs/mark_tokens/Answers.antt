-- The mark of a token, from the spans that begin before the next one or at it.
use Rattle.std.proofs.Common.{arith, ◌+◌}
use Rattle.grammar.specs.Checked.{grammar_in}
use Rattle.grammar.proofs.Encoded.{category_count_lem, sections_proper}
use Rattle.marks.specs.Marks.{MarkIs}
use Rattle.marks.proofs.MarkLaws.{SpansReach, spans_none, spans_more, mark_reached, mark_flag, marked_none, marked_more, marked_all}
use Rattle.marks.proofs.mark_tokens.Goals as goal
use Rattle.marks.proofs.mark_tokens.Goals.{then-token-reach, else-token-reach}

pub loop-token-init : goal.loop-token-init
loop-token-init c = record { spans = spans_none; below = marked_none }

pub reach_from-reach-requires : goal.reach_from-reach-requires
reach_from-reach-requires c =
    let p = c.requires in (rw (category_count_lem _ _ c.args.grammar.sectioned) at p.1.room, omega arith, omega (arith, p.0.short))

pub loop-token-preserved : goal.loop-token-preserved
loop-token-preserved c =
    let l = c.loop-token in
    let p = c.requires in
    let spans : SpansReach (grammar_in c.args.grammar) c.args.line.now (l.token + 1) c.reach_from-reach.result =
    spans_more c.args.words.now l.token l.reach _ c.loop-token-test.true (sections_proper _ _ c.args.grammar.sectioned) p.1 l.invariant.spans c.reach_from-reach.ensures in
    let mark : MarkIs (grammar_in c.args.grammar) c.args.line.now l.token c.if-token-reach.mark =
    elim c.if-token-reach.branch [
      | then-token-reach w ↦ rw w.mark-is (mark_reached l.token _ spans w.if-token-reach.true)
      | else-token-reach w ↦ rw w.mark-is (mark_flag l.token _ spans _ c.loop-token-test.true w.if-token-reach.false w.class_flag-mark.ensures.0 w.class_flag-mark.ensures.1)
    ] in
    record { spans = spans; below = marked_more l.token _ l.secret l.marks (omega (arith, l.invariant.below.long, p.2)) mark l.invariant.below }

pub returns : goal.returns
returns c = marked_all c.loop-token.token _ _ (omega arith) c.loop-token.invariant.below

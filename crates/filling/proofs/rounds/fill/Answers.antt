-- Each round makes what holds after h rounds hold after one more; after one that adds nothing the memory is filled.
use Rattle.std.proofs.Common.{ℕ, List, ◌<◌, arith}
use Rattle.std.proofs.Math.Nat.{le_trans}
use Rattle.checks.specs.Line.{IsLine}
use Rattle.grammar.specs.declared.reading.Sections.{Sections}
use Rattle.grammar.specs.Value.{Sectioned, grammar_of}
use Rattle.grammar.proofs.Accepted.{whole}
use Rattle.grammar.proofs.Encoded.{category_count_lem, sections_within, sections_proper}
use Rattle.filling.proofs.ClearLaws.{cleared_front}
use Rattle.filling.proofs.FillLaws.{Given, rounds_few, round_ready, round_done, start_done, some_round, rounds_filled}
use Rattle.filling.proofs.rounds.fill.Goals as goal

given : (g line : List ℕ) (s : Sections) → Sectioned g s → IsLine s.classes line → Given (grammar_of g s) line
given g line s read is = record { limits = sections_within g s read; proper = sections_proper g s read; short = is.short }

pub class_places-places-requires : goal.class_places-places-requires
class_places-places-requires c = record { short = c.requires.0.short; tokens = λ t l. le_trans (c.requires.0.tokens t l) (whole _ _ c.args.grammar.sectioned).classes_high }

pub loop-changed-init : goal.loop-changed-init
loop-changed-init c = record {
  few = omega arith;
  done =
      start_done _ _ _ _ _ _ _ _ (category_count_lem _ _ c.args.grammar.sectioned) c.insert-changed.ensures
      (cleared_front _ _ _ c.requires.1 (c.fill.ensures.after (λ y e. e)))
      (cleared_front _ _ _ c.requires.2 (c.fill-2.ensures.after (λ y e. e)))
      c.requires.1 c.requires.2;
}

pub overflow_add-depth : goal.overflow_add-depth
overflow_add-depth c = omega (arith, rounds_few (given _ _ _ c.args.grammar.sectioned c.requires.0) (omega (arith, c.loop-changed-test.true)) c.loop-changed.invariant.done.changes)

pub commit-changed-requires : goal.commit-changed-requires
commit-changed-requires c =
    let l = c.loop-changed in
    let p = c.requires in
    let e = c.args.grammar.sectioned in (
      round_ready (given _ _ _ e p.0) l.depth l.changed _ _ l.words l.next l.depths _ _ _ l.invariant.done c.new-rules.ensures.masks c.class_places-places.ensures
          (rw c.new-rules.ensures.grammar at c.apply_rules.ensures) _ (category_count_lem _ _ e) p.1 p.2,
      (whole _ _ e).categories_high,
      omega (arith, p.0.short),
    )

pub loop-changed-smaller : goal.loop-changed-smaller
loop-changed-smaller c = omega (arith, rounds_few (given _ _ _ c.args.grammar.sectioned c.requires.0) (omega (arith, c.loop-changed-test.true)) c.loop-changed.invariant.done.changes)

pub loop-changed-preserved : goal.loop-changed-preserved
loop-changed-preserved c =
    let l = c.loop-changed in
    let p = c.requires in
    let e = c.args.grammar.sectioned in
    let some : 0 < l.changed = omega (arith, c.loop-changed-test.true) in
    record {
      few = omega (arith, rounds_few (given _ _ _ e p.0) some l.invariant.done.changes);
      done =
          round_done (given _ _ _ e p.0) l.depth l.changed _ _ l.words l.next l.depths _ _ _ l.invariant.done c.new-rules.ensures.masks c.class_places-places.ensures
          (rw c.new-rules.ensures.grammar at c.apply_rules.ensures) _ _ _ _ (category_count_lem _ _ e) some c.commit-changed.ensures;
    }

pub overflow_sub-result : goal.overflow_sub-result
overflow_sub-result c = some_round c.loop-changed-test.false c.loop-changed.invariant.done.changes

pub returns : goal.returns
returns c =
    let l = c.loop-changed in
    rounds_filled (given _ _ _ c.args.grammar.sectioned c.requires.0) l.depth l.changed _ _ l.words l.next l.depths c.loop-changed-test.false l.invariant.done

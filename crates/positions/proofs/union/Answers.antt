-- `union`: a turn takes the first member that is left, or the run that begins with it.
use Rattle.std.proofs.Common.{◌≡◌, ◌+◌, ◌-◌, ◌*◌, ◌/◌, ◌%◌, ◌^◌, ◌<◌, arith}
use lib.Bits.{and_le_l}
use Rattle.positions.specs.Member.{Member}
use Rattle.positions.proofs.Members.{none_member}
use Rattle.positions.proofs.Taking.{taken}
use Rattle.positions.proofs.Cuts.{from_member, below_member, run, run_some, past_some, past_member, past_less}
use Rattle.positions.proofs.Unions.{gathered_none, gathered_first, gathered_more, gathered_same, gathered_all, row_leads, part_inside, part_length, part_leads, union_is, union_none}
use Rattle.positions.proofs.union.Goals as goal

pub returns-then-width-from : goal.returns-then-width-from
returns-then-width-from c = union_none _ _ _ _ _ c.if-width-from.true

pub loop-left-init : goal.loop-left-init
loop-left-init c =
    let a = c.args in
    let cut = from_member a.set a.from c.ranges.set.fits in
    let both = below_member ((a.set / 2 ^ a.from * 2 ^ a.from) % 2 ^ 64) a.width c.requires.0 in
    record {
      word = omega (arith, and_le_l ((a.set / 2 ^ a.from * 2 ^ a.from) % 2 ^ 64) (18446744073709551615 / 2 ^ (64 - a.width)));
      gathered = gathered_none _ _ _ (λ m j h l. (both m).1 ((cut m).1 (h, l.0), l.1)) (λ m h. ((cut m).0 ((both m).0 h).0).0);
      bounds = λ m h. let p = (both m).0 h in (((cut m).0 p.0).1, p.1);
    }

pub overflow_shr-runs-else-runs-eq0 : goal.overflow_shr-runs-else-runs-eq0
overflow_shr-runs-else-runs-eq0 c = (taken _ _ c.first-m.ensures c.loop-left.invariant.word c.loop-left-test.true).small

pub bounds-rows-base : goal.bounds-rows-base
bounds-rows-base c =
    let t = taken _ _ c.first-m.ensures c.loop-left.invariant.word c.loop-left-test.true in
    omega (arith, c.requires.1, (c.loop-left.invariant.bounds _ t.here).1)

pub loop-left-preserved-then-runs-m-eq0 : goal.loop-left-preserved-then-runs-m-eq0
loop-left-preserved-then-runs-m-eq0 c =
    let l = c.loop-left in
    let t = taken _ _ c.first-m.ensures l.invariant.word c.loop-left-test.true in
    record {
      word = omega (arith, l.invariant.word, t.less);
      gathered = gathered_first _ _ _ _ _ _ t l.invariant.gathered (row_leads _ _ _ _ _ (l.invariant.bounds _ t.here));
      bounds = λ m h. l.invariant.bounds m ((t.rest m).0 h).0;
    }

pub overflow_sub-last : goal.overflow_sub-last
overflow_sub-last c =
    let t = taken _ _ c.first-m.ensures c.loop-left.invariant.word c.loop-left-test.true in
    omega (arith, run_some _ _ _ c.loop-left.invariant.word c.first.ensures t.here)

pub slice_bounds-row-items-end : goal.slice_bounds-row-items-end
slice_bounds-row-items-end c =
    let r = run _ _ _ c.loop-left.invariant.word c.loop-left-test.true c.first-m.ensures c.first.ensures in
    omega (arith, c.requires.1, (c.loop-left.invariant.bounds _ r.last).1)

pub loop-row-init : goal.loop-row-init
loop-row-init c =
    let f = c.first-m.ensures in
    gathered_same _ _ _ _ c.loop-left.invariant.gathered _ (λ x h. h.0) (λ x h. let low : x < c.first-m.result → ⊥ = λ l. f.none_below x l h in (h, omega arith))

pub loop-row-preserved : goal.loop-row-preserved
loop-row-preserved c =
    let l = c.loop-row in
    let r = run _ _ _ c.loop-left.invariant.word c.loop-left-test.true c.first-m.ensures c.first.ensures in
    let at = c.first-m.result + l.row-index in
    let inside = part_inside c.args.rows.now (c.args.base + c.first-m.result) _ _ c.loop-row-test.true in
    let here : Member c.loop-left.left at = r.each at (omega arith) (omega (arith, inside)) in
    gathered_more _ _ _ _ l.invariant _ (λ x h. (h.0, omega (arith, h.1))) at (here, omega arith) (λ x h n. (h.0, omega (arith, h.1))) _ (part_leads _ _ _ _ _ _ _ inside (c.loop-left.invariant.bounds at here))

pub overflow_shr-left-else-runs-m-eq0-2 : goal.overflow_shr-left-else-runs-m-eq0-2
overflow_shr-left-else-runs-m-eq0-2 c =
    (run _ _ _ c.loop-left.invariant.word c.loop-left-test.true c.first-m.ensures c.first.ensures).small

pub overflow_sub-left-else-runs-m-eq0 : goal.overflow_sub-left-else-runs-m-eq0
overflow_sub-left-else-runs-m-eq0 c =
    let r = run _ _ _ c.loop-left.invariant.word c.loop-left-test.true c.first-m.ensures c.first.ensures in
    past_some _ _ c.loop-left.invariant.word r.last

pub overflow_shl-left-else-runs-m-eq0 : goal.overflow_shl-left-else-runs-m-eq0
overflow_shl-left-else-runs-m-eq0 c =
    (run _ _ _ c.loop-left.invariant.word c.loop-left-test.true c.first-m.ensures c.first.ensures).small

pub loop-left-smaller : goal.loop-left-smaller
loop-left-smaller c =
    let r = run _ _ _ c.loop-left.invariant.word c.loop-left-test.true c.first-m.ensures c.first.ensures in
    omega (arith, past_less _ _ c.loop-left.invariant.word r.last)

pub loop-left-preserved : goal.loop-left-preserved
loop-left-preserved c =
    let l = c.loop-left in
    let r = run _ _ _ l.invariant.word c.loop-left-test.true c.first-m.ensures c.first.ensures in
    let past = past_member _ _ l.invariant.word r.last in
    let end : c.first-m.result + c.loop-row.row-index ≡ c.first-m.result + c.first.result - 1 + 1 = omega (arith, part_length _ _ _ _ _ r.long (l.invariant.bounds _ r.last).1 c.requires.1, c.loop-row-test.false, c.loop-row.auto.row-index-end) in
    record {
      word = omega (arith, past_less _ _ l.invariant.word r.last, l.invariant.word);
      gathered = gathered_same _ _ _ _ c.loop-row.invariant _ (λ x h. let p = (past x).0 h in (p.0, omega (arith, p.1))) (λ x h. (past x).1 (h.0, omega (arith, h.1)));
      bounds = λ m h. l.invariant.bounds m ((past m).0 h).0;
    }

pub returns : goal.returns
returns c = union_is _ _ _ _ _ _ (gathered_all _ _ _ _ c.loop-left.invariant.gathered (λ m h. none_member m (rw c.loop-left-test.false at h)))

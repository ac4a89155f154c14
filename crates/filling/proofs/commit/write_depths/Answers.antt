-- A turn writes the entry of the first member left.
use Rattle.std.proofs.Common.{◌<◌, length, arith}
use Rattle.positions.proofs.Listed.{begun, turn, none_left}
use Rattle.filling.proofs.DepthLaws.{deepened_none, deepened_less}
use Rattle.filling.proofs.commit.write_depths.Goals as goal

pub loop-j-init : goal.loop-j-init
loop-j-init c =
    let e = begun c.into_iter-j-iterator.ensures.into_iter_gives c.members_of-j-items.ensures in
    rw e (record { inside = omega arith; room = c.requires; rest = λ final d. d })

-- the entry of the member of this turn is among the depths
room : (c : goal.In-Some) → c.in-Some.j < length c.args.depths.now
room c = let l = c.loop-j.invariant in l.room _ (turn _ _ _ (omega (arith, l.inside)) c.in-Some.ensures.steps).taken.here

pub offset_bounds-depths-j : goal.offset_bounds-depths-j
offset_bounds-depths-j c = omega (arith, room c)

pub bounds-depths-j : goal.bounds-depths-j
bounds-depths-j c = omega (arith, room c)

pub loop-j-preserved : goal.loop-j-preserved
loop-j-preserved c =
    let l = c.loop-j in
    let t = turn _ _ _ (omega (arith, l.invariant.inside)) c.in-Some.ensures.steps in
    record {
      inside = omega (arith, l.invariant.inside, t.less);
      room = λ j m. l.invariant.room j ((t.rest j).0 m).0;
      rest = λ final d.
          l.invariant.rest final
          (deepened_less c.args.depth _ _ t.taken l.depths final (omega (arith, room c)) (rw t.after at d));
    }

pub returns : goal.returns
returns c =
    let l = c.loop-j in
    l.invariant.rest l.depths (rw (none_left _ c.in-None.ensures.steps.0) (deepened_none c.args.depth l.depths))

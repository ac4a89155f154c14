-- Each turn writes the records of one more middle.
use Rattle.std.proofs.Common.{◌≡◌, length, ap, refl, ◌∙◌, arith}
use Rattle.std.specs.List.{flat_map}
use Rattle.positions.specs.Ascending.{member_list}
use Rattle.positions.proofs.Listed.{begun, turn}
use Rattle.forest.specs.inner.Writing.{middle_rows}
use Rattle.forest.proofs.PartLaws.{flat_map_next, taken_next, taken_more, taken_all}
use Rattle.forest.proofs.RowLaws.{start_rows_are, start_room, front_none, front_room, front_more}
use Rattle.forest.proofs.place.Place.write_start.Goals as goal

pub loop-middle-init : goal.loop-middle-init
loop-middle-init c =
    let e = begun c.into_iter-middle-iterator.ensures.into_iter_gives c.members_of-middle-items.ensures in
    record { fits = omega (arith, e, c.prefix_ends.type_inv); part = λ m h. (c.prefix_ends.ensures m).0 (rw e at h); all = refl; front = front_none _ }

pub write_middle-written-requires-clause-reached : goal.write_middle-written-requires-clause-reached
write_middle-written-requires-clause-reached c = c.loop-middle.invariant.part _ (turn _ _ _ c.loop-middle.invariant.fits c.in-Some.ensures.steps).taken.here

pub write_middle-written-requires-clause-room : goal.write_middle-written-requires-clause-room
write_middle-written-requires-clause-room c =
    let e = begun c.into_iter-middle-iterator.ensures.into_iter_gives c.members_of-middle-items.ensures in
    let taken = taken_next _ _ _ c.loop-middle.invariant.all c.in-Some.ensures.steps ∙ ap member_list e in
    let room = start_room c.args.self.now c.args.start _ c.prefix_ends.ensures c.loop-middle.yielded _ _ (length c.args.rows.now) taken c.requires.room in
    front_room c.loop-middle.invariant.front (omega (arith, room)) _ room

pub loop-middle-preserved : goal.loop-middle-preserved
loop-middle-preserved c =
    let l = c.loop-middle.invariant in
    let t = turn _ _ _ l.fits c.in-Some.ensures.steps in
    let e = begun c.into_iter-middle-iterator.ensures.into_iter_gives c.members_of-middle-items.ensures in
    let taken = taken_next _ _ _ l.all c.in-Some.ensures.steps ∙ ap member_list e in
    let room = start_room c.args.self.now c.args.start _ c.prefix_ends.ensures c.loop-middle.yielded _ _ (length c.args.rows.now) taken c.requires.room in
    record {
      fits = omega (arith, l.fits, t.less);
      part = λ m z. l.part m ((t.rest m).0 z).0;
      all = taken_more _ _ _ l.all c.in-Some.ensures.steps;
      front = rw flat_map_next (front_more l.front (omega (arith, room)) c.write_middle-written.ensures);
    }

pub returns : goal.returns
returns c =
    let place = c.args.self.now in
    let e = begun c.into_iter-middle-iterator.ensures.into_iter_gives c.members_of-middle-items.ensures in
    let all : c.loop-middle.yielded ≡ member_list c.prefix_ends.result = taken_all _ _ _ c.loop-middle.invariant.all c.in-None.ensures.steps.0 ∙ ap member_list e in
    rw (← (ap (flat_map (middle_rows place.chart.now place.rule place.d c.args.start)) all ∙ start_rows_are place c.args.start _ c.prefix_ends.ensures)) c.loop-middle.invariant.front

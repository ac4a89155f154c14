-- Each turn writes the record of one more end.
use Rattle.std.proofs.Common.{◌≡◌, ℕ, ◌≤◌, length, map, inl, sym, ap, ◌∙◌, arith}
use Rattle.std.proofs.lemmas.List.{map-append}
use Rattle.std.specs.List.{flat_map}
use Rattle.std.specs.declared.iter.Enumerate.{Enumerate}
use Rattle.positions.specs.declared.Ascending.{Ascending}
use Rattle.positions.specs.Ascending.{member_list}
use Rattle.positions.proofs.Counts.{count_le}
use Rattle.positions.proofs.Listed.{turn, length_list}
use Rattle.derivation.proofs.Within.{children_inside}
use Rattle.forest.specs.declared.place.Place.{Place}
use Rattle.forest.specs.inner.Ends.{Reached}
use Rattle.forest.proofs.RuleLaws.{rules_few}
use Rattle.forest.proofs.EndsLaws.{chart_of, right_long}
use Rattle.forest.proofs.PartLaws.{flat_map_next, taken_next, taken_more, taken_all}
use Rattle.forest.proofs.RowLaws.{one_row, middle_rows_are, middle_counted, middle_room, front_none, front_one}
use Rattle.forest.proofs.place.Place.write_middle.Goals as goal

-- a start and a middle that it reaches are below 64
positions_fit : (place : Place) {start middle : ℕ} → Reached place.chart.now place.at place.d start middle → (start ≤ middle) × (middle ≤ 63)
positions_fit place reached = let within = children_inside reached in (within.rises, omega (arith, within.ends, (chart_of place).is_line.short))

pub symbol_ends-ends-requires : goal.symbol_ends-ends-requires
symbol_ends-ends-requires c = (children_inside c.requires.reached).ends

pub overflow_cast-rows : goal.overflow_cast-rows
overflow_cast-rows c = omega (arith, c.args.self.now.below, rules_few c.args.self.now.chart.now.grammar)

pub overflow_add-rows : goal.overflow_add-rows
overflow_add-rows c = omega (arith, c.args.self.now.inside, right_long c.args.self.now)

pub overflow_cast-rows-in-loop-written : goal.overflow_cast-rows-in-loop-written
overflow_cast-rows-in-loop-written c = omega (arith, c.args.self.now.inside, right_long c.args.self.now)

pub overflow_cast-rows-in-loop-written-2 : goal.overflow_cast-rows-in-loop-written-2
overflow_cast-rows-in-loop-written-2 c = omega (arith, positions_fit c.args.self.now c.requires.reached)

pub overflow_cast-rows-in-loop-written-3 : goal.overflow_cast-rows-in-loop-written-3
overflow_cast-rows-in-loop-written-3 c = omega (arith, positions_fit c.args.self.now c.requires.reached)

pub overflow_cast-rows-in-loop-written-4 : goal.overflow_cast-rows-in-loop-written-4
overflow_cast-rows-in-loop-written-4 c = omega (arith, (turn _ _ _ c.loop-written.invariant.fits c.in-Some.ensures.steps.0).taken.small)

-- the loop begins with all ends, and counts from 0
begins : {it items : Enumerate Ascending} {source : Ascending} {set : ℕ} → it ≡ items → items.iter ≡ source → items.count ≡ 0 → source.left ≡ set → (it.iter.left ≡ set) × (it.count ≡ 0)
begins e s n l = (ap (λ (x : Enumerate Ascending). x.iter.left) e ∙ ap (λ (x : Ascending). x.left) s ∙ l, ap (λ (x : Enumerate Ascending). x.count) e ∙ n)

pub loop-written-init-derived : goal.loop-written-init-derived
loop-written-init-derived c =
    let all = begins c.into_iter-written-iterator.ensures.into_iter_gives c.enumerate-written-items.ensures.source c.enumerate-written-items.ensures.count c.members_of.ensures in
    ((tt, tt, inl (omega (arith, all.1, rw (← all.0) at (length_list _ c.symbol_ends-ends.type_inv), count_le 64 c.into_iter-written-iterator.result.iter.left))), tt)

pub loop-written-init : goal.loop-written-init
loop-written-init c =
    let all = begins c.into_iter-written-iterator.ensures.into_iter_gives c.enumerate-written-items.ensures.source c.enumerate-written-items.ensures.count c.members_of.ensures in
    record { fits = omega (arith, all.0, c.symbol_ends-ends.type_inv); all = ap member_list all.0; front = rw all.1 (front_none _) }

pub offset_bounds-rows-written : goal.offset_bounds-rows-written
offset_bounds-rows-written c =
    let l = c.loop-written in
    let ends = c.symbol_ends-ends in
    let taken = taken_next _ _ _ l.invariant.all c.in-Some.ensures.steps.0 in
    let counted = middle_counted c.args.self.now c.args.start c.args.middle _ c.requires.reached ends.ensures ends.type_inv in
    let room = middle_room c.args.self.now c.args.start c.args.middle _ c.requires.reached ends.ensures (map (λ p. p.1) l.yielded) _ c.in-Some.end 64 taken (omega (arith, counted, count_le 64 ends.result)) in
    omega (arith, l.invariant.front.count, c.in-Some.ensures.steps.1, room)

pub bounds-rows-written : goal.bounds-rows-written
bounds-rows-written c =
    let l = c.loop-written in
    let taken = taken_next _ _ _ l.invariant.all c.in-Some.ensures.steps.0 in
    let room = middle_room c.args.self.now c.args.start c.args.middle _ c.requires.reached c.symbol_ends-ends.ensures (map (λ p. p.1) l.yielded) _ c.in-Some.end (length c.args.rows.now) taken c.requires.room in
    omega (arith, l.invariant.front.count, l.auto.rows, c.in-Some.ensures.steps.1, room)

pub loop-written-preserved : goal.loop-written-preserved
loop-written-preserved c =
    let l = c.loop-written in
    let t = turn _ _ _ l.invariant.fits c.in-Some.ensures.steps.0 in
    let taken = taken_next _ _ _ l.invariant.all c.in-Some.ensures.steps.0 in
    let room = middle_room c.args.self.now c.args.start c.args.middle _ c.requires.reached c.symbol_ends-ends.ensures (map (λ p. p.1) l.yielded) _ c.in-Some.end (length c.args.rows.now) taken c.requires.room in
    record {
      fits = omega (arith, t.less, l.invariant.fits);
      all = rw map-append (taken_more _ _ _ l.invariant.all c.in-Some.ensures.steps.0);
      front = rw (map-append, flat_map_next, c.in-Some.ensures.steps.1, c.in-Some.ensures.steps.2) (front_one l.invariant.front _ room);
    }

pub returns : goal.returns
returns c =
    let place = c.args.self.now in
    let l = c.loop-written.invariant in
    let all = ap (flat_map (one_row place.rule place.d c.args.start c.args.middle)) (taken_all _ _ _ l.all c.in-None.ensures.steps.0.0) ∙ middle_rows_are place c.args.start c.args.middle _ c.requires.reached c.symbol_ends-ends.ensures in
    let front = rw all at l.front in
    let counted = middle_counted place c.args.start c.args.middle _ c.requires.reached c.symbol_ends-ends.ensures c.symbol_ends-ends.type_inv in
    record { count = c.count.ensures ∙ sym counted; laid = front.laid }

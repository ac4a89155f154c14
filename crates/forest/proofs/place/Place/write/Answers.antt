-- Each turn writes the records of one more start.
use Rattle.std.proofs.Common.{◌+◌, ◌≡◌, suc, List, length, ap, arith}
use Rattle.forest.specs.declared.Branch.{Branch}
use Rattle.forest.specs.inner.Writing.{start_rows}
use Rattle.forest.proofs.RowLaws.{place_rows_are, gathered_begins, gathered_room, gathered_more}
use Rattle.forest.proofs.place.Place.write.Goals as goal

pub loop-start-init : goal.loop-start-init
loop-start-init c = gathered_begins _ _

pub write_start-written-requires-clause-room : goal.write_start-written-requires-clause-room
write_start-written-requires-clause-room c =
    let place = c.args.self.now in
    let same = place_rows_are place.chart.now place.rule place.d in
    gathered_room (start_rows place.chart.now place.rule place.d) c.loop-start.invariant (suc (length place.chart.now.line.now)) (omega arith) (omega (arith, ap (λ (s : List Branch). length s) same, c.requires))

pub loop-start-preserved : goal.loop-start-preserved
loop-start-preserved c =
    let place = c.args.self.now in
    let same = place_rows_are place.chart.now place.rule place.d in
    gathered_more (start_rows place.chart.now place.rule place.d) c.loop-start.invariant (suc (length place.chart.now.line.now)) (omega arith) (omega (arith, ap (λ (s : List Branch). length s) same, c.requires)) c.write_start-written.ensures

pub returns : goal.returns
returns c =
    let place = c.args.self.now in
    let all : c.loop-start.start ≡ suc (length place.chart.now.line.now) = omega arith in
    rw (← place_rows_are place.chart.now place.rule place.d) (rw all at c.loop-start.invariant)

-- the records of the last start are written at the return
pub returns-2 : goal.returns-2
returns-2 c =
    let place = c.args.self.now in
    let same = place_rows_are place.chart.now place.rule place.d in
    let all : c.loop-start.start + 1 ≡ suc (length place.chart.now.line.now) = omega arith in
    rw (← same)
    (rw all at (gathered_more (start_rows place.chart.now place.rule place.d) c.loop-start.invariant (suc (length place.chart.now.line.now)) (omega arith) (omega (arith, ap (λ (s : List Branch). length s) same, c.requires)) c.write_start-written.ensures))

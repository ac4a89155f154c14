-- The records of the starts below this one are written.
use Rattle.derivation.specs.computed.Listing.{gathered}
use Rattle.forest.specs.inner.Writing.{start_rows, Front}
use Rattle.forest.proofs.place.Place.write.Given as goal

abbrev pub invariant-loop-start : goal.invariant-loop-start
invariant-loop-start l = Front (gathered l.start (start_rows l.self.chart.now l.self.rule l.self.d)) l.initial.rows l.rows l.written

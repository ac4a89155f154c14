-- The records of the symbols below d are written.
use Rattle.derivation.specs.computed.Listing.{gathered}
use Rattle.forest.specs.inner.Writing.{place_rows, Front}
use Rattle.forest.proofs.place.Chart.write_rule.Given as goal

abbrev pub invariant-loop-d : goal.invariant-loop-d
invariant-loop-d l = Front (gathered l.d (place_rows l.self l.rule)) l.initial.rows l.rows l.written

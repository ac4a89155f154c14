-- The ends are those of the first d symbols.
use Rattle.forest.specs.inner.Ends.{PrefixEnds}
use Rattle.forest.proofs.place.Place.prefix_ends.Given as goal

abbrev pub invariant-loop-d : goal.invariant-loop-d
invariant-loop-d l = PrefixEnds l.self.chart.now l.self.at l.d l.start l.ends

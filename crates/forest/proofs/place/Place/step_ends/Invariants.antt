-- Where the set leads is gathered, or what is left of it leads there.
use Rattle.std.proofs.Common.{ℕ, ◌^◌, ◌<◌}
use Rattle.positions.specs.Member.{Member}
use Rattle.positions.proofs.Unions.{Gathered}
use Rattle.forest.specs.inner.Ends.{SymbolDerives}
use Rattle.forest.proofs.place.Place.step_ends.Given as goal

abbrev pub invariant-loop-m : goal.invariant-loop-m
invariant-loop-m l = record {
  fits : l.m-iterator.left < 2 ^ 64;
  part : (m : ℕ) → Member l.m-iterator.left m → Member l.set m;
  led : Gathered (SymbolDerives l.self.chart.now l.self.at l.self.d) (Member l.set) (Member l.m-iterator.left) l.all;
}

-- The records of the middles that have been taken are written.
use Rattle.std.proofs.Common.{◌≡◌, ℕ, ◌^◌, ◌<◌, ◌++◌}
use Rattle.std.specs.List.{flat_map}
use Rattle.positions.specs.Member.{Member}
use Rattle.positions.specs.Ascending.{member_list}
use Rattle.forest.specs.inner.Ends.{Reached}
use Rattle.forest.specs.inner.Writing.{middle_rows, Front}
use Rattle.forest.proofs.place.Place.write_start.Given as goal

abbrev pub invariant-loop-middle : goal.invariant-loop-middle
invariant-loop-middle l = record {
  fits : l.middle-iterator.left < 2 ^ 64;
  part : (m : ℕ) → Member l.middle-iterator.left m → Reached l.self.chart.now l.self.at l.self.d l.start m;
  all : l.yielded ++ member_list l.middle-iterator.left ≡ member_list l.initial.middle-iterator.left;
  front : Front (flat_map (middle_rows l.self.chart.now l.self.rule l.self.d l.start) l.yielded) l.initial.rows l.rows l.written;
}

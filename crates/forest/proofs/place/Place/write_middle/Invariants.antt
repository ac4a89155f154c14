-- The records of the ends that have been taken are written.
use Rattle.std.proofs.Common.{◌≡◌, ◌^◌, ◌<◌, ◌++◌, map}
use Rattle.std.specs.List.{flat_map}
use Rattle.positions.specs.Ascending.{member_list}
use Rattle.forest.specs.inner.Writing.{Front}
use Rattle.forest.proofs.RowLaws.{one_row}
use Rattle.forest.proofs.place.Place.write_middle.Given as goal

abbrev pub invariant-loop-written : goal.invariant-loop-written
invariant-loop-written l = record {
  fits : l.written-iterator.iter.left < 2 ^ 64;
  all : map (λ p. p.1) l.yielded ++ member_list l.written-iterator.iter.left ≡ member_list l.ends;
  front : Front (flat_map (one_row l.self.rule l.self.d l.start l.middle) (map (λ p. p.1) l.yielded)) l.initial.rows l.rows l.written-iterator.count;
}

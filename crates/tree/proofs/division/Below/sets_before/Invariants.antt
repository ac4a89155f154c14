-- The sets from d on are made.
use Rattle.std.proofs.Common.{◌≡◌, length, get_or}
use Rattle.tree.proofs.SetLaws.{SetsFrom}
use Rattle.tree.proofs.division.Below.sets_before.Given as goal

abbrev pub invariant-loop-d : goal.invariant-loop-d
invariant-loop-d l = (length l.sets ≡ 9) × (l.set ≡ get_or l.sets l.d 0) × SetsFrom l.self l.symbols l.start l.end l.d l.sets

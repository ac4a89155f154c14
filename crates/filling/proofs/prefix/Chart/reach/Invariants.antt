-- The ends are those of the symbols passed.
use Rattle.filling.proofs.PrefixLaws.{Reached}
use Rattle.filling.proofs.prefix.Chart.reach.Given as goal

abbrev pub invariant-loop-x : goal.invariant-loop-x
invariant-loop-x l = Reached l.symbols l.self.words.now l.self.places.now l.self.width l.start l.x-index l.ends

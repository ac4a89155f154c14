-- The rows of the starts passed have gained their ends.
use Rattle.filling.proofs.PrefixLaws.{AppliedBelow}
use Rattle.filling.proofs.prefix.Chart.apply.Given as goal

abbrev pub invariant-loop-start : goal.invariant-loop-start
invariant-loop-start l = AppliedBelow l.symbols l.self.words.now l.self.places.now l.base l.self.width l.initial.next l.start l.next

-- Before the first symbol the end is the start; where the symbols passed have no end, the symbols have none.
use Rattle.filling.proofs.PrefixLaws.{reached_none, reached_class, reached_category, reached_all, reached_nowhere}
use Rattle.filling.proofs.prefix.Chart.reach.Goals as goal
use Rattle.filling.proofs.prefix.Chart.reach.Goals.{then-symbol-lt128, else-symbol-lt128}

pub loop-x-init : goal.loop-x-init
loop-x-init c = reached_none c.insert-ends.result c.requires.1 c.insert-ends.ensures

pub returns-then-ends-eq0 : goal.returns-then-ends-eq0
returns-then-ends-eq0 c = reached_nowhere c.loop-x.x-index c.loop-x.ends c.if-ends-eq0.true c.loop-x.invariant

pub loop-x-preserved : goal.loop-x-preserved
loop-x-preserved c =
    let l = c.loop-x in
    elim c.if-symbol-lt128.branch [
      | then-symbol-lt128 w ↦
          rw w.ends-is
          (reached_class l.x-index l.ends w.after_class-ends.result c.loop-x-test.true w.if-symbol-lt128.true l.invariant w.after_class-ends.ensures)
      | else-symbol-lt128 w ↦
          rw w.ends-is
          (reached_category l.x-index l.ends w.union-ends.result c.loop-x-test.true w.if-symbol-lt128.false l.invariant w.union-ends.ensures)
    ]

pub returns : goal.returns
returns c = reached_all c.loop-x.x-index c.loop-x.ends c.loop-x-test.false c.loop-x.invariant

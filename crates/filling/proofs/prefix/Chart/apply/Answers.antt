-- The row of one more start gains its ends; past the last start all rows have.
use Rattle.std.proofs.Common.{arith}
use Rattle.filling.proofs.PrefixLaws.{applied_more, applied_all, rows_few}
use Rattle.filling.proofs.prefix.Chart.apply.Goals as goal

pub loop-start-preserved : goal.loop-start-preserved
loop-start-preserved c =
    let l = c.loop-start in
    applied_more l.start c.reach.result l.next
    (omega (arith, rows_few c.args.left c.args.self.now.width c.requires.1 c.args.self.now.narrow, l.invariant.long)) l.invariant c.reach.ensures

pub returns : goal.returns
returns c = applied_all c.loop-start.start c.loop-start.next (omega arith) c.loop-start.invariant

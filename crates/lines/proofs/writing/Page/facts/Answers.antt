-- `lines::writing::Page::facts`: each fact's line is short, and is printed after those before it.
use Rattle.std.proofs.Common.{arith}
use Rattle.lines.proofs.WriteLaws.{printed_none, gathered_none, gather_short, gather_room, gather_more}
use Rattle.lines.proofs.LineLaws.{facts_few}
use Rattle.lines.proofs.writing.Page.facts.Goals as goal

pub loop-q-init : goal.loop-q-init
loop-q-init c = rw gathered_none (printed_none _ (omega arith))

pub fact-requires-clause-room : goal.fact-requires-clause-room
fact-requires-clause-room c = gather_room 29 _ _ (facts_few c.args.depths.now c.args.width c.requires.few (λ i. (c.type_inv.depths i).fits)) c.loop-q.invariant c.requires.room (omega arith)

pub loop-q-preserved : goal.loop-q-preserved
loop-q-preserved c = gather_more _ c.loop-q.invariant c.fact.ensures

pub returns-clause-short : goal.returns-clause-short
returns-clause-short c = let short = gather_short 29 _ _ (facts_few c.args.depths.now c.args.width c.requires.few (λ i. (c.type_inv.depths i).fits)) c.loop-q.invariant (omega arith) in omega (arith, short)

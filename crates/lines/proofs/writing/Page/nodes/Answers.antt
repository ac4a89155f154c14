-- `lines::writing::Page::nodes`: each node's line is short, and is printed after those before it.
use Rattle.std.proofs.Common.{arith, rules, ◌≡◌, sym, ◌∙◌, ap, ◌/◌, [], length, get_or}
use Rattle.std.proofs.lemmas.List.{same_lists}
use Rattle.lines.specs.Lines.{text, line_of, numbered}
use Rattle.lines.proofs.WriteLaws.{printed_none, gathered_none, gather_short, gather_room, gather_more}
use Rattle.lines.proofs.LineLaws.{four, node_few, node_is}
use Rattle.lines.proofs.writing.Page.nodes.Goals as goal

pub loop-node-init : goal.loop-node-init
loop-node-init c = rw gathered_none (printed_none _ (omega arith))

pub line-requires : goal.line-requires
unfolding numbered line_of text
line-requires c =
    let k = c.loop-node.node-index in
    let few = node_few c.args.bytes.now (λ i. (c.type_inv.bytes i).fits) in
    let room = gather_room 21 (length c.args.bytes.now / 4) _ (λ k l. few k) c.loop-node.invariant c.requires (omega arith) in
    let here = few k in
    let is : get_or c.as_chunks.result.0.now k [] ≡ four c.args.bytes.now k = rw c.as_chunks.ensures.front (node_is _ k c.args.bytes.now (omega arith) (omega arith)) in
    let same : c.map.result ≡ get_or c.as_chunks.result.0.now k [] =
    same_lists _ _ (c.map.ensures.items.long ∙ sym (ap length is)) (λ k d h. let p = (c.map.ensures.items.at k d d (omega arith)).2 in search rules) in
    rw (same, is) (omega (arith, here, room))

pub loop-node-preserved : goal.loop-node-preserved
unfolding numbered line_of text
loop-node-preserved c =
    let k = c.loop-node.node-index in
    let is : get_or c.as_chunks.result.0.now k [] ≡ four c.args.bytes.now k = rw c.as_chunks.ensures.front (node_is _ k c.args.bytes.now (omega arith) (omega arith)) in
    let same : c.map.result ≡ get_or c.as_chunks.result.0.now k [] =
    same_lists _ _ (c.map.ensures.items.long ∙ sym (ap length is)) (λ k d h. let p = (c.map.ensures.items.at k d d (omega arith)).2 in search rules) in
    gather_more _ c.loop-node.invariant (rw (same, is) at c.line.ensures)

pub returns-clause-short : goal.returns-clause-short
returns-clause-short c = let short = gather_short 21 (length c.args.bytes.now / 4) _ (λ k l. node_few c.args.bytes.now (λ i. (c.type_inv.bytes i).fits) k) c.loop-node.invariant (omega arith) in omega (arith, short)

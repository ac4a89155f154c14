-- The fact's depth falls at each call. The loop's invariant: the first d children are counted.
use Rattle.std.proofs.Common.{length, get_or}
use Rattle.derivation.specs.computed.Table.{depth_of}
use Rattle.grammar.specs.Checked.{grammar_in}
use Rattle.tree.specs.inner.Searchable.{nodes_of}
use Rattle.tree.specs.inner.Searched.{child_limit}
use Rattle.tree.proofs.CountLaws.{CountTurn}
use Rattle.tree.proofs.counting.+count_nodes.Given as goal

abbrev pub decreases-count_nodes : goal.decreases-count_nodes
decreases-count_nodes l = depth_of (grammar_in l.search.now.grammar) l.search.now.kept.line.now l.span.category l.span.start l.span.end

abbrev pub invariant-loop-d : goal.invariant-loop-d
invariant-loop-d l =
    let G = grammar_in l.search.grammar in
    let line = l.search.kept.line.now in
    CountTurn G line (child_limit G line l.fn.span) l.found.symbols.now l.fn.span.end l.limit (length (nodes_of l.search l.fn.span)) l.d (get_or l.found.ends l.d 0) l.count

-- `lines::writing::Page::nodes`: the lines of the nodes up to the index are printed.
use Rattle.derivation.specs.computed.Listing.{gathered}
use Rattle.lines.specs.inner.Printed.{Printed}
use Rattle.lines.specs.inner.Listing.{node_line_at}
use Rattle.lines.proofs.writing.Page.nodes.Given as goal

abbrev pub invariant-loop-node : goal.invariant-loop-node
invariant-loop-node l = Printed l.initial.self (gathered l.node-index (node_line_at l.bytes)) l.self

-- `tree::show` meets its contract: no fact, no room, or the nodes.
use Rattle.std.proofs.Common.{sym, ◌∙◌}
use Rattle.grammar.specs.Checked.{grammar_in}
use Rattle.grammar.proofs.Encoded.{sections_proper}
use Rattle.tree.specs.inner.Searchable.{NodeAt}
use Rattle.tree.proofs.CheckLaws.{category_known, searchable}
use Rattle.tree.proofs.ShowLaws.{show_none, node_at, show_small, has_room, show_all}
use Rattle.tree.proofs.show.Goals as goal
use Rattle.tree.proofs.show.Goals.{Else-depth_at-eq0}

-- the fact as a node
node : (c : Else-depth_at-eq0) → let a = c.args in NodeAt (grammar_in a.grammar) a.kept.line.now a.span
node c =
    let p = c.requires in
    node_at _ _ _ _ _ (sections_proper _ _ c.args.grammar.sectioned) c.args.kept.depths.now p.work.kept (category_known _ _ c.args.grammar.sectioned _ p.category) p.start p.end (λ z. c.if-depth_at-eq0.false (c.depth_at.ensures ∙ z))

pub returns-then-depth_at-eq0 : goal.returns-then-depth_at-eq0
returns-then-depth_at-eq0 c =
    let p = c.requires in
    show_none _ _ _ _ _ (sections_proper _ _ c.args.grammar.sectioned) _ _ (p.work.kept _ _ _ (category_known _ _ c.args.grammar.sectioned _ p.category) p.start p.end) (sym c.depth_at.ensures ∙ c.if-depth_at-eq0.true)

pub count_nodes-count-requires-clause-ready : goal.count_nodes-count-requires-clause-ready
count_nodes-count-requires-clause-ready c =
    let p = c.requires in
    (searchable _ c.rule_starts-starts.ensures p.rows p.room p.work, node (goal.at.count_nodes-count-requires-clause-ready c).Else-depth_at-eq0)

pub returns-then-room-count : goal.returns-then-room-count
returns-then-room-count c =
    show_small _ _ _ _ _ (sections_proper _ _ c.args.grammar.sectioned) _ _ (node (goal.at.returns-then-room-count c).Else-depth_at-eq0) c.count_nodes-count.ensures c.if-room-count.true

pub write-requires-clause-ready : goal.write-requires-clause-ready
write-requires-clause-ready c =
    let p = c.requires in
    (searchable _ c.rule_starts-starts.ensures p.rows p.room p.work, node (goal.at.write-requires-clause-ready c).Else-depth_at-eq0)

pub write-requires-clause-room : goal.write-requires-clause-room
write-requires-clause-room c =
    has_room _ _ _ _ _ (sections_proper _ _ c.args.grammar.sectioned) c.args.out.now _ (node (goal.at.write-requires-clause-room c).Else-depth_at-eq0) c.count_nodes-count.ensures c.if-room-count.false

pub returns : goal.returns
returns c =
    show_all _ _ _ _ _ (sections_proper _ _ c.args.grammar.sectioned) _ _ (node (goal.at.returns c).Else-depth_at-eq0) c.count_nodes-count.ensures _ c.if-room-count.false c.write.ensures.nodes

-- `tree::writing::write` meets its contract.
use Rattle.std.proofs.Common.{arith, refl, ◌≡◌, ℕ, ◌<◌, ◌+◌, ◌∷◌, get_or}
use native.Mathlib.Nat.{le_trans, lt_of_lt_of_le}
use Rattle.derivation.specs.Node.{rule_node}
use Rattle.grammar.specs.Checked.{grammar_in}
use Rattle.tree.specs.inner.Searchable.{nodes_of}
use Rattle.tree.specs.inner.Searched.{child_limit}
use Rattle.tree.proofs.TurnLaws.{NextChild, found_inside, turn_few, turn_shown, turn_child, child_node}
use Rattle.tree.proofs.WriteLaws.{row_from, root_room, turn_begin, turn_low, token_room, token_written, category_room, category_written, turn_end}
use Rattle.tree.proofs.writing.+write.Goals as goal
use Rattle.tree.proofs.writing.+write.Goals.{After-node-found, In-loop-d, then-symbol-lt128, else-symbol-lt128}

-- what is shown of the node
shows : (t : ℕ) (c : After-node-found t) →
    let f = c.args.search.now in
    let span = c.args.span in
    let found = c.node-found.result in
    let G = grammar_in f.grammar in
    nodes_of f span ≡ rule_node found.rule span.start span.end ∷ row_from G f.kept.line.now (child_limit G f.kept.line.now span) found.symbols.now span.end 0 (get_or found.ends 0 0)
shows t c = let p = c.requires.ready in turn_shown _ _ p.0 _ p.1 _ c.node-found.ensures

-- symbol d is one of at most 8
few : (t : ℕ) (c : In-loop-d t) → c.loop-d.d < 8
few t c = let p = c.requires.ready in lt_of_lt_of_le c.loop-d-test.true (turn_few _ _ p.0 _ p.1 _ c.node-found.ensures)

-- the child that it is
next : (t : ℕ) (c : In-loop-d t) →
    let f = c.args.search.now in
    let d = c.loop-d.d in
    let found = c.node-found.result in
    let G = grammar_in f.grammar in
    NextChild G f.kept.line.now (child_limit G f.kept.line.now c.args.span) found.symbols.now c.args.span.end d (get_or found.ends d 0) (get_or found.ends (d + 1) 0)
next t c = let p = c.requires.ready in turn_child _ _ p.0 _ p.1 _ c.node-found.ensures _ c.loop-d-test.true

pub rule_node-requires : goal.rule_node-requires
rule_node-requires t c =
    let p = c.requires.ready in
    let short = c.args.search.now.kept.short in
    (lt_of_lt_of_le (found_inside _ _ p.0 _ p.1 _ c.node-found.ensures) p.0.few, le_trans p.1.start short, le_trans p.1.end short)

pub put_node-written-requires : goal.put_node-written-requires
put_node-written-requires t c = root_room (shows t (goal.at.put_node-written-requires t c).After-node-found) c.requires.room

pub loop-d-init : goal.loop-d-init
loop-d-init t c =
    let p = c.put_node-written.ensures in
    turn_begin (shows t (goal.at.loop-d-init t c).After-node-found) c.requires.room p.0 (rw c.rule_node.ensures at p.1)

pub offset_bounds-found-d : goal.offset_bounds-found-d
offset_bounds-found-d t c = omega (arith, few t (goal.at.offset_bounds-found-d t c).In-loop-d)

pub bounds-found-d : goal.bounds-found-d
bounds-found-d t c = omega (arith, few t (goal.at.bounds-found-d t c).In-loop-d)

pub offset_bounds-found-d-in-loop-d : goal.offset_bounds-found-d-in-loop-d
offset_bounds-found-d-in-loop-d t c = omega (arith, few t (goal.at.offset_bounds-found-d-in-loop-d t c).In-loop-d)

pub bounds-found-d-in-loop-d : goal.bounds-found-d-in-loop-d
bounds-found-d-in-loop-d t c = omega (arith, few t (goal.at.bounds-found-d-in-loop-d t c).In-loop-d)

pub token_node-requires : goal.token_node-requires
token_node-requires t c =
    let n = next t (goal.at.token_node-requires t c).In-loop-d in
    let short = c.args.search.now.kept.short in
    (le_trans n.start short, le_trans n.inside short)

pub put_node-written-requires-then-symbol-lt128 : goal.put_node-written-requires-then-symbol-lt128
put_node-written-requires-then-symbol-lt128 t c =
    token_room c.loop-d.invariant (next t (goal.at.put_node-written-requires-then-symbol-lt128 t c).In-loop-d) c.if-symbol-lt128.true

pub write-written-requires : goal.write-written-requires
write-written-requires t c =
    let p = c.requires.ready in
    let a = goal.at.write-written-requires t c in
    let n = child_node _ _ p.0 _ p.1 _ c.node-found.ensures _ c.loop-d-test.true _ c.if-symbol-lt128.false refl refl refl in
    (omega (arith, n.1, c.decreases), ((p.0, n.0), category_room c.loop-d.invariant (next t a.In-loop-d) c.if-symbol-lt128.false))

pub overflow_add-written-else-symbol-lt128 : goal.overflow_add-written-else-symbol-lt128
overflow_add-written-else-symbol-lt128 t c =
    let n = next t (goal.at.overflow_add-written-else-symbol-lt128 t c).In-loop-d in
    omega (arith, category_room c.loop-d.invariant n c.if-symbol-lt128.false, turn_low c.loop-d.invariant, c.write-written.ensures.count)

pub loop-d-preserved : goal.loop-d-preserved
loop-d-preserved t c =
    let n = next t (goal.at.loop-d-preserved t c).In-loop-d in
    let v = c.loop-d.invariant in
    elim c.if-symbol-lt128.branch [
      | then-symbol-lt128 w ↦ let p = w.put_node-written-then-symbol-lt128.ensures in rw (w.written-is, w.out-is) (token_written v n w.if-symbol-lt128.true p.0 (rw w.token_node.ensures at p.1))
      | else-symbol-lt128 w ↦ let p = w.write-written.ensures in rw (w.written-is, w.out-is) (category_written v n w.if-symbol-lt128.false p.count p.nodes)
    ]

pub returns-clause-count : goal.returns-clause-count
returns-clause-count t c = (turn_end c.loop-d.invariant c.loop-d-test.false).0

pub returns-clause-nodes : goal.returns-clause-nodes
returns-clause-nodes t c = (turn_end c.loop-d.invariant c.loop-d-test.false).1

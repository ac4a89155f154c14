-- `tree::counting::count_nodes` meets its contract.
use Rattle.std.proofs.Common.{arith, refl, ap, ℕ, length, ◌<◌, ◌+◌, get_or}
use native.Mathlib.Nat.{lt_of_lt_of_le}
use Rattle.grammar.specs.Checked.{grammar_in}
use Rattle.tree.specs.inner.Searched.{child_limit}
use Rattle.tree.proofs.TurnLaws.{NextChild, turn_few, turn_shown, turn_child, child_node}
use Rattle.tree.proofs.CountLaws.{count_begin, count_token, count_category, count_end}
use Rattle.tree.proofs.counting.+count_nodes.Goals as goal
use Rattle.tree.proofs.counting.+count_nodes.Goals.{In-loop-d, then-symbol-lt128, else-symbol-lt128}

-- symbol d is one of at most 8
few : (t : ℕ) (c : In-loop-d t) → c.loop-d.d < 8
few t c = lt_of_lt_of_le c.loop-d-test.true (turn_few _ _ c.requires.ready.0 _ c.requires.ready.1 _ c.node-found.ensures)

-- the child that it is
next : (t : ℕ) (c : In-loop-d t) →
    let f = c.args.search.now in
    let d = c.loop-d.d in
    let ends = c.node-found.result.ends in
    let G = grammar_in f.grammar in
    NextChild G f.kept.line.now (child_limit G f.kept.line.now c.args.span) c.node-found.result.symbols.now c.args.span.end d (get_or ends d 0) (get_or ends (d + 1) 0)
next t c = turn_child _ _ c.requires.ready.0 _ c.requires.ready.1 _ c.node-found.ensures _ c.loop-d-test.true

pub loop-d-init : goal.loop-d-init
loop-d-init t c =
    let p = c.requires.ready in
    count_begin _ _ _ _ _ _ _ c.node-found.result.rule c.args.span.start (get_or c.node-found.result.ends 0 0) (ap length (turn_shown _ _ p.0 _ p.1 _ c.node-found.ensures))

pub offset_bounds-found-d : goal.offset_bounds-found-d
offset_bounds-found-d t c = omega (arith, few t (goal.at.offset_bounds-found-d t c).In-loop-d)

pub bounds-found-d : goal.bounds-found-d
bounds-found-d t c = omega (arith, few t (goal.at.bounds-found-d t c).In-loop-d)

pub offset_bounds-found-d-else-symbol-lt128 : goal.offset_bounds-found-d-else-symbol-lt128
offset_bounds-found-d-else-symbol-lt128 t c = omega (arith, few t (goal.at.offset_bounds-found-d-else-symbol-lt128 t c).In-loop-d)

pub bounds-found-d-else-symbol-lt128 : goal.bounds-found-d-else-symbol-lt128
bounds-found-d-else-symbol-lt128 t c = omega (arith, few t (goal.at.bounds-found-d-else-symbol-lt128 t c).In-loop-d)

pub count_nodes-count-requires : goal.count_nodes-count-requires
count_nodes-count-requires t c =
    let p = c.requires in
    let n = child_node _ _ p.ready.0 _ p.ready.1 _ c.node-found.ensures _ c.loop-d-test.true _ c.if-symbol-lt128.false refl refl refl in
    (omega (arith, n.1, c.decreases), ((p.ready.0, n.0), omega (arith, p.limit)))

pub loop-d-preserved : goal.loop-d-preserved
loop-d-preserved t c =
    let l = c.loop-d in
    let k = c.loop-d-test.true in
    let n = next t (goal.at.loop-d-preserved t c).In-loop-d in
    elim c.if-symbol-lt128.branch [
      | then-symbol-lt128 w ↦ rw w.count-is (count_token _ _ _ _ _ _ _ l.d _ _ l.count k c.if-limit-count.false n l.invariant w.if-symbol-lt128.true)
      | else-symbol-lt128 w ↦ rw w.count-is (count_category _ _ _ _ _ _ _ l.d _ _ l.count k c.if-limit-count.false n l.invariant w.if-symbol-lt128.false _ w.count_nodes-count.ensures)
    ]

pub returns : goal.returns
returns t c = count_end _ _ _ _ _ _ _ c.loop-d.d _ _ c.loop-d-test.false c.loop-d.invariant

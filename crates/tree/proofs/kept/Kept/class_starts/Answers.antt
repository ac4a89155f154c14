-- `class_starts` meets its contract: a turn takes the first member that has left.
use Rattle.std.proofs.Common.{arith}
use Rattle.positions.proofs.Listed.{Turn, turn, begun, none_left}
use Rattle.tree.proofs.DivisionLaws.{class_none, class_more, class_skip, class_all}
use Rattle.tree.proofs.kept.Kept.class_starts.Goals as goal
use Rattle.tree.proofs.kept.Kept.class_starts.Goals.{In-Some, else-start-e-via-then-start-e+else-self-e, else-start-e-via-else-start-e}

-- the member that a turn takes
now : (c : In-Some) → Turn c.loop-e.e-iterator.left c.in-Some.e c.next.new.self.left
now c = turn _ _ _ (omega (arith, c.loop-e.invariant.low)) c.in-Some.ensures.steps

pub loop-e-init : goal.loop-e-init
loop-e-init c = let s = begun c.into_iter-e-iterator.ensures.into_iter_gives c.members_of-e-items.ensures in rw s (class_none _ _ _ _)

pub loop-e-preserved : goal.loop-e-preserved
loop-e-preserved c =
    let t = now (goal.at.loop-e-preserved c).In-Some in
    rw t.after (class_skip _ _ _ _ _ _ _ t.taken c.loop-e.invariant
    (elim c.else-start-e.branch [
      | else-start-e-via-then-start-e+else-self-e w ↦ λ k q. w.if-self-e.false q
      | else-start-e-via-else-start-e w ↦ λ k q. omega (arith, w.if-start-e.false)
    ]))

pub returns : goal.returns
returns c = let z = none_left _ c.in-None.ensures.steps.0 in class_all _ _ _ _ _ (rw z at c.loop-e.invariant)

pub bounds-self-e : goal.bounds-self-e
bounds-self-e c = let t = now (goal.at.bounds-self-e c).In-Some in omega (arith, c.requires _ (c.loop-e.invariant.part _ t.taken.here), c.if-start-e.true)

pub insert-starts-requires : goal.insert-starts-requires
insert-starts-requires c = omega (arith, (now (goal.at.insert-starts-requires c).In-Some).taken.small)

pub loop-e-preserved-then-self-e : goal.loop-e-preserved-then-self-e
loop-e-preserved-then-self-e c =
    let t = now (goal.at.loop-e-preserved-then-self-e c).In-Some in
    rw t.after (class_more _ _ _ _ _ _ _ t.taken c.loop-e.invariant _ c.if-start-e.true c.if-self-e.true c.insert-starts.ensures)

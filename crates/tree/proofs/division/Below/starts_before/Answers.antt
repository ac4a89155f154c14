-- `starts_before` meets its contract.
use Rattle.std.proofs.Common.{◌+◌, arith, sym, ◌∙◌}
use Rattle.tree.proofs.SetLaws.{BeforeBelow, class_before, before_none, before_found, before_lacks, before_all}
use Rattle.tree.proofs.division.Below.starts_before.Goals as goal
use Rattle.tree.proofs.division.Below.starts_before.Goals.{Joined-is_some, then-is_some, else-is_some}

pub returns-then-symbol-lt128 : goal.returns-then-symbol-lt128
returns-then-symbol-lt128 c = let p = c.requires in class_before _ _ _ _ _ _ c.if-symbol-lt128.true p.end p.inside c.class_starts.ensures

pub loop-m-init : goal.loop-m-init
loop-m-init c = before_none _ _ _ _ _

pub returns-else-symbol-lt128 : goal.returns-else-symbol-lt128
returns-else-symbol-lt128 c = before_all _ _ _ _ _ _ _ c.loop-m-test.false c.requires.inside c.loop-m.invariant

-- the turn at m
turned : (c : Joined-is_some) → let a = c.args in BeforeBelow a.self.now a.symbol a.set a.start a.end (c.loop-m.m + 1) c.if-is_some.starts
turned c =
    let q = c.is_some.ensures in
    let f = c.first_end.ensures in
    elim c.if-is_some.branch [
      | then-is_some w ↦ rw w.starts-is (before_found _ _ _ _ _ _ _ c.loop-m-test.true c.loop-m.invariant _ _ f (sym q ∙ w.if-is_some.true) w.insert-starts.ensures)
      | else-is_some w ↦ rw w.starts-is (before_lacks _ _ _ _ _ _ _ c.loop-m-test.true c.loop-m.invariant _ f (sym q ∙ w.if-is_some.false))
    ]

pub loop-m-preserved : goal.loop-m-preserved
loop-m-preserved c = turned (goal.at.loop-m-preserved c).Joined-is_some

pub returns-after-is_some : goal.returns-after-is_some
returns-after-is_some c =
    let t = turned (goal.at.returns-after-is_some c).Joined-is_some in
    before_all _ _ _ _ _ (c.loop-m.m + 1) _ (omega arith) c.requires.inside t

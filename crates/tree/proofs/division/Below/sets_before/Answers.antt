-- `sets_before` meets its contract.
use Rattle.std.proofs.Common.{length, replicate, refl, sym, ◌∙◌, arith, length-set}
use lib.Seq.{get_or-set_same}
use Rattle.filling.proofs.TableLaws.{zeros_at}
use Rattle.tree.proofs.SetLaws.{sets_none, sets_more, sets_empty, sets_all}
use Rattle.tree.proofs.division.Below.sets_before.Goals as goal

pub loop-d-init : goal.loop-d-init
loop-d-init c =
    let p = c.requires in (
      simp length-set,
      sym (get_or-set_same (replicate 9 0) (length c.args.symbols.now) c.insert-set.result 0 (omega (arith, p.few))),
      sets_none _ _ _ _ p.few (replicate 9 0) c.insert-set.result refl (zeros_at 9) p.rises p.end c.insert-set.ensures,
    )

pub returns-then-set-eq0 : goal.returns-then-set-eq0
returns-then-set-eq0 c = let v = c.loop-d.invariant in sets_empty _ _ _ _ c.requires.few _ _ v.0 v.2 (sym v.1 ∙ c.if-set-eq0.true)

pub loop-d-preserved : goal.loop-d-preserved
loop-d-preserved c =
    let l = c.loop-d in
    let v = l.invariant in (
      length-set l.sets _ _ ∙ v.0,
      sym (get_or-set_same l.sets _ c.starts_before-set.result 0 (omega (arith, v.0, c.requires.few, v.2.low, c.loop-d-test.true))),
      sets_more _ _ _ _ c.requires.few l.d l.sets v.0 v.2 _ c.loop-d-test.true (rw v.1 at c.starts_before-set.ensures),
    )

pub returns : goal.returns
returns c = let v = c.loop-d.invariant in sets_all _ _ _ _ c.requires.few _ _ v.0 v.2 c.loop-d-test.false

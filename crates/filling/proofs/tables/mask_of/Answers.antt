-- Before the first symbol the mask is empty; past the last one it has the categories among all of them.
use Rattle.std.proofs.Common.{◌≡◌, length, arith}
use Rattle.std.proofs.Math.Nat.{pos_of_ne-zero}
use Rattle.filling.proofs.TableLaws.{mask_none, mask_empty, mask_some}
use Rattle.filling.proofs.tables.mask_of.Goals as goal

pub loop-x-init : goal.loop-x-init
loop-x-init c = mask_none _

pub returns-then-mask-eq0 : goal.returns-then-mask-eq0
returns-then-mask-eq0 c =
    let e : c.loop-x.x-index ≡ length c.args.symbols.now = omega arith in
    let all = rw e at c.loop-x.invariant in
    mask_empty _ _ (rw c.if-mask-eq0.true at all) c.insert.ensures

pub returns-else-mask-eq0 : goal.returns-else-mask-eq0
returns-else-mask-eq0 c =
    let e : c.loop-x.x-index ≡ length c.args.symbols.now = omega arith in
    mask_some _ _ c.requires (pos_of_ne-zero c.if-mask-eq0.false) (rw e at c.loop-x.invariant)

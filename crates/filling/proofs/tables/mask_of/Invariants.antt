-- The mask has the categories among the symbols passed.
use Rattle.filling.proofs.TableLaws.{MaskBelow}
use Rattle.filling.proofs.tables.mask_of.Given as goal

abbrev pub invariant-loop-x : goal.invariant-loop-x
invariant-loop-x l = MaskBelow l.symbols l.x-index l.mask

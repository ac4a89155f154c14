-- `first_end` meets its contract, by the kind of symbol.
use Rattle.std.proofs.Common.{◌-◌, arith, length, length-drop, get_or-drop}
use Rattle.std.proofs.lemmas.List.{take_rest}
use Rattle.positions.proofs.Members.{and_member, member_true, member_false}
use Rattle.tree.proofs.DivisionLaws.{depth_place}
use Rattle.tree.proofs.SetLaws.{end_category, end_past, end_other, end_out, end_next}
use Rattle.tree.proofs.division.Below.first_end.Goals as goal
use Rattle.tree.proofs.division.Below.first_end.Goals.{else-start-line-via-then-start-line+then-line-start+else-member, else-start-line-via-then-start-line+else-line-start, else-start-line-via-else-start-line}

pub shallow_end-requires : goal.shallow_end-requires
shallow_end-requires c e m =
    let k = c.args.self.now.kept in
    let p = depth_place (length k.line.now) _ (c.args.symbol - 128) c.args.start e c.requires.start (c.requires.inside e ((and_member _ c.args.set e).0 m).1) (c.requires.fits c.if-symbol-ge128.true).1 in
    simp (take_rest, length-drop) (omega (arith, p))

pub returns-then-symbol-ge128 : goal.returns-then-symbol-ge128
returns-then-symbol-ge128 c = end_category _ _ _ _ c.if-symbol-ge128.true c.requires.start c.requires.inside _ (simp (take_rest, get_or-drop) at c.shallow_end.ensures)

pub returns-then-member : goal.returns-then-member
returns-then-member c = end_next _ _ _ _ c.if-symbol-ge128.false c.if-start-line.true c.if-line-start.true (member_true _ _ c.member.ensures c.if-member.true)

pub returns : goal.returns
returns c = elim c.else-start-line.branch [
  | else-start-line-via-then-start-line+then-line-start+else-member w ↦ end_out _ _ _ _ c.if-symbol-ge128.false (member_false _ _ w.member.ensures w.if-member.false)
  | else-start-line-via-then-start-line+else-line-start w ↦ end_other _ _ _ _ c.if-symbol-ge128.false w.if-line-start.false
  | else-start-line-via-else-start-line w ↦ end_past _ _ _ _ c.if-symbol-ge128.false w.if-start-line.false
]

-- `printing::print_next`: the piece lies within the row, and there are few pieces.
use Rattle.std.proofs.Common.{arith, sym}
use Rattle.std.proofs.Math.Seq.{length-take-le}
use Rattle.report.proofs.PieceLaws.{pieces_few, yielded_within}
use Rattle.printing.proofs.print_next.Goals as goal

pub slice_bounds-write_all-end : goal.slice_bounds-write_all-end
slice_bounds-write_all-end c = yielded_within c.write_piece-length.ensures

pub slice_bounds-write_all-end-2 : goal.slice_bounds-write_all-end-2
slice_bounds-write_all-end-2 c = sym (length-take-le _ _ (yielded_within c.write_piece-length.ensures))

pub overflow_add-result : goal.overflow_add-result
overflow_add-result c = omega (arith, pieces_few c.args.input.now)

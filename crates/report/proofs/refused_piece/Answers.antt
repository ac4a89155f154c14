-- `report::refused_piece`: past the refusal there is no piece.
use Rattle.std.proofs.Common.{arith}
use Rattle.report.proofs.PieceLaws.{past_one}
use Rattle.report.proofs.refused_piece.Goals as goal

pub returns-then-number-ne0 : goal.returns-then-number-ne0
returns-then-number-ne0 c = past_one _ _ (omega arith)

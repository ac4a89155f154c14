-- The line that passed is short.
use Rattle.std.proofs.Common.{rules, sym, ◌∙◌}
use Rattle.checks.proofs.Laws.{line_passed}
use Rattle.checks.proofs.check_rest.Goals as goal

pub check_work-requires : goal.check_work-requires
check_work-requires c = (search rules, ((line_passed _ _).0 (sym c.check_line.ensures ∙ c.in_ok-check_line.was)).short)

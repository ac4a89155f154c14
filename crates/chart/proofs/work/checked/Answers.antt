-- A grammar that was read has at most 32 categories.
use Rattle.std.proofs.Common.{sym, ◌∙◌}
use Rattle.grammar.proofs.Accepted.{accepted, whole}
use Rattle.chart.proofs.work.checked.Goals as goal

pub check_rest-requires : goal.check_rest-requires
check_rest-requires c = (whole _ _ (accepted _ _ (sym c.read.ensures ∙ c.in_ok-s.was)).0).categories_high

pub invariant_of-result : goal.invariant_of-result
invariant_of-result c = record { sectioned = rw c.view_of.ensures (accepted _ _ (sym c.read.ensures ∙ c.in_ok-s.was)).0 }

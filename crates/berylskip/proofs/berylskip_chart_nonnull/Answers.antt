-- `berylskip::berylskip_chart_nonnull`: a refusal is handed over by its number and place.
use Rattle.std.proofs.Common.{ap}
use Rattle.chart.specs.Told.{chart_told}
use Rattle.berylskip.proofs.Handing.{hands_refusal}
use Rattle.berylskip.proofs.berylskip_chart_nonnull.Goals as goal

pub returns-in-Err : goal.returns-in-Err
returns-in-Err c = hands_refusal _ c.chart.ensures _ (ap chart_told c.in-Err.is) c.refuse.ensures

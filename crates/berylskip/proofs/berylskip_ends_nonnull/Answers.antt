-- `berylskip::berylskip_ends_nonnull`: a refusal is handed over by its number and place.
use Rattle.std.proofs.Common.{ap}
use Rattle.chart.specs.Told.{ends_told}
use Rattle.berylskip.proofs.Handing.{hands_refusal}
use Rattle.berylskip.proofs.berylskip_ends_nonnull.Goals as goal

pub returns-in-Err : goal.returns-in-Err
returns-in-Err c = hands_refusal _ c.ends.ensures _ (ap ends_told c.in-Err.is) c.refuse.ensures

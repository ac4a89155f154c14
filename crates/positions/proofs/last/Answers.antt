-- `last`: 63 less the zeros above the highest digit.
use Rattle.positions.proofs.Extremes.{last_leading}
use Rattle.positions.proofs.last.Goals as goal

pub returns : goal.returns
returns c = last_leading c.args.set c.requires c.ranges.set.fits

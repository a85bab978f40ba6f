use Rattle.local_view.proofs.Bits.{holds-without}
use Rattle.local_view.proofs.filling.without.Goals as goal

pub returns : goal.returns
returns c = λ zone. holds-without c.args.zones c.args.others zone c.ranges.zones.fits c.ranges.others.fits

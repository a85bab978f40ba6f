use Rattle.laws_of_maximum.proofs.Shortfall.{stops_short}
use Rattle.laws_of_maximum.proofs.examples.falling_iceberg_stops_short.Goals as goal

pub returns : goal.returns
returns c = stops_short

use Rattle.iceberg_peak.proofs.PeakLemmas.{shows_something}
use Rattle.iceberg_peak.proofs.laws.open_iceberg_shows_something.Goals as goal

pub returns : goal.returns
returns c = shows_something

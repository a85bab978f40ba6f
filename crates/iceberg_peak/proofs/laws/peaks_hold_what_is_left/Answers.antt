use Rattle.iceberg_peak.proofs.PeakLemmas.{peaks_hold_what_is_left}
use Rattle.iceberg_peak.proofs.laws.peaks_hold_what_is_left.Goals as goal

pub returns : goal.returns
returns c = peaks_hold_what_is_left

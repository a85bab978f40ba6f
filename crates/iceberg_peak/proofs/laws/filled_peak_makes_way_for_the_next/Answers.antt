use Rattle.iceberg_peak.proofs.PeakLemmas.{fills_step_the_number, next_peak_comes}
use Rattle.iceberg_peak.proofs.laws.filled_peak_makes_way_for_the_next.Goals as goal

pub returns-clause-steps : goal.returns-clause-steps
returns-clause-steps c = fills_step_the_number

pub returns-clause-next : goal.returns-clause-next
returns-clause-next c = next_peak_comes

use Rattle.record_run.proofs.Dividing.{traded-records}
use Rattle.record_run.proofs.laws.traded_journals_make_records.Goals as goal

pub returns : goal.returns
returns c = traded-records

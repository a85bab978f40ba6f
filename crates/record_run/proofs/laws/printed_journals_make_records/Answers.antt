use Rattle.record_run.proofs.Dividing.{printed-records}
use Rattle.record_run.proofs.laws.printed_journals_make_records.Goals as goal

pub returns : goal.returns
returns c = printed-records

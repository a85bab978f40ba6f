use Rattle.desk_entering.proofs.Records.{records-tell}
use Rattle.desk_entering.proofs.laws.records_tell_what_crosses.Goals as goal

pub returns : goal.returns
returns c = records-tell

use Rattle.record_run.specs.Records.{dividing_line}
use Rattle.record_run.proofs.Markets.{makes-grid}
use Rattle.record_run.proofs.auditing.audited_of.Goals as goal

-- the session of a record makes a grid
pub grid_of-requires-clause-sound : goal.grid_of-requires-clause-sound
grid_of-requires-clause-sound c = (makes-grid dividing_line c.args.bytes.now c.in-Ok.divided.rest.now c.in-Ok.divided.session c.in-Ok.ensures.good).1

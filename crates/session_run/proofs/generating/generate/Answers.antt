use Rattle.session_run.proofs.Generated.{nothing_of_summary}
use Rattle.session_run.proofs.generating.generate.Goals as goal

-- where memory was wanting nothing was written
pub returns-in_default-clause-outcome : goal.returns-in_default-clause-outcome
returns-in_default-clause-outcome g c = nothing_of_summary c.args.commands (g.K.Sink.written c.args.sink.now) c.requires.few

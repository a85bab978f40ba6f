use Rattle.laws_of_texts.proofs.Grids.{sessions-make-grids}
use Rattle.session_run.proofs.sessions.session_from.Goals as goal

-- a session that is read makes a grid
pub returns-in-Ok-read_session-clause-sound : goal.returns-in-Ok-read_session-clause-sound
returns-in-Ok-read_session-clause-sound g c =
    (sessions-make-grids c.as_slice.result.now c.in-Ok-read_session.session c.in-Ok-read_session.ensures.exact).1

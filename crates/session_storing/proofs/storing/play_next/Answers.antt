use Rattle.std.proofs.Common.{◌<◌, length, arith, subst}
use Rattle.market_model.specs.declared.setup.Setup.{Setup}
use Rattle.session_storing.proofs.Plays.{plays-on, room-left}
use Rattle.session_storing.proofs.storing.play_next.Goals as goal

pub give_next-requires-clause-room : goal.give_next-requires-clause-room
give_next-requires-clause-room g c = room-left c.requires.plays.0 (g.P.Player.state c.args.player.now) c.requires.plays.1 c.args.caller c.requires.some

-- the player plays on
pub returns-in-Ok-clause-played : goal.returns-in-Ok-clause-played
returns-in-Ok-clause-played g c = λ session is.
    let known : c.args.caller < length session.setup.callers = subst (λ (setup : Setup). c.args.caller < length setup.callers) is.setup c.requires.known in
    plays-on session (g.P.Player.state c.args.player.now) is c.args.caller known (omega (arith, known, is.matched, is.is_session.matched))
    (g.P.Player.state c.give_next.new.self) c.in-Ok.ensures

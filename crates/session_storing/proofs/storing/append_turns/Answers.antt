-- The turns are played one after the other, and their lines stored.
use Rattle.std.proofs.Common.{◌∙◌, ◌++◌, ◌∷◌, [], append_assoc, ap, get_or, take, sym, arith}
use Rattle.std.proofs.lemmas.List.{append-nil, take_more}
use Rattle.disk_model.proofs.Moments.{started}
use Rattle.journal_audit.specs.Course.{callers_of}
use Rattle.stored_journal.specs.Lines.{StoresFront}
use Rattle.stored_journal.proofs.Fronts.{front-shorter}
use Rattle.session_storing.specs.Playing.{lines_in_order}
use Rattle.session_storing.proofs.Appends.{holds-front, some-waits, turn-leaves, turns-front}
use Rattle.session_storing.proofs.storing.append_turns.Goals as goal

pub loop-turn-init : goal.loop-turn-init
loop-turn-init g c =
    let old = g.P.Player.state c.args.player.now in
    record {
      plays = c.requires.plays;
      played = λ session is. is;
      callers = sym (append-nil (callers_of old.entries));
      rest = c.requires.rest;
      stored = λ holds. holds;
      image = λ holds is. is;
      fits = λ holds few. few;
      any_moment = λ session is holds.
          started g.D.Disk.moment g.D.Disk.left_since c.args.disk.now (StoresFront (lines_in_order session (callers_of old.entries ++ c.args.turns.now)))
          (λ image left. holds-front session old c.args.turns.now is (g.D.Disk.contents c.args.disk.now) c.args.at holds image (g.met.D.Disk.only_now c.args.disk.now image left));
      count = omega arith;
    }

pub append_turn-requires-clause-some : goal.append_turn-requires-clause-some
append_turn-requires-clause-some g c =
    some-waits c.requires.plays.0 (g.P.Player.state c.args.player.now) (g.P.Player.state c.loop-turn.player) c.args.turns.now c.loop-turn.turn-index
    c.requires.plays.1 (c.loop-turn.invariant.played c.requires.plays.0 c.requires.plays.1) c.requires.turns c.loop-turn.invariant.callers c.loop-turn-test.true

pub returns-in-Err-clause-any_moment : goal.returns-in-Err-clause-any_moment
returns-in-Err-clause-any_moment g c = λ session is holds.
    let old = g.P.Player.state c.args.player.now in
    let now = g.P.Player.state c.loop-turn.player in
    let before = c.loop-turn.invariant in
    turn-leaves session (callers_of old.entries) c.args.turns.now now.entries c.loop-turn.turn-index before.callers c.loop-turn-test.true
    g.D.Disk.moment g.D.Disk.left_since c.args.disk.now c.loop-turn.disk c.append_turn.new.disk (before.any_moment session is holds)
    (c.append_turn.ensures.any_moment session (before.played session is) (before.stored holds))

pub returns-in-Err-clause-too_long : goal.returns-in-Err-clause-too_long
returns-in-Err-clause-too_long g c = λ session is holds long.
    let callers = callers_of (g.P.Player.state c.args.player.now).entries in
    let turn = get_or c.args.turns.now c.loop-turn.turn-index 0 in
    let before = c.loop-turn.invariant in
    let now = g.P.Player.state c.loop-turn.player in
    let shorter = front-shorter (lines_in_order session (callers_of now.entries ++ turn ∷ [])) (lines_in_order session (callers ++ c.args.turns.now))
    (turns-front session callers c.args.turns.now now.entries c.loop-turn.turn-index before.callers c.loop-turn-test.true) in
    let large = c.in-Err.ensures.too_long session (before.played session is) (before.stored holds) long in
    omega (arith, shorter, large)

pub loop-turn-preserved : goal.loop-turn-preserved
loop-turn-preserved g c =
    let callers = callers_of (g.P.Player.state c.args.player.now).entries in
    let turn = get_or c.args.turns.now c.loop-turn.turn-index 0 in
    let before = c.loop-turn.invariant in
    let now = g.P.Player.state c.loop-turn.player in
    let made = c.in-Ok.ensures in
    record {
      plays = (c.requires.plays.0, made.played c.requires.plays.0 (before.played c.requires.plays.0 c.requires.plays.1));
      played = λ session is. made.played session (before.played session is);
      callers = made.callers ∙ ap (λ cs. cs ++ turn ∷ []) before.callers ∙ append_assoc callers (take c.loop-turn.turn-index c.args.turns.now) (turn ∷ [])
          ∙ ap (λ ts. callers ++ ts) (sym (take_more c.args.turns.now c.loop-turn.turn-index 0 c.loop-turn-test.true));
      rest = made.rest;
      stored = λ holds. made.stored (before.stored holds);
      image = λ holds is. made.image (before.stored holds) (before.image holds is);
      fits = λ holds few. made.fits (before.stored holds);
      any_moment = λ session is holds.
          turn-leaves session callers c.args.turns.now now.entries c.loop-turn.turn-index before.callers c.loop-turn-test.true
          g.D.Disk.moment g.D.Disk.left_since c.args.disk.now c.loop-turn.disk c.append_turn.new.disk (before.any_moment session is holds)
          (c.append_turn.ensures.any_moment session (before.played session is) (before.stored holds));
      count = omega (arith, before.count, c.append_turn.ensures.count);
    }

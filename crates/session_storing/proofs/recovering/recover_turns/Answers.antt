-- The lines of an image are played and compared, and what is left is played and stored.
use Rattle.std.proofs.Common.{◌∙◌, ◌<◌, All, ℕ, List, length, arith, sym, subst}
use Rattle.durable_journal.specs.Resting.{HoldsLines}
use Rattle.durable_journal.specs.Stored.{Stores}
use Rattle.market_model.specs.declared.setup.Setup.{Setup}
use Rattle.session_storing.proofs.Plays.{waiting-count}
use Rattle.session_storing.proofs.Recovers.{held, recovered-if, too-large}
use Rattle.session_storing.proofs.recovering.recover_turns.Goals as goal

pub returns-in-Err-clause-bad : goal.returns-in-Err-clause-bad
returns-in-Err-clause-bad g c = λ place same empty. c.in-Err.ensures.bad place (cc) empty

pub append_left-requires-clause-known : goal.append_left-requires-clause-known
append_left-requires-clause-known g c =
    let is = c.requires.plays.1 in
    let played = c.in-Ok-play_lines.ensures.played c.requires.plays.0 is in
    subst (λ (setup : Setup). All (λ (turn : ℕ). turn < length setup.callers) c.args.turns.now) (is.setup ∙ sym played.playing.setup) c.requires.turns.known

pub append_left-requires-clause-counted : goal.append_left-requires-clause-counted
append_left-requires-clause-counted g c = λ caller.
    let session = c.requires.plays.0 in
    let is = c.requires.plays.1 in
    let played = c.in-Ok-play_lines.ensures.played session is in
    omega (
      arith,
      c.requires.turns.enough caller,
      waiting-count session (g.P.Player.state c.args.player.now) is caller,
      waiting-count session (g.P.Player.state c.play_lines.new.player) played.playing caller,
    )

pub returns-clause-illegal : goal.returns-clause-illegal
returns-clause-illegal g c = λ session entry is same empty.
    let stores : Stores c.args.image.now c.as_slice.result.now c.in-Ok.opened.0 =
    subst (λ (lines : List (List ℕ)). Stores c.args.image.now lines c.in-Ok.opened.0) (sym c.as_slice.ensures) (c.in-Ok.ensures.lines empty) in
    record {
      lines = c.as_slice.result.now;
      stores = (c.in-Ok.opened.0, stores);
      wrong = c.in-Err-play_lines.ensures.wrong session entry is (cc);
    }

pub returns-in-Ok-play_lines-clause-recovered : goal.returns-in-Ok-play_lines-clause-recovered
returns-in-Ok-play_lines-clause-recovered g c = λ session is empty.
    let place = c.in-Ok.opened.0 in
    let lines = c.as_slice.result.now in
    let before = g.D.Disk.contents c.open_written.new.disk in
    let stores : Stores c.args.image.now lines place = subst (λ (ls : List (List ℕ)). Stores c.args.image.now ls place) (sym c.as_slice.ensures) (c.in-Ok.ensures.lines empty) in
    let holds : HoldsLines before lines place = subst (λ (ls : List (List ℕ)). HoldsLines before ls place) (sym c.as_slice.ensures) (c.in-Ok.ensures.holds empty) in
    let played = c.in-Ok-play_lines.ensures.played session is in
    recovered-if session c.args.turns.now c.args.image.now lines place (g.P.Player.state c.play_lines.new.player) (g.P.Player.state c.append_left.new.player)
    before (g.D.Disk.contents c.append_left.new.disk) stores holds played c.append_left.result
    (c.append_left.ensures.played session played.playing) c.append_left.ensures.callers c.append_left.ensures.stored c.append_left.ensures.fits

pub returns-in-Ok-play_lines-clause-too_long : goal.returns-in-Ok-play_lines-clause-too_long
returns-in-Ok-play_lines-clause-too_long g c = λ session is long empty.
    let place = c.in-Ok.opened.0 in
    let lines = c.as_slice.result.now in
    let before = g.D.Disk.contents c.open_written.new.disk in
    let stores : Stores c.args.image.now lines place = subst (λ (ls : List (List ℕ)). Stores c.args.image.now ls place) (sym c.as_slice.ensures) (c.in-Ok.ensures.lines empty) in
    let holds : HoldsLines before lines place = subst (λ (ls : List (List ℕ)). HoldsLines before ls place) (sym c.as_slice.ensures) (c.in-Ok.ensures.holds empty) in
    let mid = g.P.Player.state c.play_lines.new.player in
    let new = g.P.Player.state c.append_left.new.player in
    let played = c.in-Ok-play_lines.ensures.played session is in
    too-large session c.args.turns.now c.args.image.now lines place mid new before (g.D.Disk.contents c.append_left.new.disk) stores holds played
    (c.append_left.ensures.too_long session played.playing
    (held session c.args.turns.now c.args.image.now lines place mid new before (g.D.Disk.contents c.append_left.new.disk) stores holds played) long)

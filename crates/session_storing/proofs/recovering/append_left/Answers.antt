-- The commands that are left are played, and their lines stored.
use Rattle.std.proofs.Common.{◌≡◌, ◌∙◌, ◌<◌, ◌++◌, OnOk, List, ℕ, length, arith, ap, sym, subst}
use Rattle.durable_journal.specs.Appending.{most_stored}
use Rattle.durable_journal.specs.Stored.{image_of}
use Rattle.market_model.specs.declared.entry.Entry.{Entry}
use Rattle.session_journal.proofs.Journals.{count-callers}
use Rattle.journal_audit.specs.Course.{callers_of}
use Rattle.journal_audit.proofs.Courses.{commands-few}
use Rattle.session_storing.specs.Playing.{HasCommandsFor, lines_in_order, turns_of}
use Rattle.session_storing.specs.Recovering.{turns_left}
use Rattle.session_storing.proofs.LeftTurns.{left-commands}
use Rattle.session_storing.proofs.Plays.{waiting-count}
use Rattle.session_storing.proofs.recovering.append_left.Goals as goal

pub turns_left-requires-clause-few_made : goal.turns_left-requires-clause-few_made
turns_left-requires-clause-few_made g c = λ caller.
    let old = g.P.Player.state c.args.player.now in
    let session = c.requires.plays.0 in
    let is = c.requires.plays.1 in
    subst (λ (entries : List Entry). turns_of (callers_of entries) caller < 4294967295) (sym c.entries.ensures)
    (omega (arith, count-callers old.entries caller, is.given caller, commands-few session is.is_session caller))

pub turns_left-requires-clause-few : goal.turns_left-requires-clause-few
turns_left-requires-clause-few g c = λ caller.
    let old = g.P.Player.state c.args.player.now in
    let session = c.requires.plays.0 in
    let is = c.requires.plays.1 in
    omega (arith, c.requires.counted caller, waiting-count session old is caller, commands-few session is.is_session caller)

pub append_turns-requires-clause-turns : goal.append_turns-requires-clause-turns
append_turns-requires-clause-turns g c =
    let old = g.P.Player.state c.args.player.now in
    let left : c.as_slice.result.now ≡ turns_left (callers_of old.entries) c.args.turns.now =
    c.as_slice.ensures.value ∙ c.in-Ok.ensures ∙ ap (λ (entries : List Entry). turns_left (callers_of entries) c.args.turns.now) c.entries.ensures in
    subst (HasCommandsFor old) (sym left) (left-commands old c.args.turns.now c.requires.known c.requires.counted)

pub returns-clause-callers : goal.returns-clause-callers
returns-clause-callers g c =
    let old = g.P.Player.state c.args.player.now in
    let new = g.P.Player.state c.append_turns.new.player in
    let left : c.as_slice.result.now ≡ turns_left (callers_of old.entries) c.args.turns.now =
    c.as_slice.ensures.value ∙ c.in-Ok.ensures ∙ ap (λ (entries : List Entry). turns_left (callers_of entries) c.args.turns.now) c.entries.ensures in
    subst (λ (turns : List ℕ). OnOk c.append_turns.result (callers_of new.entries ≡ callers_of old.entries ++ turns)) left c.append_turns.ensures.callers

pub returns-clause-too_long : goal.returns-clause-too_long
returns-clause-too_long g c = λ session is holds long.
    let old = g.P.Player.state c.args.player.now in
    let left : c.as_slice.result.now ≡ turns_left (callers_of old.entries) c.args.turns.now =
    c.as_slice.ensures.value ∙ c.in-Ok.ensures ∙ ap (λ (entries : List Entry). turns_left (callers_of entries) c.args.turns.now) c.entries.ensures in
    subst (λ (turns : List ℕ). most_stored < length (image_of (lines_in_order session (callers_of old.entries ++ turns)))) left
    (c.append_turns.ensures.too_long session is holds long)

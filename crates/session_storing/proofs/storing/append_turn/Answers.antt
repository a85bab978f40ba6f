-- One more command is played, and the line of its entry stored.
use Rattle.std.proofs.Common.{◌≡◌, ◌≤◌, ◌<◌, ◌∙◌, ◌++◌, ◌∷◌, [], ℕ, List, length, subst}
use Rattle.disk_model.proofs.Moments.{leaves_more, started}
use Rattle.durable_journal.specs.Appending.{StoresOldOrNew, most_stored}
use Rattle.durable_journal.specs.Resting.{HoldsLines, IsImageOf}
use Rattle.durable_journal.specs.Stored.{image_of}
use Rattle.journal_audit.specs.Course.{callers_of}
use Rattle.stored_journal.specs.Lines.{StoresFront, stored_line}
use Rattle.stored_journal.proofs.Fronts.{old-or-new}
use Rattle.stored_journal.proofs.Results.{if-ok, on-ok, on-ok-both}
use Rattle.session_storing.specs.Playing.{lines_in_order, lines_played}
use Rattle.session_storing.proofs.Appends.{behind-size, holds-front, last-within, lines-grew, lines-then}
use Rattle.session_storing.proofs.storing.append_turn.Goals as goal

pub returns-in_err-play_next-clause-any_moment : goal.returns-in_err-play_next-clause-any_moment
returns-in_err-play_next-clause-any_moment g c = λ session is holds.
    let old = g.P.Player.state c.args.player.now in
    started g.D.Disk.moment g.D.Disk.left_since c.args.disk.now (StoresFront (lines_in_order session (callers_of old.entries ++ c.args.turn ∷ [])))
    (λ image left. holds-front session old (c.args.turn ∷ []) is (g.D.Disk.contents c.args.disk.now) c.args.at holds image (g.met.D.Disk.only_now c.args.disk.now image left))

-- the last entry names what the setup has
pub append_entry-requires-clause-within : goal.append_entry-requires-clause-within
append_entry-requires-clause-within g c =
    let on = c.in_ok-play_next.ensures.played c.requires.plays.0 c.requires.plays.1 in
    last-within (g.P.Player.state c.args.player.now) (g.P.Player.state c.play_next.new.player) c.setup.result.now c.entries-entries.result.now c.last_of.result.now
    c.setup.ensures c.entries-entries.ensures c.last_of.ensures c.requires.plays.0 on.playing on.entry on.grew

pub returns-clause-stored : goal.returns-clause-stored
returns-clause-stored g c =
    let old = g.P.Player.state c.args.player.now in
    let new = g.P.Player.state c.play_next.new.player in
    let lines = lines-grew old new c.setup.result.now c.entries-entries.result.now c.last_of.result.now c.setup.ensures c.entries-entries.ensures c.last_of.ensures
    c.in_ok-play_next.ensures.setup c.args.turn c.in_ok-play_next.ensures.grew in
    if-ok c.append_entry.result _ _
    (λ end added holds. subst (λ (ls : List (List ℕ)). HoldsLines (g.D.Disk.contents c.append_entry.new.disk) ls end) lines (added (lines_played old) holds))
    c.append_entry.ensures.added

pub returns-clause-image : goal.returns-clause-image
returns-clause-image g c =
    let old = g.P.Player.state c.args.player.now in
    let new = g.P.Player.state c.play_next.new.player in
    let line : List ℕ = stored_line c.setup.result.now (length c.entries-entries.result.now) c.last_of.result.now in
    let lines = lines-grew old new c.setup.result.now c.entries-entries.result.now c.last_of.result.now c.setup.ensures c.entries-entries.ensures c.last_of.ensures
    c.in_ok-play_next.ensures.setup c.args.turn c.in_ok-play_next.ensures.grew in
    on-ok c.append_entry.result _ _
    (λ image holds is. subst (λ (ls : List (List ℕ)). IsImageOf (g.D.Disk.contents c.append_entry.new.disk) ls) lines (image (lines_played old) is holds.ends.each holds.ends.end))
    c.append_entry.ensures.image

pub returns-clause-fits : goal.returns-clause-fits
returns-clause-fits g c =
    let old = g.P.Player.state c.args.player.now in
    let new = g.P.Player.state c.play_next.new.player in
    let line : List ℕ = stored_line c.setup.result.now (length c.entries-entries.result.now) c.last_of.result.now in
    let lines = lines-grew old new c.setup.result.now c.entries-entries.result.now c.last_of.result.now c.setup.ensures c.entries-entries.ensures c.last_of.ensures
    c.in_ok-play_next.ensures.setup c.args.turn c.in_ok-play_next.ensures.grew in
    on-ok-both c.append_entry.result _ _
    (λ end fits holds. subst (λ (ls : List (List ℕ)). length (image_of ls) ≤ most_stored) lines
    (subst (λ n. n ≤ most_stored) (behind-size (lines_played old) line (g.D.Disk.contents c.args.disk.now) c.args.at holds) fits))
    c.append_entry.ensures.fits

pub returns-clause-any_moment : goal.returns-clause-any_moment
returns-clause-any_moment g c = λ session is holds.
    let old = g.P.Player.state c.args.player.now in
    let new = g.P.Player.state c.play_next.new.player in
    let line : List ℕ = stored_line c.setup.result.now (length c.entries-entries.result.now) c.last_of.result.now in
    let lines = lines-grew old new c.setup.result.now c.entries-entries.result.now c.last_of.result.now c.setup.ensures c.entries-entries.ensures c.last_of.ensures
    c.in_ok-play_next.ensures.setup c.args.turn c.in_ok-play_next.ensures.grew in
    let whole : lines_played old ++ line ∷ [] ≡ lines_in_order session (callers_of old.entries ++ c.args.turn ∷ []) =
    lines ∙ lines-then old c.args.turn new c.in_ok-play_next.ensures.grew session (c.in_ok-play_next.ensures.played session is).playing in
    leaves_more g.D.Disk.moment g.D.Disk.left_since c.args.disk.now c.append_entry.new.disk (StoresOldOrNew (lines_played old) line)
    (StoresFront (lines_in_order session (callers_of old.entries ++ c.args.turn ∷ [])))
    (λ image stores. subst (λ (ls : List (List ℕ)). StoresFront ls image) whole (old-or-new (lines_played old) line image stores))
    (c.append_entry.ensures.any_moment (lines_played old) holds)

pub returns-clause-too_long : goal.returns-clause-too_long
returns-clause-too_long g c = λ session is holds long.
    let old = g.P.Player.state c.args.player.now in
    let new = g.P.Player.state c.play_next.new.player in
    let line : List ℕ = stored_line c.setup.result.now (length c.entries-entries.result.now) c.last_of.result.now in
    let lines = lines-grew old new c.setup.result.now c.entries-entries.result.now c.last_of.result.now c.setup.ensures c.entries-entries.ensures c.last_of.ensures
    c.in_ok-play_next.ensures.setup c.args.turn c.in_ok-play_next.ensures.grew in
    let whole : lines_played old ++ line ∷ [] ≡ lines_in_order session (callers_of old.entries ++ c.args.turn ∷ []) =
    lines ∙ lines-then old c.args.turn new c.in_ok-play_next.ensures.grew session (c.in_ok-play_next.ensures.played session is).playing in
    subst (λ (ls : List (List ℕ)). most_stored < length (image_of ls)) whole
    (subst (λ n. most_stored < n) (behind-size (lines_played old) line (g.D.Disk.contents c.args.disk.now) c.args.at holds) (c.append_entry.ensures.too_long long))

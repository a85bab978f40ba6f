-- A session that is read is played on desks, over an empty disk.
use Rattle.std.proofs.Common.{◌≡◌, ◌≤◌, ◌<◌, ◌∙◌, [], ℕ, List, IfOk, OnOk, length, sym, subst}
use Rattle.disk_model.proofs.Moments.{started}
use Rattle.disk_model.specs.Moments.{LeavesOnly}
use Rattle.durable_journal.specs.Appending.{most_stored}
use Rattle.durable_journal.specs.Resting.{IsImageOf}
use Rattle.durable_journal.specs.Stored.{image_of}
use Rattle.stored_journal.specs.Lines.{StoresFront, TellsContents}
use Rattle.session_storing.specs.Playing.{HasCommandsFor, PlayState, lines_in_order}
use Rattle.session_run.specs.Storing.{lines_of_session}
use Rattle.session_run.proofs.Stored.{desk-plays, empty-front, has-commands, later-done, later-ok, told-empty}
use Rattle.session_run.proofs.storing.store_session.Goals as goal

pub store_turns-requires-clause-plays : goal.store_turns-requires-clause-plays
store_turns-requires-clause-plays g c =
    (c.args.session, desk-plays c.args.session c.requires.session c.requires.joined c.requires.sound c.in-Ok.player.market c.in-Ok.player.waiting c.in-Ok.ensures.market c.in-Ok.ensures.waiting)

pub store_turns-requires-clause-turns : goal.store_turns-requires-clause-turns
store_turns-requires-clause-turns g c =
    let session = c.args.session in
    let made = c.in-Ok.ensures in
    let state : PlayState = record { setup = c.in-Ok.player.market.setup; waiting = c.in-Ok.player.waiting; entries = c.in-Ok.player.market.entries } in
    let is : state ≡ record { setup = session.setup; waiting = session.commands; entries = [] } =
    (λ i. record { setup = (made.market i).setup; waiting = made.waiting i; entries = (made.market i).entries }) in
    subst (λ (turns : List ℕ). HasCommandsFor state turns) (sym (c.as_slice.ensures ∙ made.turns)) (has-commands session c.requires.session state is)

pub returns-in-Ok-clause-image : goal.returns-in-Ok-clause-image
returns-in-Ok-clause-image g c =
    let session = c.args.session in
    later-ok c.store_turns.result (TellsContents (g.D.Disk.contents c.args.disk.now)) _ (λ tells.
    subst (λ (turns : List ℕ). IfOk c.store_turns.result (λ image. image.items ≡ image_of (lines_in_order session turns))) (c.as_slice.ensures ∙ c.in-Ok.ensures.turns)
    (c.store_turns.ensures.image session (desk-plays session c.requires.session c.requires.joined c.requires.sound c.in-Ok.player.market c.in-Ok.player.waiting c.in-Ok.ensures.market c.in-Ok.ensures.waiting) (told-empty (g.D.Disk.contents c.args.disk.now) c.requires.empty tells)))

pub returns-in-Ok-clause-fits : goal.returns-in-Ok-clause-fits
returns-in-Ok-clause-fits g c =
    let session = c.args.session in
    later-done c.store_turns.result (TellsContents (g.D.Disk.contents c.args.disk.now)) _ (λ tells.
    subst (λ (turns : List ℕ). OnOk c.store_turns.result (length (image_of (lines_in_order session turns)) ≤ most_stored)) (c.as_slice.ensures ∙ c.in-Ok.ensures.turns)
    (c.store_turns.ensures.fits session (desk-plays session c.requires.session c.requires.joined c.requires.sound c.in-Ok.player.market c.in-Ok.player.waiting c.in-Ok.ensures.market c.in-Ok.ensures.waiting) (told-empty (g.D.Disk.contents c.args.disk.now) c.requires.empty tells)))

pub returns-in-Ok-clause-on_disk : goal.returns-in-Ok-clause-on_disk
returns-in-Ok-clause-on_disk g c =
    let session = c.args.session in
    later-done c.store_turns.result (TellsContents (g.D.Disk.contents c.args.disk.now)) _ (λ tells.
    subst (λ (turns : List ℕ). OnOk c.store_turns.result (IsImageOf (g.D.Disk.contents c.store_turns.new.disk) (lines_in_order session turns))) (c.as_slice.ensures ∙ c.in-Ok.ensures.turns)
    (c.store_turns.ensures.on_disk session (desk-plays session c.requires.session c.requires.joined c.requires.sound c.in-Ok.player.market c.in-Ok.player.waiting c.in-Ok.ensures.market c.in-Ok.ensures.waiting) (told-empty (g.D.Disk.contents c.args.disk.now) c.requires.empty tells)))

pub returns-in-Ok-clause-any_moment : goal.returns-in-Ok-clause-any_moment
returns-in-Ok-clause-any_moment g c = λ tells.
    let session = c.args.session in
    subst (λ (turns : List ℕ). LeavesOnly g.D.Disk.moment g.D.Disk.left_since c.args.disk.now c.store_turns.new.disk (StoresFront (lines_in_order session turns)))
    (c.as_slice.ensures ∙ c.in-Ok.ensures.turns)
    (c.store_turns.ensures.any_moment session (desk-plays session c.requires.session c.requires.joined c.requires.sound c.in-Ok.player.market c.in-Ok.player.waiting c.in-Ok.ensures.market c.in-Ok.ensures.waiting) (told-empty (g.D.Disk.contents c.args.disk.now) c.requires.empty tells))

pub returns-in-Ok-clause-bad_image : goal.returns-in-Ok-clause-bad_image
returns-in-Ok-clause-bad_image g c = λ place bad tells.
    c.store_turns.ensures.bad place bad (told-empty (g.D.Disk.contents c.args.disk.now) c.requires.empty tells)

pub returns-in-Ok-clause-too_long : goal.returns-in-Ok-clause-too_long
returns-in-Ok-clause-too_long g c = λ tells long.
    let session = c.args.session in
    subst (λ (turns : List ℕ). most_stored < length (image_of (lines_in_order session turns))) (c.as_slice.ensures ∙ c.in-Ok.ensures.turns)
    (c.store_turns.ensures.too_long session (desk-plays session c.requires.session c.requires.joined c.requires.sound c.in-Ok.player.market c.in-Ok.player.waiting c.in-Ok.ensures.market c.in-Ok.ensures.waiting) (told-empty (g.D.Disk.contents c.args.disk.now) c.requires.empty tells) long)

pub returns-in-Err-clause-any_moment : goal.returns-in-Err-clause-any_moment
returns-in-Err-clause-any_moment g c = λ tells.
    started g.D.Disk.moment g.D.Disk.left_since c.args.disk.now (StoresFront (lines_of_session c.args.session))
    (λ image left. empty-front (g.D.Disk.contents c.args.disk.now) (lines_of_session c.args.session) (told-empty (g.D.Disk.contents c.args.disk.now) c.requires.empty tells) image
    (g.met.D.Disk.only_now c.args.disk.now image left))

-- A session is recovered on desks, over an empty disk.
use Rattle.std.proofs.Common.{◌≡◌, ◌∙◌, [], ℕ, List, All, arith, sym, ap, subst}
use Rattle.market_model.specs.Naming.{IsEntryIn, IsNamed}
use Rattle.trade_journal.specs.Journals.{JournalState}
use Rattle.session_io.specs.JournalText.{journal_text}
use Rattle.session_storing.specs.Playing.{HasCommandsFor, PlayState}
use Rattle.session_storing.specs.Recovering.{IsTooLargeBehind}
use Rattle.session_run.specs.Recovering.{IsTextBehind}
use Rattle.session_run.proofs.Recovered.{lines-held, text-behind}
use Rattle.session_run.proofs.Stored.{desk-plays, has-commands, told-empty}
use Rattle.session_run.proofs.recovering.recover_session.Goals as goal

pub recover_turns-requires-clause-plays : goal.recover_turns-requires-clause-plays
recover_turns-requires-clause-plays g c =
    (c.args.session, desk-plays c.args.session c.requires.session c.requires.joined c.requires.sound c.in-Ok.player.market c.in-Ok.player.waiting c.in-Ok.ensures.market c.in-Ok.ensures.waiting)

pub recover_turns-requires-clause-begins : goal.recover_turns-requires-clause-begins
recover_turns-requires-clause-begins g c = ap (λ (m : JournalState). m.entries) c.in-Ok.ensures.market

pub recover_turns-requires-clause-turns : goal.recover_turns-requires-clause-turns
recover_turns-requires-clause-turns g c =
    let session = c.args.session in
    let made = c.in-Ok.ensures in
    let state : PlayState = record { setup = c.in-Ok.player.market.setup; waiting = c.in-Ok.player.waiting; entries = c.in-Ok.player.market.entries } in
    let is : state ≡ record { setup = session.setup; waiting = session.commands; entries = [] } =
    (λ i. record { setup = (made.market i).setup; waiting = made.waiting i; entries = (made.market i).entries }) in
    subst (λ (turns : List ℕ). HasCommandsFor state turns) (sym (c.as_slice.ensures ∙ made.turns)) (has-commands session c.requires.session state is)

pub recover_turns-requires-clause-small : goal.recover_turns-requires-clause-small
recover_turns-requires-clause-small g c = omega (arith, c.requires.short)

-- ---- it is recovered

pub returns-in-Ok-recover_turns-clause-text : goal.returns-in-Ok-recover_turns-clause-text
returns-in-Ok-recover_turns-clause-text g c = λ tells.
    let session = c.args.session in
    let plays = desk-plays session c.requires.session c.requires.joined c.requires.sound c.in-Ok.player.market c.in-Ok.player.waiting c.in-Ok.ensures.market c.in-Ok.ensures.waiting in
    let is = c.in-Ok-recover_turns.ensures.recovered session plays (told-empty (g.D.Disk.contents c.args.disk.now) c.requires.empty tells) in
    subst (λ (journal : JournalState). IsTextBehind session c.args.image.now (journal_text journal.setup journal.entries)) (sym c.into_journal.ensures)
    (text-behind session c.as_slice.result.now c.args.image.now (g.D.Disk.contents c.recover_turns.new.disk) _ (c.as_slice.ensures ∙ c.in-Ok.ensures.turns) is c.requires.short)

pub returns-in-Ok-recover_turns-clause-named : goal.returns-in-Ok-recover_turns-clause-named
returns-in-Ok-recover_turns-clause-named g c =
    let session = c.args.session in
    let plays = desk-plays session c.requires.session c.requires.joined c.requires.sound c.in-Ok.player.market c.in-Ok.player.waiting c.in-Ok.ensures.market c.in-Ok.ensures.waiting in
    let played = c.in-Ok-recover_turns.ensures.played session plays in
    subst IsNamed (sym (ap (λ (journal : JournalState). journal.setup) c.into_journal.ensures ∙ played.setup)) c.requires.session.named

pub returns-in-Ok-recover_turns-clause-within : goal.returns-in-Ok-recover_turns-clause-within
returns-in-Ok-recover_turns-clause-within g c =
    let session = c.args.session in
    let plays = desk-plays session c.requires.session c.requires.joined c.requires.sound c.in-Ok.player.market c.in-Ok.player.waiting c.in-Ok.ensures.market c.in-Ok.ensures.waiting in
    let played = c.in-Ok-recover_turns.ensures.played session plays in
    subst (λ (journal : JournalState). All (IsEntryIn journal.setup) journal.entries) (sym c.into_journal.ensures)
    (subst (λ setup. All (IsEntryIn setup) c.recover_turns.new.player.market.entries) (sym played.setup) played.named)

pub returns-in-Ok-recover_turns-clause-on_disk : goal.returns-in-Ok-recover_turns-clause-on_disk
returns-in-Ok-recover_turns-clause-on_disk g c = λ tells.
    let session = c.args.session in
    let plays = desk-plays session c.requires.session c.requires.joined c.requires.sound c.in-Ok.player.market c.in-Ok.player.waiting c.in-Ok.ensures.market c.in-Ok.ensures.waiting in
    let is = c.in-Ok-recover_turns.ensures.recovered session plays (told-empty (g.D.Disk.contents c.args.disk.now) c.requires.empty tells) in
    lines-held session c.as_slice.result.now c.args.image.now (g.D.Disk.contents c.recover_turns.new.disk) _ (c.as_slice.ensures ∙ c.in-Ok.ensures.turns) is

-- ---- it is not

pub returns-in-Err-clause-bad_image : goal.returns-in-Err-clause-bad_image
returns-in-Err-clause-bad_image g c = λ place bad tells.
    c.in-Err.ensures.bad place (cc) (told-empty (g.D.Disk.contents c.args.disk.now) c.requires.empty tells)

pub returns-in-Err-clause-illegal : goal.returns-in-Err-clause-illegal
returns-in-Err-clause-illegal g c = λ entry wrong tells.
    c.in-Err.ensures.illegal c.args.session entry
    (desk-plays c.args.session c.requires.session c.requires.joined c.requires.sound c.in-Ok.player.market c.in-Ok.player.waiting c.in-Ok.ensures.market c.in-Ok.ensures.waiting)
    (cc) (told-empty (g.D.Disk.contents c.args.disk.now) c.requires.empty tells)

pub returns-in-Err-clause-too_long : goal.returns-in-Err-clause-too_long
returns-in-Err-clause-too_long g c = λ long tells.
    subst (λ turns. IsTooLargeBehind c.args.session turns c.args.image.now) (c.as_slice.ensures ∙ c.in-Ok.ensures.turns)
    (c.in-Err.ensures.too_long c.args.session
    (desk-plays c.args.session c.requires.session c.requires.joined c.requires.sound c.in-Ok.player.market c.in-Ok.player.waiting c.in-Ok.ensures.market c.in-Ok.ensures.waiting)
    (cc) (told-empty (g.D.Disk.contents c.args.disk.now) c.requires.empty tells))

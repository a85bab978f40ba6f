-- A stored line is compared with that of the next command of the caller that it names.
use Rattle.std.proofs.Common.{◌≡◌, ◌∙◌, ◌<◌, true, false, None, Some, length, arith, ap, sym}
use Rattle.std.specs.Str.{bytes_eq}
use Rattle.std.proofs.lemmas.Bool.{ltb-true}
use Rattle.market_model.specs.declared.setup.Setup.{Setup}
use Rattle.market_text.specs.Commands.{commands_of}
use Rattle.trade_journal.specs.Journals.{made_by, room_of_caller}
use Rattle.journal_audit.specs.Lines.{caller_named}
use Rattle.stored_journal.specs.Lines.{stored_line}
use Rattle.session_storing.proofs.Appends.{last-within}
use Rattle.session_storing.proofs.Plays.{room-is, waiting-count}
use Rattle.session_storing.proofs.Recovers.{differs-wrong, nobody-named, nothing-left, same-right}
use Rattle.session_storing.proofs.recovering.play_line.Goals as goal

pub returns-in_default-clause-wrong : goal.returns-in_default-clause-wrong
returns-in_default-clause-wrong g c = λ session entry is _ next.
    let old = g.P.Player.state c.args.player.now in
    let none : caller_named c.setup.result.now c.args.line.now ≡ None = cc (c.in_default.ensures.caller) in
    nobody-named session old is c.args.line.now (ap (λ (s : Setup). caller_named s c.args.line.now) (sym c.setup.ensures) ∙ none) entry next

pub returns-then-not-has_next-clause-wrong : goal.returns-then-not-has_next-clause-wrong
returns-then-not-has_next-clause-wrong g c = λ session entry is _ next.
    let old = g.P.Player.state c.args.player.now in
    let named : caller_named old.setup c.args.line.now ≡ Some c.in-Some.caller =
    ap (λ (s : Setup). caller_named s c.args.line.now) (sym c.setup.ensures) ∙ sym c.in-Some.ensures.caller in
    nothing-left session old is c.args.line.now c.in-Some.caller named (sym c.has_next.ensures ∙ c.if-not-has_next.true) entry next

pub play_next-requires-clause-some : goal.play_next-requires-clause-some
play_next-requires-clause-some g c =
    let old = g.P.Player.state c.args.player.now in
    let session = c.requires.plays.0 in
    let is = c.requires.plays.1 in
    let caller = c.in-Some.caller in
    let count = waiting-count session old is caller in
    let room : room_of_caller old.setup caller ≡ length (commands_of session.commands caller) =
    ap (λ (s : Setup). room_of_caller s caller) is.setup ∙ room-is session is.is_session caller in
    let less : made_by old.entries caller < room_of_caller old.setup caller =
    ltb-true (made_by old.entries caller) (room_of_caller old.setup caller) (sym c.has_next.ensures ∙ c.if-not-has_next.false) in
    omega (arith, count, room, less)

-- the last entry names what the setup has
pub is_line_of-requires-clause-within : goal.is_line_of-requires-clause-within
is_line_of-requires-clause-within g c =
    let on = c.in_ok-play_next.ensures.played c.requires.plays.0 c.requires.plays.1 in
    last-within (g.P.Player.state c.args.player.now) (g.P.Player.state c.play_next.new.player) c.setup-2.result.now c.entries-entries.result.now c.last_of.result.now
    c.setup-2.ensures c.entries-entries.ensures c.last_of.ensures c.requires.plays.0 on.playing on.entry on.grew

pub returns-in-Ok-clause-right : goal.returns-in-Ok-clause-right
returns-in-Ok-clause-right g c = λ session is same.
    let old = g.P.Player.state c.args.player.now in
    let new = g.P.Player.state c.play_next.new.player in
    let line = c.args.line.now in
    let named : caller_named old.setup line ≡ Some c.in-Some.caller = ap (λ (s : Setup). caller_named s line) (sym c.setup.ensures) ∙ sym c.in-Some.ensures.caller in
    let on = c.in_ok-play_next.ensures.played session is in
    let last : c.last_of.result.now ≡ on.entry = c.last_of.ensures old.entries on.entry (c.entries-entries.ensures ∙ on.grew) in
    let holds : c.in-Ok.same ≡ true = cc in
    let test : bytes_eq (stored_line new.setup (length new.entries) c.last_of.result.now) line ≡ true =
    sym (λ i. bytes_eq (stored_line (c.setup-2.ensures i) (length (c.entries-entries.ensures i)) c.last_of.result.now) line) ∙ sym c.in-Ok.ensures ∙ holds in
    same-right session old is line c.in-Some.caller named new on c.last_of.result.now last test

pub returns-in-Ok-clause-wrong : goal.returns-in-Ok-clause-wrong
returns-in-Ok-clause-wrong g c = λ session entry is same next.
    let old = g.P.Player.state c.args.player.now in
    let new = g.P.Player.state c.play_next.new.player in
    let line = c.args.line.now in
    let named : caller_named old.setup line ≡ Some c.in-Some.caller = ap (λ (s : Setup). caller_named s line) (sym c.setup.ensures) ∙ sym c.in-Some.ensures.caller in
    let on = c.in_ok-play_next.ensures.played session is in
    let last : c.last_of.result.now ≡ on.entry = c.last_of.ensures old.entries on.entry (c.entries-entries.ensures ∙ on.grew) in
    let fails : c.in-Ok.same ≡ false = cc in
    let test : bytes_eq (stored_line new.setup (length new.entries) c.last_of.result.now) line ≡ false =
    sym (λ i. bytes_eq (stored_line (c.setup-2.ensures i) (length (c.entries-entries.ensures i)) c.last_of.result.now) line) ∙ sym c.in-Ok.ensures ∙ fails in
    differs-wrong session old is line c.in-Some.caller named new on c.last_of.result.now last test entry next

use Rattle.std.proofs.Common.{◌∙◌, ap, arith, length, refl, sym}
use Rattle.market_model.specs.declared.setup.Setup.{Setup}
use Rattle.trade_journal.specs.Journals.{all_rooms}
use Rattle.venue_core.proofs.Commits.{follows, held-after, planned-hours, planned-seats, seat-of, shared-after, submitted}
use Rattle.venue_core.proofs.shared.SharedJournal.commit.Goals as goal

pub commit-requires-clause-pass : goal.commit-requires-clause-pass
commit-requires-clause-pass c = seat-of c.args.front.now c.args.pass.now c.seat_mut.result.now c.seat_mut.ensures.value c.requires.pass

pub commit-requires-clause-caller : goal.commit-requires-clause-caller
commit-requires-clause-caller c = sym (c.requires.caller ∙ ap (λ pass. pass.caller) c.seat_mut.ensures.value)

pub commit-requires-clause-seats : goal.commit-requires-clause-seats
commit-requires-clause-seats c = planned-seats c.args.front.now c.args.entry c.args.held.now c.requires.planned

pub commit-requires-clause-hours : goal.commit-requires-clause-hours
commit-requires-clause-hours c = planned-hours c.args.front.now c.args.entry c.args.held.now c.requires.planned

pub commit-requires-clause-room : goal.commit-requires-clause-room
commit-requires-clause-room c =
    let long = ap length (c.requires.shared.same_entries ∙ sym c.entries.ensures.entries) in
    let most = c.entries.ensures.most in
    let rooms = ap (λ (setup : Setup). all_rooms setup) c.requires.shared.same_setup in
    let few = c.requires.setup.asked.few_entries in
    omega (arith, long, most, rooms, few)

pub push-requires : goal.push-requires
push-requires c =
    follows c.args.front.now c.requires.setup c.args.self.now.seat c.args.self.now.journal c.requires.shared c.entries.ensures.journal c.args.pass.now c.seat_mut.result.now
    c.seat_mut.ensures.value c.requires.pass c.args.entry c.requires.caller c.requires.next c.requires.room c.args.held.now c.requires.planned
    c.commit.ensures.pass_was_current c.commit.ensures.desks_were_current

pub returns-clause-shared : goal.returns-clause-shared
returns-clause-shared c =
    shared-after c.args.front.now c.requires.setup c.args.self.now.seat c.args.self.now.journal c.requires.shared c.entries.ensures.journal c.args.pass.now c.seat_mut.result.now
    c.seat_mut.ensures.value c.requires.pass c.args.entry c.requires.caller c.requires.next c.requires.room c.args.held.now c.requires.planned
    c.commit.ensures.pass_was_current c.commit.ensures.desks_were_current
    c.push.new.self c.push.ensures c.entries-2.ensures.journal c.commit.new.journal c.commit.ensures.journal

pub returns-clause-held : goal.returns-clause-held
returns-clause-held c =
    held-after c.args.front.now c.requires.setup c.args.self.now.seat c.args.self.now.journal c.requires.shared c.entries.ensures.journal c.args.pass.now c.seat_mut.result.now
    c.seat_mut.ensures.value c.requires.pass c.args.entry c.requires.caller c.requires.next c.requires.room c.args.held.now c.requires.planned
    c.commit.ensures.pass_was_current c.commit.ensures.desks_were_current
    c.push.new.self c.push.ensures c.entries-2.ensures.journal c.commit.new.hours c.carry_all.new.row c.commit.ensures.desks c.commit.ensures.rest
    c.carry_all.ensures.desks c.carry_all.ensures.rest

pub returns-clause-submitted : goal.returns-clause-submitted
returns-clause-submitted c =
    submitted c.args.front.now c.requires.setup c.args.self.now.seat c.args.self.now.journal c.requires.shared c.entries.ensures.journal c.args.pass.now c.seat_mut.result.now
    c.seat_mut.ensures.value c.requires.pass c.args.entry c.requires.caller c.requires.next c.requires.room c.args.held.now c.requires.planned
    c.commit.ensures.pass_was_current c.commit.ensures.desks_were_current
    c.push.new.self c.push.ensures c.entries-2.ensures.journal _ c.commit.new.pass _ refl c.commit.ensures.pass
    (ap length c.entries-2.ensures.entries)

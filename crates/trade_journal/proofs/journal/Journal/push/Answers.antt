use Rattle.std.proofs.Common.{◌≡◌, ◌<◌, ◌≤◌, length, sym, subst, arith}
use Rattle.std.specs.Vec.{vec_capacity}
use Rattle.trade_journal.specs.Inside.{IsInside}
use Rattle.trade_journal.specs.Journals.{IsJournal, JournalState, MayFollow, all_rooms}
use Rattle.trade_journal.proofs.Pushed.{has_place, pushed}
use Rattle.trade_journal.proofs.journal.Journal.push.Goals as goal

pub push_reserved-requires : goal.push_reserved-requires
push_reserved-requires c =
    let inside : JournalState = record { setup = c.self.inside.setup; entries = c.self.inside.entries.items } in
    let may : MayFollow inside c.args.entry = subst (λ j. MayFollow j c.args.entry) (sym c.self.view_is) c.requires in
    let place = has_place inside c.self.invariant.journal c.args.entry may in
    let room = c.self.invariant.room in
    omega (arith, place, room)

pub invariant_of-self : goal.invariant_of-self
invariant_of-self c =
    let inside : JournalState = record { setup = c.self.inside.setup; entries = c.self.inside.entries.items } in
    let may : MayFollow inside c.args.entry = subst (λ j. MayFollow j c.args.entry) (sym c.self.view_is) c.requires in
    let next = pushed inside c.self.invariant.journal c.args.entry may in
    let room = c.self.invariant.room in
    record {
      journal = subst (λ items. IsJournal (record { setup = c.self.inside.setup; entries = items })) (sym c.push_reserved.ensures.items) next;
      room = subst (λ n. all_rooms c.self.inside.setup ≤ n) (sym c.push_reserved.ensures.capacity) room;
    }

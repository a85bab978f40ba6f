use Rattle.std.proofs.Common.{◌+◌, ◌-◌, ◌<◌, ◌≤◌, ◌^◌, List, length, slice_index, sym, arith, subst}
use Rattle.market_model.specs.declared.entry.Entry.{Entry}
use Rattle.trade_journal.specs.Journals.{JournalState, all_rooms}
use Rattle.desk_market.specs.Standing.{IsMarket}
use Rattle.desk_market.proofs.Counted.{count-few}
use Rattle.desk_market.proofs.Grown.{grown}
use Rattle.desk_market.proofs.market.DeskMarket.give.Goals as goal

pub count-before-requires-clause-few : goal.count-before-requires-clause-few
count-before-requires-clause-few c =
    let inside = c.self.inside in
    count-few inside.given inside.journal.entries (all_rooms inside.journal.setup) c.args.caller c.self.invariant.counted
    (subst (λ (es : List Entry). length es ≤ all_rooms inside.journal.setup) c.entries.ensures.entries c.entries.ensures.most) c.self.invariant.of_day.few

pub overflow_add-before : goal.overflow_add-before
overflow_add-before c =
    let inside = c.self.inside in
    let few : slice_index inside.given c.args.caller < 2 ^ 32 - 1 =
    count-few inside.given inside.journal.entries (all_rooms inside.journal.setup) c.args.caller c.self.invariant.counted
    (subst (λ (es : List Entry). length es ≤ all_rooms inside.journal.setup) c.entries.ensures.entries c.entries.ensures.most) c.self.invariant.of_day.few in
    let before = c.count-before.ensures.before in
    omega (arith, few, before)

-- what is planned is settled, with the entry behind the others
pub invariant_of-self-2 : goal.invariant_of-self-2
invariant_of-self-2 c =
    let inside = c.self.inside in
    let entry : Entry = record { caller = c.args.caller; nth = c.count-before.result + 1; command = c.args.command; reply = c.in_ok-reply.reply } in
    subst (λ (j : JournalState). IsMarket inside.grid j.setup j.entries c.carry_all.new.row.desks c.count-before.new.self) (sym c.push.ensures)
    (grown inside.grid inside.journal.setup inside.journal.entries inside.desks.desks inside.given c.self.invariant entry c.entries.ensures.journal.legal
    (subst (λ (j : JournalState). c.args.caller < length j.setup.callers) (sym c.self.view_is) c.requires.known) c.in_ok-reply.ensures.reply
    c.plan.new.day c.carry_all.new.row c.in_ok-reply.ensures.chosen c.in_ok-reply.ensures.planned c.carry_all.ensures.desks c.carry_all.ensures.rest
    c.count-before.new.self c.count-before.ensures.after)

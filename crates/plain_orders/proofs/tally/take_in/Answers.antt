use Rattle.std.proofs.Common.{◌∙◌, ◌≡◌, ℕ, ◌<◌, get_or, length, subst, sym, if◌then◌else◌}
use Rattle.std.proofs.lemmas.List.{with_items_is}
use Rattle.market_model.specs.Orders.{names}
use Rattle.plain_orders.specs.declared.tally.Change.TheVariants as change
use Rattle.plain_orders.specs.declared.tally.Tally.{Tally}
use Rattle.plain_orders.specs.Tallies.{CanTakeIn, after_event, changed, name_in, traded, with_place}
use Rattle.plain_orders.proofs.tally.take_in.Goals as goal

pub take_leg-requires-clause-taker : goal.take_leg-requires-clause-taker
take_leg-requires-clause-taker c =
    let can = subst (λ e. CanTakeIn c.args.hour e (with_place c.args.hour e c.args.tallies.now.items)) c.in-Leg.is c.requires.can in
    rw c.as_mut_slice.ensures.value (can.1 c.args.moment)

pub take_leg-requires-clause-maker : goal.take_leg-requires-clause-maker
take_leg-requires-clause-maker c =
    let can = subst (λ e. CanTakeIn c.args.hour e (with_place c.args.hour e c.args.tallies.now.items)) c.in-Leg.is c.requires.can in
    rw c.as_mut_slice.ensures.value (can.2 c.args.moment)

pub returns-in-Leg-clause-tallies : goal.returns-in-Leg-clause-tallies
returns-in-Leg-clause-tallies c =
    let items = with_items_is c.args.tallies.now c.take_leg.new.tallies (c.take_leg.auto.tallies ∙ c.as_mut_slice.ensures.len) in
    let changes = subst (λ old. (number : ℕ) (d : Tally) → number < length old → get_or c.take_leg.new.tallies number d
    ≡ (if names c.in-Leg.leg (name_in c.args.hour number) then traded c.in-Leg.leg.lots c.args.moment (get_or old number d) else get_or old number d))
    c.as_mut_slice.ensures.value c.take_leg.ensures in
    subst (λ new. (number : ℕ) (d : Tally) → number < length (with_place c.args.hour c.args.event.now c.args.tallies.now.items) → get_or new number d
    ≡ after_event (name_in c.args.hour number) c.args.moment c.args.place c.args.event.now (get_or (with_place c.args.hour c.args.event.now c.args.tallies.now.items) number d)) (sym items)
    (subst (λ e. (number : ℕ) (d : Tally) → number < length (with_place c.args.hour e c.args.tallies.now.items) → get_or c.take_leg.new.tallies number d
    ≡ after_event (name_in c.args.hour number) c.args.moment c.args.place e (get_or (with_place c.args.hour e c.args.tallies.now.items) number d)) (sym c.in-Leg.is) changes)

pub returns-in-BlockLeg-clause-tallies : goal.returns-in-BlockLeg-clause-tallies
returns-in-BlockLeg-clause-tallies c =
    let items = with_items_is c.args.tallies.now c.take_block_leg.new.tallies (c.take_block_leg.auto.tallies ∙ c.as_mut_slice-in-BlockLeg.ensures.len) in
    let changes = subst (λ old. (number : ℕ) (d : Tally) → number < length old → get_or c.take_block_leg.new.tallies number d
    ≡ (if names c.in-BlockLeg.leg (name_in c.args.hour number) then changed (change.Deals c.in-BlockLeg.leg.lots) (get_or old number d) else get_or old number d))
    c.as_mut_slice-in-BlockLeg.ensures.value c.take_block_leg.ensures in
    subst (λ new. (number : ℕ) (d : Tally) → number < length (with_place c.args.hour c.args.event.now c.args.tallies.now.items) → get_or new number d
    ≡ after_event (name_in c.args.hour number) c.args.moment c.args.place c.args.event.now (get_or (with_place c.args.hour c.args.event.now c.args.tallies.now.items) number d)) (sym items)
    (subst (λ e. (number : ℕ) (d : Tally) → number < length (with_place c.args.hour e c.args.tallies.now.items) → get_or c.take_block_leg.new.tallies number d
    ≡ after_event (name_in c.args.hour number) c.args.moment c.args.place e (get_or (with_place c.args.hour e c.args.tallies.now.items) number d)) (sym c.in-BlockLeg.is) changes)

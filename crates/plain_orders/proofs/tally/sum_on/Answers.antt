use Rattle.std.proofs.Common.{◌∙◌, ◌≡◌, arith, length, subst, sym, take, true, false}
use Rattle.std.proofs.lemmas.List.{take_all}
use Rattle.market_model.specs.History.{touches}
use Rattle.event_history.proofs.ByHour.{listed_near}
use Rattle.plain_orders.specs.Tallies.{AreSumsOf}
use Rattle.plain_orders.proofs.Taken.{hour-few}
use Rattle.plain_orders.proofs.Near.{near-at}
use Rattle.plain_orders.proofs.Placing.{SumsSoFar, listed-touches, sums-begun, sums-can, sums-of, sums-passed, sums-taken}
use Rattle.plain_orders.proofs.tally.sum_on.Goals as goal
use Rattle.plain_orders.proofs.tally.sum_on.Goals.{then-is_of_hour+in_ok-take_in, else-is_of_hour}

pub loop-place-init : goal.loop-place-init
loop-place-init c =
    subst (λ list. SumsSoFar (take c.args.before.place list) c.args.hour c.args.before.tallies.items c.args.before.moment) (sym c.listed-list.ensures)
    (sums-begun c.args.events.now c.args.hour c.args.before c.requires.history c.requires.before)

pub is_of_hour-requires : goal.is_of_hour-requires
is_of_hour-requires c = λ own.
    listed-touches c.args.hour c.loop-place.place c.args.events.now c.listed-list.result.now c.index-list-place.result (sym c.has_list-own.ensures ∙ own) c.listed-list.ensures
    c.loop-place-test.true c.index-list-place.is

pub overflow_add-moment : goal.overflow_add-moment
overflow_add-moment c =
    let few = hour-few c.args.hour c.listed-list.result.now c.loop-place.place in
    let is = c.loop-place.invariant.moment_is in
    omega (arith, few, is)

pub take_in-requires-clause-can : goal.take_in-requires-clause-can
take_in-requires-clause-can c =
    let here = near-at c.args.hour c.args.events.now c.listed-list.result.now c.requires.history
    (listed_near c.args.hour c.args.events.now c.listed-list.result.now c.listed-list.ensures) c.loop-place.place c.index-list-place.result
    c.loop-place-test.true c.index-list-place.is in
    sums-can c.args.hour c.args.events.now c.listed-list.result.now c.loop-place.place c.index-list-place.result here c.loop-place-test.true c.loop-place.tallies.items
    c.loop-place.moment c.loop-place.invariant

pub loop-place-preserved : goal.loop-place-preserved
loop-place-preserved c =
    let here = near-at c.args.hour c.args.events.now c.listed-list.result.now c.requires.history
    (listed_near c.args.hour c.args.events.now c.listed-list.result.now c.listed-list.ensures) c.loop-place.place c.index-list-place.result
    c.loop-place-test.true c.index-list-place.is in
    elim c.if-is_of_hour.branch [
      | then-is_of_hour+in_ok-take_in w ↦
          let touch : touches c.args.hour c.index-list-place.result ≡ true = sym c.is_of_hour.ensures ∙ w.if-is_of_hour.true in
          rw (w.tallies-is, w.moment-is)
          (sums-taken c.args.hour c.args.events.now c.listed-list.result.now c.loop-place.place c.index-list-place.result here c.loop-place-test.true
          c.loop-place.tallies.items c.loop-place.moment c.loop-place.invariant w.take_in.new.tallies.items touch w.in_ok-take_in.ensures.size w.in_ok-take_in.ensures.tallies)
      | else-is_of_hour w ↦
          let touch : touches c.args.hour c.index-list-place.result ≡ false = sym c.is_of_hour.ensures ∙ w.if-is_of_hour.false in
          rw (w.tallies-is, w.moment-is)
          (sums-passed c.args.hour c.args.events.now c.listed-list.result.now c.loop-place.place c.index-list-place.result here c.loop-place-test.true
          c.loop-place.tallies.items c.loop-place.moment c.loop-place.invariant touch)
    ]

pub returns-clause-sums : goal.returns-clause-sums
returns-clause-sums c =
    let whole = take_all c.loop-place.place c.listed-list.result.now c.loop-place-test.false ∙ c.listed-list.ensures in
    subst (λ list. AreSumsOf c.args.events.now c.args.hour c.loop-place.tallies.items c.loop-place.moment (length list)) (sym c.listed-list.ensures)
    (sums-of c.args.events.now c.args.hour c.loop-place.tallies.items c.loop-place.moment c.requires.history
    (subst (λ list. SumsSoFar list c.args.hour c.loop-place.tallies.items c.loop-place.moment) whole c.loop-place.invariant))

use Rattle.std.proofs.Common.{◌∙◌, arith, sym}
use Rattle.plain_orders.specs.Tallies.{nothing}
use Rattle.plain_orders.proofs.Placing.{all-entries, closed-next, entry-at, none-next, open-all, open-next}
use Rattle.plain_orders.proofs.hour.list_open.Goals as goal
use Rattle.plain_orders.proofs.hour.list_open.Goals.{then-tally-gt0+in-Some+in_ok-push-in-Some, then-tally-gt0+in-None, else-tally-gt0}

pub bounds-list-tally : goal.bounds-list-tally
bounds-list-tally c =
    (entry-at c.args.events.now c.listed-list.result.now c.args.hour c.args.sums.now.tallies.items c.as_slice.result.now c.args.sums.now.moment c.args.sums.now.place
    c.loop-tally.tally-index nothing c.listed-list.ensures c.as_slice.ensures.value c.requires.sums c.loop-tally-test.true).within

pub offset_bounds-list-tally : goal.offset_bounds-list-tally
offset_bounds-list-tally c =
    let low = (entry-at c.args.events.now c.listed-list.result.now c.args.hour c.args.sums.now.tallies.items c.as_slice.result.now c.args.sums.now.moment c.args.sums.now.place
    c.loop-tally.tally-index nothing c.listed-list.ensures c.as_slice.ensures.value c.requires.sums c.loop-tally-test.true).within in
    omega (arith, low, c.listed-list.type_inv)

pub new-requires-clause-sound : goal.new-requires-clause-sound
new-requires-clause-sound c =
    let at = entry-at c.args.events.now c.listed-list.result.now c.args.hour c.args.sums.now.tallies.items c.as_slice.result.now c.args.sums.now.moment c.args.sums.now.place
    c.loop-tally.tally-index nothing c.listed-list.ensures c.as_slice.ensures.value c.requires.sums c.loop-tally-test.true in
    (open-next c.args.events.now c.args.hour c.loop-tally.tally-index c.index-list-tally.result _ c.requires.history at.low (c.index-list-tally.is ∙ at.is c.index-list-tally.result) at.tells
    c.in-Some.placed (sym c.order_given.ensures ∙ c.in-Some.is) c.if-tally-gt0.true).0

pub new-requires-clause-most : goal.new-requires-clause-most
new-requires-clause-most c =
    let at = entry-at c.args.events.now c.listed-list.result.now c.args.hour c.args.sums.now.tallies.items c.as_slice.result.now c.args.sums.now.moment c.args.sums.now.place
    c.loop-tally.tally-index nothing c.listed-list.ensures c.as_slice.ensures.value c.requires.sums c.loop-tally-test.true in
    (open-next c.args.events.now c.args.hour c.loop-tally.tally-index c.index-list-tally.result _ c.requires.history at.low (c.index-list-tally.is ∙ at.is c.index-list-tally.result) at.tells
    c.in-Some.placed (sym c.order_given.ensures ∙ c.in-Some.is) c.if-tally-gt0.true).1

pub loop-tally-preserved : goal.loop-tally-preserved
loop-tally-preserved c =
    let at = entry-at c.args.events.now c.listed-list.result.now c.args.hour c.args.sums.now.tallies.items c.as_slice.result.now c.args.sums.now.moment c.args.sums.now.place
    c.loop-tally.tally-index nothing c.listed-list.ensures c.as_slice.ensures.value c.requires.sums c.loop-tally-test.true in
    let was = c.loop-tally.invariant in
    elim c.if-tally-gt0.branch [
      | then-tally-gt0+in-Some+in_ok-push-in-Some w ↦
          let more = (open-next c.args.events.now c.args.hour c.loop-tally.tally-index w.index-list-tally.result _ c.requires.history at.low
          (w.index-list-tally.is ∙ at.is w.index-list-tally.result) at.tells w.in-Some.placed (sym w.order_given.ensures ∙ w.in-Some.is) w.if-tally-gt0.true).2 in
          let pushed = w.in_ok-push-in-Some.ensures.items in
          let value = w.new.ensures in
          rw w.standing-is (cc (more, pushed, was, value))
      | then-tally-gt0+in-None w ↦
          let same = none-next c.args.events.now c.args.hour c.loop-tally.tally-index w.index-list-tally.result _ c.requires.history at.low
          (w.index-list-tally.is ∙ at.is w.index-list-tally.result) at.tells (sym w.order_given.ensures ∙ w.in-None.is) in
          rw w.standing-is (was ∙ sym same)
      | else-tally-gt0 w ↦
          let same = closed-next c.args.events.now c.args.hour c.loop-tally.tally-index (at.entry) _ c.requires.history at.low at.entry_is at.tells w.if-tally-gt0.false in
          rw w.standing-is (was ∙ sym same)
    ]

pub returns : goal.returns
returns c =
    c.loop-tally.invariant
    ∙ all-entries c.args.events.now c.listed-list.result.now c.args.hour c.args.sums.now.tallies.items c.as_slice.result.now c.args.sums.now.moment c.args.sums.now.place c.loop-tally.tally-index
    c.as_slice.ensures.value c.requires.sums c.loop-tally-test.false
    ∙ open-all c.args.events.now c.args.hour

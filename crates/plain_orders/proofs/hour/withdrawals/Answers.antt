use Rattle.std.proofs.Common.{◌∙◌, ◌≡◌, ◌+◌, ap, arith, filter, length, map, refl, sym, take, Some, None}
use Rattle.std.proofs.lemmas.List.{take_all}
use Rattle.std.specs.List.{filter_map}
use Rattle.std.specs.Vec.{vec_len}
use Rattle.market_model.specs.Orders.{is_open, name_given}
use Rattle.laws_of_market.proofs.Changes.{withdrawn}
use Rattle.plain_orders.proofs.Listing.{filtered-listed-more, filtered-same, listed-same, name-at, told-at}
use Rattle.plain_orders.proofs.Near.{near-at, near-names}
use Rattle.plain_orders.proofs.hour.withdrawals.Goals as goal
use Rattle.plain_orders.proofs.hour.withdrawals.Goals.{in-Some+then-lots-gt0+in_ok-push-in-Some, in-Some+else-lots-gt0, in-None}

pub index-requires : goal.index-requires
index-requires c =
    let here = near-at c.args.hour c.args.events.now c.near-event-items.result.now c.requires.history c.near-event-items.ensures c.loop-event.event-index c.event-item.result c.loop-event-test.true c.event-item.is in
    let at = name-at c.args.events.now here.there c.event-item.result c.args.hour c.in-Some.name c.requires.history here.within here.is
    (sym c.name_given.ensures ∙ c.in-Some.is) in
    let size = c.in_ok-tallies.ensures.size in
    let long = c.in_ok-tallies.tallies.ok.0 in
    at.has_place (vec_len c.in_ok-tallies.tallies) (omega (arith, size, long))

pub loop-event-preserved : goal.loop-event-preserved
loop-event-preserved c =
    let here = near-at c.args.hour c.args.events.now c.near-event-items.result.now c.requires.history c.near-event-items.ensures c.loop-event.event-index c.event-item.result c.loop-event-test.true c.event-item.is in
    let size = c.in_ok-tallies.ensures.size in
    let was = c.loop-event.invariant in
    elim c.match-name_given.branch [
      | in-Some+then-lots-gt0+in_ok-push-in-Some w ↦
          let given : name_given c.args.hour c.event-item.result ≡ Some w.in-Some.name = sym c.name_given.ensures ∙ w.in-Some.is in
          let at = name-at c.args.events.now here.there c.event-item.result c.args.hour w.in-Some.name c.requires.history here.within here.is given in
          let within = at.has_place (length c.in_ok-tallies.tallies.items) (omega (arith, size)) in
          let tells = told-at c.args.events.now c.args.hour w.in-Some.name w.in-Some.name c.in_ok-tallies.tallies.items
          w.index.result.now refl c.in_ok-tallies.ensures.tallies within w.index.ensures in
          let opened = at.opens w.index.result.now tells w.if-lots-gt0.true in
          let lots = at.left_is w.index.result.now tells in
          let more = filtered-listed-more (name_given c.args.hour) (is_open c.args.events.now) (withdrawn c.args.events.now)
          (take (c.loop-event.event-index + 1) c.near-event-items.result.now) (take c.loop-event.event-index c.near-event-items.result.now) c.event-item.result w.in-Some.name here.more given opened in
          let pushed = w.in_ok-push-in-Some.ensures.ok in
          rw w.made-is (cc (more, pushed, was, lots))
      | in-Some+else-lots-gt0 w ↦
          let given : name_given c.args.hour c.event-item.result ≡ Some w.in-Some.name = sym c.name_given.ensures ∙ w.in-Some.is in
          let at = name-at c.args.events.now here.there c.event-item.result c.args.hour w.in-Some.name c.requires.history here.within here.is given in
          let within = at.has_place (length c.in_ok-tallies.tallies.items) (omega (arith, size)) in
          let closed = at.closes w.index.result.now (told-at c.args.events.now c.args.hour w.in-Some.name w.in-Some.name c.in_ok-tallies.tallies.items
          w.index.result.now refl c.in_ok-tallies.ensures.tallies within w.index.ensures) w.if-lots-gt0.false in
          let same = filtered-same (name_given c.args.hour) (is_open c.args.events.now) (take (c.loop-event.event-index + 1) c.near-event-items.result.now)
          (take c.loop-event.event-index c.near-event-items.result.now) c.event-item.result w.in-Some.name here.more given closed in
          rw w.made-is (was ∙ ap (map (withdrawn c.args.events.now)) (sym same))
      | in-None w ↦
          let given : name_given c.args.hour c.event-item.result ≡ None = sym c.name_given.ensures ∙ w.in-None.is in
          let same = listed-same (name_given c.args.hour) (take (c.loop-event.event-index + 1) c.near-event-items.result.now)
          (take c.loop-event.event-index c.near-event-items.result.now) c.event-item.result here.more given in
          rw w.made-is (was ∙ ap (λ names. map (withdrawn c.args.events.now) (filter (is_open c.args.events.now) names)) (sym same))
    ]

pub returns : goal.returns
returns c =
    c.loop-event.invariant
    ∙ ap (λ es. map (withdrawn c.args.events.now) (filter (is_open c.args.events.now) (filter_map (name_given c.args.hour) es))) (take_all c.loop-event.event-index c.near-event-items.result.now c.loop-event-test.false)
    ∙ ap (λ names. map (withdrawn c.args.events.now) (filter (is_open c.args.events.now) names)) (near-names c.args.hour c.args.events.now c.near-event-items.result.now c.near-event-items.ensures)

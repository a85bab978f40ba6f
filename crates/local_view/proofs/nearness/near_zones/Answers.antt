use Rattle.std.proofs.Common.{◌∙◌, ◌-◌, ◌*◌, ◌%◌, ◌^◌, ap, subst, sym, arith}
use Rattle.std.specs.Int.RustNames.{bit_and, bit_or}
use Rattle.std.specs.Int.{trailing_zeros, w64}
use Rattle.zone_graph.specs.Rooms.{room_of}
use Rattle.local_view.proofs.Bits.{more_set, next_bit, none_left, smaller}
use Rattle.local_view.proofs.Nearing.{IsFound, IsSearch, all_asked, all_zones, asked_more, begun, found_are, found_count}
use Rattle.local_view.proofs.nearness.near_zones.Goals as goal

pub loop-near-init : goal.loop-near-init
loop-near-init c =
    subst (λ all. IsSearch c.args.grid.now (room_of c.args.rooms.now) c.args.side c.args.touched (bit_and c.args.touched all) 0)
    (sym (c.first_zones-all.ensures ∙ ap (λ n. 2 ^ n - 1) c.zones.ensures.count))
    (begun c.args.grid.now c.zones.ensures.grid.is_graph (room_of c.args.rooms.now) c.args.side c.args.touched)

pub joined_with-near-requires-clause-zone : goal.joined_with-near-requires-clause-zone
joined_with-near-requires-clause-zone c =
    let zone = trailing_zeros w64 (bit_and c.loop-near.near (18446744073709551615 - c.loop-near.asked)) in
    (c.loop-near.invariant.sound zone (next_bit c.loop-near.near c.loop-near.asked c.loop-near.auto.near-fits.fits c.loop-near.auto.asked-fits.fits c.loop-near-test.true).1).there

pub loop-near-smaller : goal.loop-near-smaller
loop-near-smaller c =
    let zone = trailing_zeros w64 (bit_and c.loop-near.near (18446744073709551615 - c.loop-near.asked)) in
    let next = next_bit c.loop-near.near c.loop-near.asked c.loop-near.auto.near-fits.fits c.loop-near.auto.asked-fits.fits c.loop-near-test.true in
    smaller c.loop-near.asked (bit_or c.loop-near.asked (1 * 2 ^ zone % 2 ^ 64)) (more_set c.loop-near.asked zone next.0 next.2) c.loop-near.auto.asked-fits.fits

pub loop-near-preserved : goal.loop-near-preserved
loop-near-preserved c =
    let zone = trailing_zeros w64 (bit_and c.loop-near.near (18446744073709551615 - c.loop-near.asked)) in
    let next = next_bit c.loop-near.near c.loop-near.asked c.loop-near.auto.near-fits.fits c.loop-near.auto.asked-fits.fits c.loop-near-test.true in
    asked_more c.args.grid.now c.zones.ensures.grid.is_graph (room_of c.args.rooms.now) c.args.side c.args.touched c.loop-near.near c.loop-near.asked zone c.joined_with-near.result next.0 next.1
    c.joined_with-near.ensures c.loop-near.invariant

-- where all zones are found, and where all that are found were asked
every : (c : goal.Then-near-all) → IsFound c.args.grid.now (room_of c.args.rooms.now) c.args.side c.args.touched (bit_or c.loop-near.near c.joined_with-near.result)
every c =
    let zone = trailing_zeros w64 (bit_and c.loop-near.near (18446744073709551615 - c.loop-near.asked)) in
    let next = next_bit c.loop-near.near c.loop-near.asked c.loop-near.auto.near-fits.fits c.loop-near.auto.asked-fits.fits c.loop-near-test.true in
    all_zones c.args.grid.now c.zones.ensures.grid.is_graph (room_of c.args.rooms.now) c.args.side c.args.touched (bit_or c.loop-near.near c.joined_with-near.result) (bit_or c.loop-near.asked (1 * 2 ^ zone % 2 ^ 64))
    (c.if-near-all.true ∙ c.first_zones-all.ensures ∙ ap (λ n. 2 ^ n - 1) c.zones.ensures.count)
    (asked_more c.args.grid.now c.zones.ensures.grid.is_graph (room_of c.args.rooms.now) c.args.side c.args.touched c.loop-near.near c.loop-near.asked zone c.joined_with-near.result next.0 next.1
    c.joined_with-near.ensures c.loop-near.invariant)

reached : (c : goal.After-loop-near) → IsFound c.args.grid.now (room_of c.args.rooms.now) c.args.side c.args.touched c.loop-near.near
reached c =
    all_asked c.args.grid.now c.zones.ensures.grid.is_graph (room_of c.args.rooms.now) c.args.side c.args.touched c.loop-near.near c.loop-near.asked
    (λ zone found. none_left c.loop-near.near c.loop-near.asked zone c.loop-near.auto.asked-fits.fits
    (let there = (c.loop-near.invariant.sound zone found).there in let few = c.zones.ensures.grid.few_zones in omega (arith, there, few)) c.loop-near-test.false found) c.loop-near.invariant

pub returns-then-near-all-clause-near : goal.returns-then-near-all-clause-near
returns-then-near-all-clause-near c =
    found_are c.args.grid.now c.zones.ensures.grid.is_graph (room_of c.args.rooms.now) c.args.side c.args.touched (bit_or c.loop-near.near c.joined_with-near.result) (every c)

pub returns-then-near-all-clause-count : goal.returns-then-near-all-clause-count
returns-then-near-all-clause-count c =
    found_count c.args.grid.now c.zones.ensures.grid.is_graph (room_of c.args.rooms.now) c.args.side c.args.touched (bit_or c.loop-near.near c.joined_with-near.result) (every c)

pub returns-clause-near : goal.returns-clause-near
returns-clause-near c = found_are c.args.grid.now c.zones.ensures.grid.is_graph (room_of c.args.rooms.now) c.args.side c.args.touched c.loop-near.near (reached c)

pub returns-clause-count : goal.returns-clause-count
returns-clause-count c = found_count c.args.grid.now c.zones.ensures.grid.is_graph (room_of c.args.rooms.now) c.args.side c.args.touched c.loop-near.near (reached c)

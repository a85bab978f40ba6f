use Rattle.std.proofs.Common.{◌≡◌, ◌∙◌, IfOk, map, sym, ap, subst}
use Rattle.market_model.specs.Lines.{line}
use Rattle.laws_of_rows.specs.Depth.{AreInZones, depth_of, maker_of}
use Rattle.laws_of_rows.specs.Filled.{AreRowsFilled, row_in}
use Rattle.plain_market.proofs.Made.{makers-made}
use Rattle.laws_of_rows.proofs.Views.{fit-together, makers-in_zones, view-is}
use Rattle.plain_market.proofs.local_view.view.Goals as goal

-- the makers are those of the line
made : (c : goal.After-as_mut_slice) → c.as_mut_slice.result.now ≡ map maker_of (line c.args.events.now c.args.contract c.args.side)
made c = makers-made c.args.grid.now c.args.events.now c.requires.legal c.args.contract c.args.side
    c.in_ok-orders.orders.items c.as_slice.result.now c.in_ok-line.line.items c.as_slice-2.result.now c.in_ok-makers.makers.items c.as_mut_slice.result.now
    c.in_ok-orders.ensures c.as_slice.ensures.value c.in_ok-line.ensures c.as_slice-2.ensures.value c.in_ok-makers.ensures c.as_mut_slice.ensures.value

pub rows_filled-requires-clause-fit : goal.rows_filled-requires-clause-fit
rows_filled-requires-clause-fit c =
    fit-together c.args.grid.now c.zones-zones.ensures.grid.is_graph c.args.events.now c.requires.legal c.args.contract c.args.side c.args.zone c.in_ok-rooms.rooms c.in_ok-rooms.ensures.rooms

pub rows_filled-requires-clause-makers : goal.rows_filled-requires-clause-makers
rows_filled-requires-clause-makers c =
    subst (AreInZones c.args.grid.now) (sym (made c))
    (makers-in_zones c.args.grid.now c.zones-zones.ensures.grid.is_graph c.args.events.now c.requires.legal c.args.contract c.args.side c.args.zone c.in_ok-rooms.rooms c.in_ok-rooms.ensures.rooms)

pub returns : goal.returns
returns c =
    let are = makers-made c.args.grid.now c.args.events.now c.requires.legal c.args.contract c.args.side
    c.in_ok-orders.orders.items c.as_slice.result.now c.in_ok-line.line.items c.as_slice-2.result.now c.in_ok-makers.makers.items c.as_mut_slice.result.now
    c.in_ok-orders.ensures c.as_slice.ensures.value c.in_ok-line.ensures c.as_slice-2.ensures.value c.in_ok-makers.ensures c.as_mut_slice.ensures.value in
    let filled = subst (λ makers. AreRowsFilled c.args.grid.now c.args.side c.args.zone (depth_of makers c.in_ok-rooms.rooms 4294967295) c.in_ok-rows.rows.items) are c.in_ok-rows.ensures in
    record {
      rows = subst (λ v. IfOk c.rows_of.result (λ rows. rows ≡ v))
          (ap (map row_in) c.as_slice-3.ensures.value
          ∙ view-is c.args.grid.now c.zones-zones.ensures.grid.is_graph c.args.events.now c.requires.legal c.args.contract c.args.side c.args.zone c.in_ok-rooms.rooms c.in_ok-rooms.ensures.rooms
          c.in_ok-rows.rows.items filled)
          c.rows_of.ensures;
    }

-- The makers that are made of the orders of an hour.
use Rattle.std.proofs.Common.{◌≡◌, ◌∙◌, List, map, ap}
use Rattle.order_kinds.specs.declared.contract.Contract.{Contract}
use Rattle.order_kinds.specs.declared.side.Side.{Side}
use Rattle.zone_graph.specs.Graph.{Graph}
use Rattle.market_model.specs.declared.event.Event.{Event}
use Rattle.market_model.specs.Lines.{line}
use Rattle.market_model.specs.Orders.{Standing}
use Rattle.market_model.specs.WellFormed.{IsLegalOver}
use Rattle.plain_orders.specs.Listed.{line_of, open_orders}
use Rattle.plain_orders.proofs.LineLaws.{line-of_orders}
use Rattle.laws_of_rows.specs.declared.trades.Maker.{Maker}
use Rattle.laws_of_rows.specs.Depth.{maker_of}

-- the makers that are made of the orders of an hour are those of the line
pub makers-made : (graph : Graph) (events : List Event) (legal : IsLegalOver graph events) (contract : Contract) (side : Side)
    (orders orders_seen made made_seen : List Standing) (makers makers_seen : List Maker) → orders ≡ open_orders events contract.hour → orders_seen ≡ orders
    → made ≡ line_of orders_seen contract side → made_seen ≡ made → makers ≡ map maker_of made_seen → makers_seen ≡ makers
    → makers_seen ≡ map maker_of (line events contract side)
makers-made graph events legal contract side orders orders_seen made made_seen makers makers_seen are seen line_is line_seen makers_are makers_are_seen =
    makers_are_seen ∙ makers_are
    ∙ ap (map maker_of) (line_seen ∙ line_is ∙ ap (λ os. line_of os contract side) (seen ∙ are)
    ∙ line-of_orders events contract side (record { setup = legal.setup; fit = legal.fit }))

-- The deals of the market: a block and its partner are two blocks of which the pour carries all.
use Rattle.std.proofs.Common.{◌≡◌, ◌∙◌, List, ◌++◌, Some, eq-eqb, refl, sym, ap, subst}
use Rattle.order_kinds.specs.declared.price.Lots.{Lots}
use Rattle.order_kinds.specs.Side.{opposite}
use Rattle.zone_graph.specs.Graph.{Graph}
use Rattle.market_model.specs.declared.event.Event.{Event}
use Rattle.market_model.specs.declared.setup.Setup.{Setup}
use Rattle.market_model.specs.Blocks.{StandingBlock, block_legs, block_partner, standing_block}
use Rattle.market_model.specs.Grid.{graph_of}
use Rattle.market_model.specs.Orders.{PlacedBlock, left}
use Rattle.market_model.specs.WellFormed.{IsHistory, IsOpenBlock}
use Rattle.laws_of_market.proofs.BlockDeals.{IsInBlockLine, block_partner-is}
use Rattle.laws_of_market.proofs.Legs.{opposite-opposite}
use Rattle.laws_of_market.proofs.Roles.{same_pour}
use Rattle.laws_of_books.specs.DealLaws.{IsDeal, PartnersMakeDeals}

module _ (setup : Setup) (events : List Event) (history : IsHistory setup events) (own : PlacedBlock) (found : StandingBlock)
    (own_open : IsOpenBlock events own own.name) (is : block_partner (graph_of setup) events (standing_block events own) ≡ Some found) where
  abbrev graph : Graph
  graph = graph_of setup

  in_line : IsInBlockLine events own.order.first own.order.last (opposite own.order.side) found
  in_line = (block_partner-is graph events (standing_block events own) found is).in_line

  abbrev partner : PlacedBlock
  partner = in_line.block

  partner_open : IsOpenBlock events partner partner.name
  partner_open = record { is_placed = in_line.is_open.is_placed; is_named = refl; is_left = in_line.is_open.is_left }

  quantity : partner.order.quantity ≡ own.order.quantity
  quantity =
      ap (λ (b : StandingBlock). b.order.quantity) (sym in_line.is) ∙ (block_partner-is graph events (standing_block events own) found is).one_quantity

  carried : left (events ++ block_legs graph (standing_block events own) (standing_block events partner) events) own.name ≡ 0
  carried =
      subst (λ b. left (events ++ block_legs graph (standing_block events own) b events) own.name ≡ 0) in_line.is
      (block_partner-is graph events (standing_block events own) found is).carried

  -- as much is left of the one as of the other
  lots : left events own.name ≡ left events partner.name
  lots =
      history.whole own own_open.is_placed own_open.is_left ∙ ap (λ (q : Lots). q.0) (sym quantity)
      ∙ sym (history.whole partner partner_open.is_placed partner_open.is_left)

  carried_too : left (events ++ block_legs graph (standing_block events partner) (standing_block events own) events) partner.name ≡ 0
  carried_too =
      sym (same_pour graph (standing_block events own) (standing_block events partner) in_line.of_first in_line.of_last in_line.on_side events lots)
      ∙ carried

  as_taker : IsDeal setup events own partner
  as_taker = record {
    taker_open = own_open;
    maker_open = partner_open;
    one_first = in_line.of_first;
    one_last = in_line.of_last;
    one_quantity = quantity;
    opposed = in_line.on_side;
    whole = eq-eqb (left (events ++ block_legs graph (standing_block events own) (standing_block events partner) events) own.name) 0 carried;
  }

  as_maker : IsDeal setup events partner own
  as_maker = record {
    taker_open = partner_open;
    maker_open = own_open;
    one_first = sym in_line.of_first;
    one_last = sym in_line.of_last;
    one_quantity = sym quantity;
    opposed = sym (ap opposite in_line.on_side ∙ opposite-opposite own.order.side);
    whole = eq-eqb (left (events ++ block_legs graph (standing_block events partner) (standing_block events own) events) partner.name) 0 carried_too;
  }

pub make_deals : PartnersMakeDeals
make_deals setup events own found is_setup history own_open is = (
  partner setup events history own found own_open is,
  (in_line setup events history own found own_open is).is,
  as_taker setup events history own found own_open is,
  as_maker setup events history own found own_open is,
)

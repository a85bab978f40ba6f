-- What is known of two blocks that meet.
use Rattle.std.proofs.Common.{◌≡◌, ◌∙◌, ℕ, ◌<◌, ◌≤◌, ◌+◌, ◌-◌, List, sym, ap, subst, nat_lt, nat_le, arith}
use Rattle.std.proofs.lemmas.Bool.{ltb-true, and_parts}
use Rattle.order_kinds.specs.declared.price.Lots.{Lots}
use Rattle.order_kinds.specs.Side.{opposite}
use Rattle.zone_graph.specs.Graph.{Graph, HasZone}
use Rattle.market_model.specs.declared.event.Event.{Event}
use Rattle.market_model.specs.Blocks.{StandingBlock, standing_block}
use Rattle.market_model.specs.Orders.{left}
use Rattle.laws_of_market.proofs.Placed.{all_are_sound}
use Rattle.laws_of_market.proofs.Pours.{ArePair}
use Rattle.plain_orders.specs.Histories.{IsSomeHistory}
use Rattle.plain_matching.specs.BlockEntering.{IsHistoryOver}
use Rattle.plain_matching.specs.Meeting.{ArePoured, Stands}

pub some-history : (graph : Graph) (events : List Event) → IsHistoryOver graph events → IsSomeHistory events
some-history graph events legal = record { setup = legal.setup; fit = legal.history.fit }

-- of a block that stands: its zone is there, and its hours are in order
pub record IsSoundBlock (graph : Graph) (own : StandingBlock) : Type 0 where
  pub in_zone : HasZone graph own.order.zone
  pub in_order : own.order.first ≤ own.order.last

pub stands-sound : (graph : Graph) (events : List Event) (own : StandingBlock) → IsHistoryOver graph events → Stands events own → IsSoundBlock graph own
stands-sound graph events own legal stands =
    let sound = (all_are_sound legal.setup events legal.history.fit).blocks stands.block stands.is_placed in
    let first : ℕ = stands.block.order.first in
    let last : ℕ = stands.block.order.last in
    let before : first < last = ltb-true first last (and_parts (nat_lt first last) (nat_le (last + 1 - first) 24) sound.of_period).0 in
    subst (λ s. IsSoundBlock graph s) (sym stands.is) (record {
      in_zone = subst (λ g. HasZone g stands.block.order.zone) (sym legal.over) sound.in_zone;
      in_order = omega arith;
    })

pub quantities-pair : (graph : Graph) (events : List Event) (taker maker : StandingBlock) (poured : ArePoured graph events taker maker)
    → ArePair poured.meet.own_stands.block poured.meet.other_stands.block
quantities-pair graph events taker maker poured =
    let meet = poured.meet in
    let own : taker ≡ standing_block events meet.own_stands.block = meet.own_stands.is in
    let other : maker ≡ standing_block events meet.other_stands.block = meet.other_stands.is in
    record {
      one_first = ap (λ (b : StandingBlock). b.order.first) (sym other) ∙ meet.one_first ∙ ap (λ (b : StandingBlock). b.order.first) own;
      one_last = ap (λ (b : StandingBlock). b.order.last) (sym other) ∙ meet.one_last ∙ ap (λ (b : StandingBlock). b.order.last) own;
      one_quantity = ap (λ (b : StandingBlock). b.order.quantity) (sym other) ∙ poured.one_quantity ∙ ap (λ (b : StandingBlock). b.order.quantity) own;
      opposed = ap (λ (b : StandingBlock). b.order.side) (sym other) ∙ meet.opposed ∙ ap (λ (b : StandingBlock). opposite b.order.side) own;
    }

-- as much is left of the one as of the other: all of both
pub equal-left : (graph : Graph) (events : List Event) (taker maker : StandingBlock) → ArePoured graph events taker maker → left events taker.name ≡ left events maker.name
equal-left graph events taker maker poured =
    let meet = poured.meet in
    let own = meet.own_stands in
    let other = meet.other_stands in
    ap (λ (b : StandingBlock). left events b.name) own.is
    ∙ meet.legal.history.whole own.block own.is_placed own.is_left
    ∙ ap (λ (q : Lots). q.0) (sym (quantities-pair graph events taker maker poured).one_quantity)
    ∙ sym (meet.legal.history.whole other.block other.is_placed other.is_left)
    ∙ sym (ap (λ (b : StandingBlock). left events b.name) other.is)

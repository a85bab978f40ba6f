-- Where nothing opened, nothing trades.
use Rattle.std.proofs.Common.{◌≡◌, ◌∙◌, ◌<◌, ◌&&◌, ℕ, Bool, true, false, List, [], ◌∷◌, None, refl, sym, subst}
use Rattle.std.proofs.lemmas.Bool.{and_from, and_parts, false_from_ne_true, true≢false}
use Rattle.order_kinds.specs.declared.contract.Contract.{Contract}
use Rattle.order_kinds.specs.declared.price.Price.{Price}
use Rattle.order_kinds.specs.declared.side.Side.TheVariants.{Buy, Sell}
use Rattle.order_kinds.specs.Period.{contract_quarters}
use Rattle.order_kinds.specs.Side.{crosses, prefers}
use Rattle.zone_graph.specs.declared.route.Arc.{Arc}
use Rattle.zone_graph.specs.Graph.{Graph, HasArc, IsGraph, end_of}
use Rattle.zone_graph.specs.Reach.{reaches}
use Rattle.zone_graph.specs.Route.{IsIn, IsWay}
use Rattle.cut_proof.proofs.ReachLaws.{reaches-way, way-reaches}
use Rattle.market_model.specs.declared.event.Event.{Event}
use Rattle.market_model.specs.Lines.{can_trade, line, rooms_for}
use Rattle.market_model.specs.Orders.{Standing}
use Rattle.market_model.specs.Room.{room}
use Rattle.market_model.specs.Sweep.{leg_in}
use Rattle.laws_of_market.proofs.Members.{first_answer-none}
use Rattle.market_model.specs.Sweep.{leg_of_buy}
use Rattle.laws_of_boards.specs.Fronts.{OpensNoArc, StandInFor, UnopenedContractsHaveNoLeg}
use Rattle.laws_of_boards.proofs.Worse.{asked-none, crosses-worse, is_buy, no_leg, trades-none, with_none}

-- a way over arcs that have room is one over rooms that have no fewer arcs with room
way-over : (graph : Graph) (less more : Arc → ℕ) (from to : ℕ) (arcs : List Arc) → ((arc : Arc) → HasArc graph arc → 0 < less arc → 0 < more arc)
    → IsWay graph less from arcs to → IsWay graph more from arcs to
way-over graph less more from to [] opens way = way
way-over graph less more from to (arc ∷ arcs) opens way = (way.0, way.1, opens arc way.0 way.2, way-over graph less more (end_of graph arc) to arcs opens way.3)

reaches-over : (graph : Graph) (less more : Arc → ℕ) (from to : ℕ) → IsGraph graph → ((arc : Arc) → HasArc graph arc → 0 < less arc → 0 < more arc)
    → reaches graph less from to ≡ true → reaches graph more from to ≡ true
reaches-over graph less more from to is_graph opens there =
    let way = way-reaches graph less from to is_graph there in
    reaches-way graph more from to way.0 is_graph (way-over graph less more from to way.0 opens way.1)

-- prices that cross now crossed before
crossed-before : (buy sell old_buy old_sell : Price) → prefers Buy buy old_buy ≡ false → prefers Sell sell old_sell ≡ false → crosses Buy buy sell ≡ true
    → crosses Buy old_buy old_sell ≡ true
crossed-before buy sell old_buy old_sell no_dearer no_cheaper now = go (crosses Buy old_buy old_sell) refl
  where
    go : (b : Bool) → crosses Buy old_buy old_sell ≡ b → b ≡ true
    go true e = refl
    go false e =
        absurd (true≢false (sym now ∙ crosses-worse Sell sell old_buy buy no_dearer (crosses-worse Buy old_buy old_sell sell no_cheaper e)))

module _ (graph : Graph) (before after : List Event) (contract : Contract) (is_graph : IsGraph graph) where
  -- what a buy of the contract can trade with
  buy-trades : (events : List Event) (buy sell : Standing) → IsIn buy (line events contract Buy)
      → can_trade graph (rooms_for events buy) buy sell ≡ (crosses Buy buy.price sell.price && reaches graph (room events (contract_quarters contract)) sell.order.zone buy.order.zone)
  buy-trades events buy sell i = let is = is_buy graph events contract buy i in rw (is.0, is.1) refl

  traded-before : (buy sell old_buy old_sell : Standing) → IsIn buy (line after contract Buy) → IsIn old_buy (line before contract Buy)
      → buy.order.zone ≡ old_buy.order.zone → sell.order.zone ≡ old_sell.order.zone → prefers Buy buy.price old_buy.price ≡ false → prefers Sell sell.price old_sell.price ≡ false
      → OpensNoArc graph contract before after
      → can_trade graph (rooms_for after buy) buy sell ≡ true → can_trade graph (rooms_for before old_buy) old_buy old_sell ≡ true
  traded-before buy sell old_buy old_sell i j zone other_zone no_dearer no_cheaper opens now =
      let parts = and_parts (crosses Buy buy.price sell.price) (reaches graph (room after (contract_quarters contract)) sell.order.zone buy.order.zone) (sym (buy-trades after buy sell i) ∙ now) in
      let crossing = crossed-before buy.price sell.price old_buy.price old_sell.price no_dearer no_cheaper parts.0 in
      let reach : reaches graph (room before (contract_quarters contract)) old_sell.order.zone old_buy.order.zone ≡ true =
      subst (λ z. reaches graph (room before (contract_quarters contract)) z old_buy.order.zone ≡ true) other_zone
      (subst (λ z. reaches graph (room before (contract_quarters contract)) sell.order.zone z ≡ true) zone
      (reaches-over graph (room after (contract_quarters contract)) (room before (contract_quarters contract)) sell.order.zone buy.order.zone is_graph opens parts.1)) in
      buy-trades before old_buy old_sell j
      ∙ and_from (crosses Buy old_buy.price old_sell.price) (reaches graph (room before (contract_quarters contract)) old_sell.order.zone old_buy.order.zone) crossing reach

  none-after : StandInFor Buy (line before contract Buy) (line after contract Buy) → StandInFor Sell (line before contract Sell) (line after contract Sell)
      → OpensNoArc graph contract before after
      → leg_in graph before contract ≡ None → leg_in graph after contract ≡ None
  none-after buys sells opens none =
      asked-none graph after contract (line after contract Buy) (λ buy i.
      no_leg graph after contract buy (with_none graph after contract buy i (λ sell j.
      let old = buys buy i in
      let old_too = sells sell j in
      false_from_ne_true (can_trade graph (rooms_for after buy) buy sell) (λ now.
      let alone = first_answer-none (leg_of_buy graph before) (line before contract Buy) none old.0 old.1 in
      true≢false (sym (traded-before buy sell old.0 old_too.0 i old.1 old.2 old_too.2 old.3 old_too.3 opens now)
      ∙ trades-none graph before contract old.0 old.1 alone old_too.0 old_too.1)))))

pub unopened : UnopenedContractsHaveNoLeg
unopened graph before after contract is_graph buys sells opens none = none-after graph before after contract is_graph buys sells opens none

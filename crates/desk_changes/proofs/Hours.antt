-- Many events of an hour: each is the next one of those before it.
use Rattle.std.proofs.Common.{inl, inr, ℕ, List, [], ◌∷◌, ◌++◌, append_assoc, sym, subst}
use Rattle.zone_graph.specs.declared.route.RouteLeg.{RouteLeg}
use Rattle.zone_graph.specs.Graph.{Graph, HasArc, IsGraph}
use Rattle.zone_graph.specs.Route.{IsIn}
use Rattle.zone_graph.proofs.Membership.{IsIn-map}
use Rattle.cut_proof.proofs.Ways.{way_has_arc}
use Rattle.block_match.specs.declared.deal.BlockDeal.{BlockDeal}
use Rattle.block_match.specs.Market.{deal_events, leg_event}
use Rattle.market_model.specs.declared.event.Event.{Event}
use Rattle.market_model.specs.Board.{IsHourOf}
use Rattle.market_model.specs.Grid.{graph_of}
use Rattle.market_model.specs.History.{and_then}
use Rattle.market_model.specs.WellFormed.{BlockLegFits}
use Rattle.laws_of_hours.specs.NextEvents.{IsNext}
use Rattle.laws_of_hours.proofs.NextEvents.{first_of_many, next}
use Rattle.desk_changes.specs.LegOpenings.{AreOver}

-- the first of some events that follow, and the others behind it
pub others-follow : (graph : Graph) (hour : ℕ) (events : List Event) (e : Event) (more : List Event) → IsHourOf graph hour (events ++ e ∷ more)
    → IsHourOf graph hour (and_then events e ++ more)
others-follow graph hour events e more stands = subst (IsHourOf graph hour) (sym (append_assoc events (e ∷ []) more)) stands

pub first-follows : (graph : Graph) (hour : ℕ) (events : List Event) (e : Event) (more : List Event) → IsHourOf graph hour (events ++ e ∷ more)
    → IsHourOf graph hour (and_then events e)
first-follows graph hour events e more stands = first_of_many graph hour (and_then events e) more (others-follow graph hour events e more stands)

-- the grid of an hour is a graph
pub its-graph : (graph : Graph) (hour : ℕ) (events : List Event) → IsHourOf graph hour events → IsGraph graph
its-graph graph hour events stands = subst IsGraph stands.over_grid stands.is_setup

-- each event behind some is the next one after those before it
pub each-next : (graph : Graph) (hour : ℕ) (events more : List Event) → IsHourOf graph hour (events ++ more) → (e : Event) → IsIn e more
    → (before : List Event) × IsNext graph hour before e
each-next graph hour events [] stands e i = absurd i
each-next graph hour events (x ∷ more) stands e i = elim i [
  | inl same ↦ (events, subst (IsNext graph hour events) (sym same) (next graph hour events x (first-follows graph hour events x more stands)))
  | inr later ↦ each-next graph hour (and_then events x) more (others-follow graph hour events x more stands) e later
]

-- the legs of a deal that follows go over arcs of the grid
pub legs-over : (graph : Graph) (hour : ℕ) (events : List Event) (first last : ℕ) (deal : BlockDeal) → IsHourOf graph hour (events ++ deal_events first last deal)
    → AreOver graph deal.legs
legs-over graph hour events first last deal stands leg i arc j =
    let found = each-next graph hour events (deal_events first last deal) stands (leg_event first last deal leg) (IsIn-map (leg_event first last deal) leg deal.legs i) in
    let own = found.1 in
    let fits : BlockLegFits own.setup own.history first last (leg_of leg) = own.fits in
    subst (λ g. HasArc g arc) own.over_grid (way_has_arc (graph_of own.setup) _ _ _ leg.route arc fits.carried.is_route.way j)
  where
    leg_of : RouteLeg → Rattle.market_model.specs.declared.event.Leg.Leg
    leg_of l = record {
      taker = record { hour = first; number = deal.taker };
      maker = record { hour = first; number = deal.maker };
      lots = l.lots;
      price = deal.price;
      route = l.route;
    }

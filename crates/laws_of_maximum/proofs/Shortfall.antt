-- An iceberg whose peaks differ in price stops below the value of a flow plan.
use Rattle.std.proofs.Common.{◌≡◌, inl, inr, ◌≤◌, refl, sym, subst, arith}
use Rattle.zone_graph.specs.Route.{IsIn, routes_through}
use Rattle.zone_graph.specs.Steps.{steps}
use Rattle.market_model.specs.Certificate.{crossing_lots}
use Rattle.market_model.specs.Grid.{graph_of}
use Rattle.market_model.specs.Lines.{line, partner}
use Rattle.market_model.specs.Orders.{Standing}
use Rattle.market_model.specs.Taking.{next_leg, take, trade}
use Rattle.laws_of_maximum.specs.FlowPlan.{orders_met, value_of}
use Rattle.laws_of_maximum.specs.Shortfall.{StopsShort, falling_iceberg, one_zone, two_sells}
use Rattle.laws_of_maximum.specs.Takings.{obtained}

obtains : obtained (graph_of one_zone) two_sells 0 falling_iceberg ≡ 10
unfolding take steps next_leg partner line trade routes_through
obtains = refl

worth : value_of (orders_met two_sells 0 falling_iceberg) (record { gives = λ order. order.left; flow = λ arc. 0 }) ≡ 20
unfolding line
worth = refl

-- both cross the price of the first peak
given_most : (order : Standing) → IsIn order (orders_met two_sells 0 falling_iceberg) → order.left ≤ crossing_lots falling_iceberg order
unfolding line
given_most order i = elim i [
  | inl first ↦ subst (λ (s : Standing). s.left ≤ crossing_lots falling_iceberg s) (sym first) (omega arith)
  | inr rest ↦ elim rest [
    | inl second ↦ subst (λ (s : Standing). s.left ≤ crossing_lots falling_iceberg s) (sym second) (omega arith)
    | inr none ↦ absurd none
  ]
]

pub stops_short : StopsShort
stops_short = record {
  is_setup = record { within = λ border known. absurd (omega (arith, known)); apart = λ border known. absurd (omega (arith, known)) };
  history = record {
    fit = (
      record { named = refl; of_caller = omega arith; in_hour = refl; in_part = refl; in_zone = omega arith; sound = refl },
      (record { named = refl; of_caller = omega arith; in_hour = refl; in_part = refl; in_zone = omega arith; sound = refl }, tt),
    );
    whole = λ block i. absurd i;
  };
  enters = record { named = refl; of_caller = omega arith; in_hour = refl; in_part = refl; in_zone = omega arith; sound = refl };
  obtains = obtains;
  plan = record { gives = λ order. order.left; flow = λ arc. 0 };
  planned = record {
    gives_most = given_most;
    within = λ arc known. absurd (omega (arith, known));
    balanced = λ other known apart. absurd (apart (omega (arith, known)));
  };
  worth = worth;
}

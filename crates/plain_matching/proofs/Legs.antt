-- The legs of a taking and of a sweep, one more at a time.
use Rattle.std.proofs.Common.{◌≡◌, ◌∙◌, ℕ, ◌<◌, List, [], ◌∷◌, ◌++◌, append_assoc, length, Option, Some, None, refl, sym, ap, subst}
use Rattle.std.proofs.lemmas.List.{append-nil}
use Rattle.std.proofs.Math.Seq.{append_snoc}
use Rattle.order_kinds.specs.declared.contract.Part.{Part}
use Rattle.order_kinds.specs.declared.order.OrderName.{OrderName}
use Rattle.zone_graph.specs.Graph.{Graph, IsGraph}
use Rattle.zone_graph.proofs.Runs.{run-unique}
use Rattle.market_model.specs.declared.event.Event.{Event}
use Rattle.market_model.specs.declared.setup.Setup.{Setup}
use Rattle.market_model.specs.Grid.{graph_of}
use Rattle.market_model.specs.History.{and_then}
use Rattle.market_model.specs.Orders.{left}
use Rattle.market_model.specs.Sweep.{left_in_hour, sweep, sweep_leg}
use Rattle.market_model.specs.Taking.{next_leg, take}
use Rattle.market_model.specs.WellFormed.{IsMarketSetup, IsLegalOver}
use Rattle.plain_capacity.specs.declared.rooms.CapacitySums.{CapacitySums}
use Rattle.laws_of_market.proofs.Falls.{next_leg-lowers, sweep-run, sweep_leg-lowers, take-run}
use Rattle.laws_of_market.proofs.Legs.{next_leg-fits, sweep_leg-fits}
use Rattle.laws_of_market.proofs.Repeats.{fit-more}
use Rattle.plain_matching.specs.declared.hour_sums.HourSums.{HourSums}
use Rattle.plain_matching.specs.Summed.{AreHourSums, StaysOrIsAfter}
use Rattle.plain_matching.proofs.Sums.{grew-more, hour_sums-grow, stays-or-after}

-- a history grew by a first part of its legs, and the others are those of the history as it is now
pub record IsSoFar (legs : List Event → List Event) (old now : List Event) : Type 0 where
  pub done : List Event
  pub grew : now ≡ old ++ done
  pub onward : legs old ≡ done ++ legs now

pub nothing-so_far : (legs : List Event → List Event) (old : List Event) → IsSoFar legs old old
nothing-so_far legs old = record { done = []; grew = sym (append-nil old); onward = refl }

pub more-so_far : (legs : List Event → List Event) (old now : List Event) (e : Event) → IsSoFar legs old now
    → legs now ≡ e ∷ legs (and_then now e) → IsSoFar legs old (and_then now e)
more-so_far legs old now e so_far next = record {
  done = and_then so_far.done e;
  grew = ap (λ events. and_then events e) so_far.grew ∙ append_assoc old so_far.done (e ∷ []);
  onward = so_far.onward ∙ ap (λ events. so_far.done ++ events) next ∙ sym (append_snoc so_far.done e (legs (and_then now e)));
}

pub all-so_far : (legs : List Event → List Event) (old now : List Event) → IsSoFar legs old now → legs now ≡ [] → now ≡ old ++ legs old
all-so_far legs old now so_far none =
    so_far.grew
    ∙ ap (λ events. old ++ events) (sym (so_far.onward ∙ ap (λ events. so_far.done ++ events) none ∙ append-nil so_far.done))

-- what a next leg does: the legs from the history with it follow it, the history stays legal, and a
-- number falls
pub record IsNext (graph : Graph) (legs : List Event → List Event) (open_lots : List Event → ℕ) (events : List Event) (e : Event) : Type 0 where
  pub onward : legs events ≡ e ∷ legs (and_then events e)
  pub legal : IsLegalOver graph (and_then events e)
  pub lower : open_lots (and_then events e) < open_lots events

module _ (graph : Graph) (is : IsGraph graph) (events : List Event) (legal : IsLegalOver graph events) where
  setup : Setup
  setup = legal.setup

  is_setup : IsMarketSetup legal.setup
  is_setup = subst IsGraph legal.over is

  -- the next leg of a taking
  pub take-next : (name : OrderName) (e : Event) → next_leg graph name events ≡ Some e
      → IsNext graph (λ history. take graph history name) (λ history. left history name) events e
  take-next name e found =
      let leg : next_leg (graph_of legal.setup) name events ≡ Some e = subst (λ g. next_leg g name events ≡ Some e) legal.over found in
      let fits = next_leg-fits legal.setup is_setup events legal.fit name e leg in
      let fit = fit-more legal.setup events e legal.fit fits in
      record {
        onward = subst (λ g. take g events name ≡ e ∷ take g (and_then events e) name) (sym legal.over)
            (run-unique (next_leg (graph_of legal.setup) name) and_then events (take (graph_of legal.setup) events name)
            (e ∷ take (graph_of legal.setup) (and_then events e) name)
            (take-run legal.setup is_setup events legal.fit name) (leg, take-run legal.setup is_setup (and_then events e) fit name));
        legal = record { setup = legal.setup; over = legal.over; fit = fit };
        lower = next_leg-lowers legal.setup is_setup events legal.fit name e leg;
      }

  -- no leg is left where there is no next one
  pub take-end : (name : OrderName) → next_leg graph name events ≡ None → take graph events name ≡ []
  take-end name none =
      let no_leg : next_leg (graph_of legal.setup) name events ≡ None = subst (λ g. next_leg g name events ≡ None) legal.over none in
      subst (λ g. take g events name ≡ []) (sym legal.over)
      (run-unique (next_leg (graph_of legal.setup) name) and_then events (take (graph_of legal.setup) events name) []
      (take-run legal.setup is_setup events legal.fit name) no_leg)

  -- the next leg of a sweep
  pub sweep-next : (parts : List Part) (hour : ℕ) (e : Event) → sweep_leg parts graph hour events ≡ Some e
      → IsNext graph (λ history. sweep parts graph hour history) (λ history. left_in_hour history hour) events e
  sweep-next parts hour e found =
      let leg : sweep_leg parts (graph_of legal.setup) hour events ≡ Some e = subst (λ g. sweep_leg parts g hour events ≡ Some e) legal.over found in
      let fits = sweep_leg-fits legal.setup is_setup events legal.fit parts hour e leg in
      let fit = fit-more legal.setup events e legal.fit fits in
      record {
        onward = subst (λ g. sweep parts g hour events ≡ e ∷ sweep parts g hour (and_then events e)) (sym legal.over)
            (run-unique (sweep_leg parts (graph_of legal.setup) hour) and_then events (sweep parts (graph_of legal.setup) hour events)
            (e ∷ sweep parts (graph_of legal.setup) hour (and_then events e))
            (sweep-run legal.setup is_setup parts hour events legal.fit) (leg, sweep-run legal.setup is_setup parts hour (and_then events e) fit));
        legal = record { setup = legal.setup; over = legal.over; fit = fit };
        lower = sweep_leg-lowers legal.setup is_setup events legal.fit parts hour e leg;
      }

  pub sweep-end : (parts : List Part) (hour : ℕ) → sweep_leg parts graph hour events ≡ None → sweep parts graph hour events ≡ []
  sweep-end parts hour none =
      let no_leg : sweep_leg parts (graph_of legal.setup) hour events ≡ None = subst (λ g. sweep_leg parts g hour events ≡ None) legal.over none in
      subst (λ g. sweep parts g hour events ≡ []) (sym legal.over)
      (run-unique (sweep_leg parts (graph_of legal.setup) hour) and_then events (sweep parts (graph_of legal.setup) hour events) []
      (sweep-run legal.setup is_setup parts hour events legal.fit) no_leg)

-- a history grew by a first part of the legs of an hour and is legal, and what was summed up of the hour is of its events
pub record IsUnderWay (graph : Graph) (legs : List Event → List Event) (hour : ℕ) (first : List Event) (capacity : Option CapacitySums) (now : List Event) (sums : HourSums) : Type 0 where
  pub so_far : IsSoFar legs first now
  pub legal : IsLegalOver graph now
  pub summed : AreHourSums graph now hour sums
  pub kept : StaysOrIsAfter (now ≡ first) (length first) capacity sums.capacity

module _ (graph : Graph) (legs : List Event → List Event) (hour : ℕ) (first : List Event) (capacity : Option CapacitySums) (now : List Event) (old new : HourSums) (leg : Option Event)
    (way : IsUnderWay graph legs hour first capacity now old) (asked : StaysOrIsAfter (leg ≡ None) (length now) old.capacity new.capacity) where
  capacity-on : (needless : Type 0) → (now ≡ first → leg ≡ None → needless) → StaysOrIsAfter needless (length first) capacity new.capacity
  capacity-on needless so =
      stays-or-after (now ≡ first) (leg ≡ None) needless (length first) (length now) capacity old.capacity new.capacity so
      (grew-more first now way.so_far.done way.so_far.grew) way.kept asked

  -- with one leg more
  pub way-on : (open_lots : List Event → ℕ) (e : Event) (next : List Event) → leg ≡ Some e → next ≡ and_then now e → AreHourSums graph now hour new
      → IsNext graph legs open_lots now e → IsUnderWay graph legs hour first capacity next new
  way-on open_lots e next found is summed more = subst (λ events. IsUnderWay graph legs hour first capacity events new) (sym is) (record {
    so_far = more-so_far legs first now e way.so_far more.onward;
    legal = more.legal;
    summed = hour_sums-grow graph now (e ∷ []) hour new summed;
    kept = capacity-on (and_then now e ≡ first) (λ same none. absurd (cc (none, found)));
  })

  -- and once there is no leg any more
  pub way-end : StaysOrIsAfter (now ≡ first) (length first) capacity new.capacity
  way-end = capacity-on (now ≡ first) (λ same none. same)

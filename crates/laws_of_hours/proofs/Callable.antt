-- What fits the events can be kept in the flows that stand for them.
use Rattle.std.proofs.Common.{◌≡◌, ◌∙◌, ◌&&◌, ℕ, pos, ◌≤ℤ◌, Bool, List, [], refl, sym, ap, ap₂, subst, arith}
use Rattle.order_kinds.specs.Period.{EachQuarter, block_has, contract_has, is_quarter, quarter_of}
use Rattle.zone_graph.specs.declared.route.Arc.{Arc}
use Rattle.zone_graph.specs.Graph.{HasArc}
use Rattle.zone_graph.specs.Pour.{lots_if, uses}
use Rattle.zone_graph.specs.Route.{IsIn}
use Rattle.zone_graph.proofs.Arcs.{same_arc-itself, uses-IsIn}
use Rattle.cut_proof.proofs.Ways.{borders_once, way_has_arc}
use Rattle.market_model.specs.declared.event.Event.{Event}
use Rattle.market_model.specs.declared.event.Event.TheVariants as event
use Rattle.market_model.specs.declared.event.Leg.{Leg}
use Rattle.market_model.specs.declared.setup.Setup.{Setup}
use Rattle.market_model.specs.Capacity.{allocated_by, remaining}
use Rattle.market_model.specs.Grid.{graph_of}
use Rattle.market_model.specs.WellFormed.{Carries, FitAfter, Fits}
use Rattle.laws_of_market.proofs.Uses.{range_has-is, uses-remaining, within_offers}
use Rattle.flow_netting.specs.declared.quarter_set.QuarterSet.{QuarterSet}
use Rattle.flow_netting.specs.Flows.{Flows}
use Rattle.flow_netting.specs.Flows as kept
use Rattle.flow_netting.specs.QuarterSet.{has}
use Rattle.laws_of_hours.specs.CallLaws.{BlockLegsCanBeCarried, CanCarry, GrantsCanBeMade, LegsCanBeCarried, OffersCanBeMade}
use Rattle.laws_of_hours.specs.Standing.{Stands}
use Rattle.laws_of_hours.proofs.Noted.{contract-covers}
use Rattle.laws_of_hours.proofs.Ranges.{hour-covers}
use Rattle.laws_of_hours.proofs.Rooms.{remains}

module _ (setup : Setup) (events : List Event) (e : Event) (hour : ℕ) (flows : Flows) (fit : FitAfter setup [] events) (fits : Fits setup events e)
    (is : Stands (graph_of setup) events hour flows) where
  -- so many lots as are used remain
  left-for : (arc : Arc) → HasArc (graph_of setup) arc → (lots : ℕ)
      → EachQuarter (λ number. allocated_by (quarter_of hour number) arc e ≡ lots → pos lots ≤ℤ kept.remaining_of flows arc number)
  left-for arc there lots number first last used =
      subst (λ z. pos lots ≤ℤ z) (sym (remains (graph_of setup) events hour flows arc is there number first last))
      (subst (λ n. pos n ≤ℤ remaining events (quarter_of hour number) arc) used
      (uses-remaining setup events e (within_offers setup events fit) fits (quarter_of hour number) arc))

  can-carry : (room : Arc → ℕ) (from to : ℕ) (leg : Leg) (set : QuarterSet) (delivers : ℕ → Bool) → Carries setup room from to leg.lots leg.route
      → EachQuarter (λ number. has set number ≡ delivers number)
      → ((number : ℕ) (arc : Arc) → allocated_by (quarter_of hour number) arc e ≡ lots_if (delivers number && uses leg.route arc) leg.lots)
      → CanCarry flows leg.route set leg.lots
  can-carry room from to leg set delivers carried same used = record {
    borders = record {
      there = λ arc i.
          let known : HasArc (graph_of setup) arc = on_graph arc i in
          let size = is.size in
          omega arith;
      different = borders_once (graph_of setup) room from to leg.route carried.is_route.way carried.is_route.simple;
    };
    room = λ arc i number first last in_set.
        left-for arc (on_graph arc i) leg.lots number first last
        (used number arc ∙ ap₂ (λ d u. lots_if (d && u) leg.lots) (sym (same number first last) ∙ in_set) (uses-IsIn leg.route arc i));
  }
    where
      on_graph : (arc : Arc) → IsIn arc leg.route → HasArc (graph_of setup) arc
      on_graph arc i = way_has_arc (graph_of setup) room from to leg.route arc carried.is_route.way i

pub legs : LegsCanBeCarried
legs setup events contract leg set flows fit fits is of_part =
    can-carry setup events (event.Leg contract leg) contract.hour flows fit fits is _ _ _ leg set
    (λ number. contract_has contract (quarter_of contract.hour number)) fits.carried
    (λ number first last. of_part number first last ∙ contract-covers contract number) (λ number arc. refl)

pub block_legs : BlockLegsCanBeCarried
block_legs setup events from to leg set hour flows fit fits is within of_hour =
    can-carry setup events (event.BlockLeg from to leg) hour flows fit fits is _ _ _ leg set
    (λ number. block_has from to (quarter_of hour number)) fits.carried
    (λ number first last. of_hour number first last ∙ hour-covers number first last ∙ ap (λ b. b && is_quarter (quarter_of hour number)) (sym within))
    (λ number arc. refl)

pub grants : GrantsCanBeMade
grants setup events arc from to lots hour flows fit fits is = record {
  border = let known : HasArc (graph_of setup) arc = fits.range.on_arc in let size = is.size in omega arith;
  room = λ number first last inside.
      left-for setup events (event.Granted arc from to lots) hour flows fit fits is arc fits.range.on_arc lots number first last
      (ap₂ (λ r a. lots_if (r && a) lots) inside (same_arc-itself arc));
}

pub offers : OffersCanBeMade
offers setup events arc from to lots hour flows fits is = record {
  border = let known : HasArc (graph_of setup) arc = fits.range.on_arc in let size = is.size in omega arith;
  most = fits.most;
  covers = λ number first last inside.
      subst (λ z. z ≤ℤ pos lots) (sym (is.flow_same arc fits.range.on_arc number first last))
      (fits.covers_flow (quarter_of hour number) (range_has-is from to (quarter_of hour number) inside));
}

-- What the events of a legal history use and offer in a quarter can be used and offered there.
use Rattle.std.proofs.Common.{◌≡◌, ◌∙◌, ◌+◌, ◌<◌, ◌&&◌, ℕ, pos, ◌+ℤ◌, ◌≤ℤ◌, ℤ, Bool, true, false, List, length, unwrap_or, refl, sym, ap, ap₂, subst, arith}
use Rattle.std.proofs.lemmas.Bool.{true≢false}
use Rattle.std.proofs.lemmas.Int.{ints}
use Rattle.order_kinds.specs.declared.contract.Quarter.{Quarter}
use Rattle.order_kinds.specs.Period.{block_has, contract_has, range_has}
use Rattle.quarter_capacity.specs.Capacity.{flow_of, remaining_of}
use Rattle.quarter_capacity.specs.Row.{Row}
use Rattle.zone_graph.specs.declared.route.Arc.{Arc}
use Rattle.zone_graph.specs.Graph.{Graph, HasArc, border_count}
use Rattle.zone_graph.specs.Pour.{lots_if, opposite_arc, same_arc, uses}
use Rattle.zone_graph.proofs.Arcs.{same_arc-itself, uses-IsIn}
use Rattle.cut_proof.proofs.Ways.{borders_once, way_has_arc}
use Rattle.market_model.specs.declared.event.Event.{Event}
use Rattle.market_model.specs.declared.event.Event.TheVariants as event
use Rattle.market_model.specs.declared.event.Leg.{Leg}
use Rattle.market_model.specs.declared.setup.Setup.{Setup}
use Rattle.market_model.specs.Capacity.{allocated, allocated_by, offered_by, remaining}
use Rattle.market_model.specs.Grid.{graph_of}
use Rattle.market_model.specs.History.{and_then}
use Rattle.market_model.specs.WellFormed.{Carries, Fits}
use Rattle.laws_of_market.proofs.Capacities.{allocated-more, offered-more}
use Rattle.laws_of_market.proofs.Uses.{IsWithinOffers, range_has-is, uses-remaining}
use Rattle.plain_capacity.specs.Rows.{CanCarry, CanNote, IsNoted, IsQuarterOf, flow_at, remaining_at}

-- ---- the rows of a quarter

lots-both : (a b : Bool) (lots : ℕ) → a ≡ true → b ≡ true → lots_if (a && b) lots ≡ lots
lots-both true true lots x y = refl
lots-both true false lots x y = absurd (true≢false (sym y))
lots-both false b lots x y = absurd (true≢false (sym x))

module _ (graph : Graph) (before : List Event) (quarter : Quarter) (rows : List Row) (is : IsQuarterOf graph before quarter rows) where
  remaining-is : (arc : Arc) → remaining before quarter arc ≡ remaining_at rows arc
  remaining-is arc = sym (ap₂ remaining_of (is.offers arc) (is.flows arc))

  -- so many lots as are used remain
  left-for : (arc : Arc) (used lots : ℕ) → used ≡ lots → pos used ≤ℤ remaining before quarter arc → pos lots ≤ℤ remaining_at rows arc
  left-for arc used lots same enough =
      subst (λ z. pos lots ≤ℤ z) (remaining-is arc) (subst (λ n. pos n ≤ℤ remaining before quarter arc) same enough)

  can-carry : (setup : Setup) (room : Arc → ℕ) (from to : ℕ) (counts : Bool) (leg : Leg) → graph ≡ graph_of setup
      → Carries setup room from to leg.lots leg.route → counts ≡ true
      → ((arc : Arc) → pos (lots_if (counts && uses leg.route arc) leg.lots) ≤ℤ remaining before quarter arc) → CanCarry rows leg.route leg.lots
  can-carry setup room from to counts leg over carried on enough = record {
    there = λ arc i.
        let known : arc.border < border_count graph = subst (λ g. HasArc g arc) (sym over) (way_has_arc (graph_of setup) room from to leg.route arc carried.is_route.way i) in
        let size = is.size in
        omega arith;
    different = borders_once (graph_of setup) room from to leg.route carried.is_route.way carried.is_route.simple;
    left = λ arc i. left-for arc _ leg.lots (lots-both counts (uses leg.route arc) leg.lots on (uses-IsIn leg.route arc i)) (enough arc);
  }

  there-is : (setup : Setup) (arc : Arc) → graph ≡ graph_of setup → HasArc (graph_of setup) arc → arc.border < length rows
  there-is setup arc over known =
      let here : arc.border < border_count graph = subst (λ g. HasArc g arc) (sym over) known in
      let size = is.size in
      omega arith

  -- what a fitting event uses or offers can be used or offered
  pub can-note : (setup : Setup) (e : Event) → graph ≡ graph_of setup → IsWithinOffers before → Fits setup before e → CanNote rows quarter e
  can-note setup (event.Leg contract leg) over within fits =
      λ on. can-carry setup _ _ _ (contract_has contract quarter) leg over fits.carried on (uses-remaining setup before (event.Leg contract leg) within fits quarter)
  can-note setup (event.BlockLeg first last leg) over within fits =
      λ on. can-carry setup _ _ _ (block_has first last quarter) leg over fits.carried on (uses-remaining setup before (event.BlockLeg first last leg) within fits quarter)
  can-note setup (event.Granted arc first last lots) over within fits = λ on. record {
    there = there-is setup arc over fits.range.on_arc;
    left = left-for arc _ lots (lots-both (range_has first last quarter) (same_arc arc arc) lots on (same_arc-itself arc))
        (uses-remaining setup before (event.Granted arc first last lots) within fits quarter arc);
  }
  can-note setup (event.Offered arc first last lots) over within fits = λ on. record {
    there = there-is setup arc over fits.range.on_arc;
    most = fits.most;
    covers_flow = subst (λ z. z ≤ℤ pos lots) (sym (is.flows arc)) (fits.covers_flow quarter (range_has-is first last quarter on));
  }
  can-note setup (event.Entered name caller order) over within fits = tt
  can-note setup (event.EnteredBlock name caller order) over within fits = tt
  can-note setup (event.Halted border first last) over within fits = tt
  can-note setup (event.Resumed border first last) over within fits = tt
  can-note setup (event.Gated hour phase) over within fits = tt
  can-note setup (event.Withdrawn name lots) over within fits = tt
  can-note setup (event.Reduced name by) over within fits = tt

  -- and after it the rows are those of the events with it
  pub noted-is : (e : Event) (new : List Row) → IsNoted quarter e rows new → IsQuarterOf graph (and_then before e) quarter new
  noted-is e new noted = record {
    size = noted.size ∙ is.size;
    offers = λ arc. noted.offers arc ∙ ap (unwrap_or (offered_by quarter arc e)) (is.offers arc) ∙ sym (offered-more before e quarter arc);
    flows = λ arc.
        sum (flow_at rows arc) (flow_at new arc) (allocated before quarter arc) (allocated before quarter (opposite_arc arc))
        (allocated_by quarter arc e) (allocated_by quarter (opposite_arc arc) e) (is.flows arc) (noted.flows arc)
        ∙ sym (ap₂ flow_of (allocated-more before e quarter arc) (allocated-more before e quarter (opposite_arc arc)));
  }
    where
      sum : (old new : ℤ) (there back more less : ℕ) → old ≡ flow_of there back → new ≡ old +ℤ flow_of more less → new ≡ flow_of (there + more) (back + less)
      sum old new there back more less was now = omega (arith, ints)

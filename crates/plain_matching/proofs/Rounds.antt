-- The deals of a period, one more at a time.
use Rattle.std.proofs.Common.{◌≡◌, ◌∙◌, ℕ, suc, ◌<◌, true, false, List, [], ◌∷◌, ◌++◌, append_assoc, flat_map, length, Option, Some, None, refl, sym, ap, subst, arith}
use Rattle.std.specs.Option.{is_some}
use Rattle.zone_graph.specs.Graph.{Graph, IsGraph}
use Rattle.zone_graph.proofs.Runs.{run-unique}
use Rattle.market_model.specs.declared.event.Event.{Event}
use Rattle.market_model.specs.Blocks.{block_deal, block_deals}
use Rattle.market_model.specs.Grid.{graph_of}
use Rattle.market_model.specs.WellFormed.{IsHistory, IsMarketSetup}
use Rattle.laws_of_market.proofs.BlockEntries.{deal_step-closes, deals-run}
use Rattle.plain_matching.proofs.Legs.{IsSoFar}
use Rattle.plain_matching.specs.BlockEntering.{IsHistoryOver}

-- the legs of the deals of a period
abbrev pub dealt_legs : Graph → (first last : ℕ) → List Event → List Event
dealt_legs graph first last events = flat_map (λ deal. deal) (block_deals graph first last events)

-- a history that grew by a first part of its deals, and by one deal more
pub more-dealt : (legs : List Event → List Event) (old now deal : List Event) → IsSoFar legs old now → legs now ≡ deal ++ legs (now ++ deal)
    → IsSoFar legs old (now ++ deal)
more-dealt legs old now deal so_far next = record {
  done = so_far.done ++ deal;
  grew = ap (λ events. events ++ deal) so_far.grew ∙ append_assoc old so_far.done deal;
  onward = so_far.onward ∙ ap (λ events. so_far.done ++ events) next ∙ sym (append_assoc so_far.done deal (legs (now ++ deal)));
}

-- where there is a deal, and where there is none
pub a-deal : {X : Type 0} (o : Option X) → true ≡ is_some o → (x : X) × (o ≡ Some x)
a-deal None e = absurd (cc)
a-deal (Some x) e = (x, refl)

pub no-deal : {X : Type 0} (o : Option X) → false ≡ is_some o → o ≡ None
no-deal None e = refl
no-deal (Some x) e = absurd (cc)

-- what a next deal does: the deals from the history with it follow it, the history stays well-formed,
-- and there are fewer deals
pub record IsNextRound (graph : Graph) (first last : ℕ) (events deal : List Event) : Type 0 where
  pub onward : dealt_legs graph first last events ≡ deal ++ dealt_legs graph first last (events ++ deal)
  pub legal : IsHistoryOver graph (events ++ deal)
  pub fewer : length (block_deals graph first last (events ++ deal)) < length (block_deals graph first last events)

module _ (graph : Graph) (is : IsGraph graph) (first last : ℕ) (events : List Event) (legal : IsHistoryOver graph events) where
  is_setup : IsMarketSetup legal.setup
  is_setup = subst IsGraph legal.over is

  -- the deals from here are this one and the deals from the history with it
  round-is : (deal : List Event) → block_deal (graph_of legal.setup) first last events ≡ Some deal → IsHistory legal.setup (events ++ deal)
      → block_deals (graph_of legal.setup) first last events ≡ deal ∷ block_deals (graph_of legal.setup) first last (events ++ deal)
  round-is deal found after =
      run-unique (block_deal (graph_of legal.setup) first last) (λ history more. history ++ more) events (block_deals (graph_of legal.setup) first last events)
      (deal ∷ block_deals (graph_of legal.setup) first last (events ++ deal)) (deals-run legal.setup is_setup first last events legal.history)
      (found, deals-run legal.setup is_setup first last (events ++ deal) after)

  pub next-round : (deal : List Event) → block_deal graph first last events ≡ Some deal → IsNextRound graph first last events deal
  next-round deal found =
      let here : block_deal (graph_of legal.setup) first last events ≡ Some deal = subst (λ g. block_deal g first last events ≡ Some deal) legal.over found in
      let after : IsHistory legal.setup (events ++ deal) = (deal_step-closes legal.setup is_setup events legal.history first last deal here).closes.well_formed in
      let onward : block_deals graph first last events ≡ deal ∷ block_deals graph first last (events ++ deal) =
      subst (λ g. block_deals g first last events ≡ deal ∷ block_deals g first last (events ++ deal)) (sym legal.over) (round-is deal here after) in
      record {
        onward = ap (flat_map (λ more. more)) onward;
        legal = record { setup = legal.setup; over = legal.over; history = after };
        fewer = let more : length (block_deals graph first last events) ≡ suc (length (block_deals graph first last (events ++ deal))) =
            ap (λ ds. length ds) onward in omega (arith, more);
      }

  pub last-round : block_deal graph first last events ≡ None → dealt_legs graph first last events ≡ []
  last-round none =
      let here : block_deal (graph_of legal.setup) first last events ≡ None = subst (λ g. block_deal g first last events ≡ None) legal.over none in
      ap (flat_map (λ more. more)) (
      subst (λ g. block_deals g first last events ≡ []) (sym legal.over)
      (run-unique (block_deal (graph_of legal.setup) first last) (λ history more. history ++ more) events (block_deals (graph_of legal.setup) first last events) []
      (deals-run legal.setup is_setup first last events legal.history) here)
      )

-- The legs of the pour between two blocks, one more at a time.
use Rattle.std.proofs.Common.{◌≡◌, ◌∙◌, ◌<◌, List, [], ◌∷◌, Some, None, refl, sym, ap, subst}
use Rattle.order_kinds.specs.declared.price.Lots.{Lots}
use Rattle.zone_graph.specs.Graph.{Graph, IsGraph}
use Rattle.zone_graph.specs.Route.{IsIn}
use Rattle.zone_graph.proofs.Runs.{run-unique}
use Rattle.market_model.specs.declared.event.Event.{Event}
use Rattle.market_model.specs.declared.setup.Setup.{Setup}
use Rattle.market_model.specs.Blocks.{IsBlockPour, StandingBlock, block_leg, block_legs}
use Rattle.market_model.specs.Grid.{graph_of}
use Rattle.market_model.specs.History.{and_then}
use Rattle.market_model.specs.Orders.{PlacedBlock, blocks_placed, left}
use Rattle.market_model.specs.WellFormed.{IsMarketSetup, IsLegalOver}
use Rattle.laws_of_market.proofs.Pours.{ArePair, PourKeeps, pour-run, pour-step}
use Rattle.plain_matching.specs.Meeting.{ArePoured}
use Rattle.plain_matching.proofs.Meetings.{quantities-pair}

-- two blocks are poured, and the legs so far keep what a pour keeps
pub record IsPouring (graph : Graph) (start : List Event) (taker maker : StandingBlock) (events : List Event) : Type 0 where
  pub setup : Setup
  pub over : graph ≡ graph_of setup
  pub own : PlacedBlock
  pub other : PlacedBlock
  pub is_pair : ArePair own other
  pub own_in : IsIn own (blocks_placed start)
  pub other_in : IsIn other (blocks_placed start)
  pub own_named : taker.name ≡ own.name
  pub own_order : taker.order ≡ own.order
  pub other_named : maker.name ≡ other.name
  pub other_order : maker.order ≡ other.order
  pub kept : PourKeeps setup start own other events

pub pouring-start : (graph : Graph) (start : List Event) (taker maker : StandingBlock) → ArePoured graph start taker maker → IsPouring graph start taker maker start
pouring-start graph start taker maker poured =
    let meet = poured.meet in
    let own = meet.own_stands in
    let other = meet.other_stands in
    let legal = meet.legal in
    let pair : ArePair own.block other.block = quantities-pair graph start taker maker poured in
    record {
      setup = legal.setup;
      over = legal.over;
      own = own.block;
      other = other.block;
      is_pair = pair;
      own_in = own.is_placed;
      other_in = other.is_placed;
      own_named = ap (λ (b : StandingBlock). b.name) own.is;
      own_order = ap (λ (b : StandingBlock). b.order) own.is;
      other_named = ap (λ (b : StandingBlock). b.name) other.is;
      other_order = ap (λ (b : StandingBlock). b.order) other.is;
      kept = record {
        fit = legal.history.fit;
        blocks = refl;
        equal = legal.history.whole other.block other.is_placed other.is_left ∙ ap (λ (q : Lots). q.0) pair.one_quantity
            ∙ sym (legal.history.whole own.block own.is_placed own.is_left);
        others = λ name not_taker not_maker. refl;
      };
    }

pub pouring-legal : (graph : Graph) (start : List Event) (taker maker : StandingBlock) (events : List Event) → IsPouring graph start taker maker events → IsLegalOver graph events
pouring-legal graph start taker maker events pouring = record { setup = pouring.setup; over = pouring.over; fit = pouring.kept.fit }

-- what a next leg does: the legs from the history with it follow it, the pour goes on, and less is left
-- of the taker
pub record IsNextLeg (graph : Graph) (start : List Event) (taker maker : StandingBlock) (events : List Event) (e : Event) : Type 0 where
  pub onward : block_legs graph taker maker events ≡ e ∷ block_legs graph taker maker (and_then events e)
  pub pouring : IsPouring graph start taker maker (and_then events e)
  pub lower : left (and_then events e) taker.name < left events taker.name

module _ (graph : Graph) (is : IsGraph graph) (start : List Event) (taker maker : StandingBlock) (events : List Event)
    (pouring : IsPouring graph start taker maker events) where
  is_setup : IsMarketSetup pouring.setup
  is_setup = subst IsGraph pouring.over is

  run-at : (history : List Event) → PourKeeps pouring.setup start pouring.own pouring.other history
      → IsBlockPour (graph_of pouring.setup) taker maker history (block_legs (graph_of pouring.setup) taker maker history)
  run-at history kept =
      pour-run pouring.setup is_setup start pouring.own pouring.other taker maker pouring.is_pair pouring.own_in pouring.other_in pouring.own_named pouring.own_order
      pouring.other_named pouring.other_order history kept

  pub next-leg : (e : Event) → block_leg graph taker maker events ≡ Some e → IsNextLeg graph start taker maker events e
  next-leg e found =
      let leg : block_leg (graph_of pouring.setup) taker maker events ≡ Some e = subst (λ g. block_leg g taker maker events ≡ Some e) pouring.over found in
      let step = pour-step pouring.setup is_setup start pouring.own pouring.other taker maker pouring.is_pair pouring.own_in pouring.other_in pouring.own_named
      pouring.own_order pouring.other_named pouring.other_order events e pouring.kept leg in
      record {
        onward = subst (λ g. block_legs g taker maker events ≡ e ∷ block_legs g taker maker (and_then events e)) (sym pouring.over)
            (run-unique (block_leg (graph_of pouring.setup) taker maker) and_then events (block_legs (graph_of pouring.setup) taker maker events)
            (e ∷ block_legs (graph_of pouring.setup) taker maker (and_then events e)) (run-at events pouring.kept) (leg, run-at (and_then events e) step.kept));
        pouring = record {
          setup = pouring.setup;
          over = pouring.over;
          own = pouring.own;
          other = pouring.other;
          is_pair = pouring.is_pair;
          own_in = pouring.own_in;
          other_in = pouring.other_in;
          own_named = pouring.own_named;
          own_order = pouring.own_order;
          other_named = pouring.other_named;
          other_order = pouring.other_order;
          kept = step.kept;
        };
        lower = step.lowers;
      }

  pub last-leg : block_leg graph taker maker events ≡ None → block_legs graph taker maker events ≡ []
  last-leg none =
      let no_leg : block_leg (graph_of pouring.setup) taker maker events ≡ None = subst (λ g. block_leg g taker maker events ≡ None) pouring.over none in
      subst (λ g. block_legs g taker maker events ≡ []) (sym pouring.over)
      (run-unique (block_leg (graph_of pouring.setup) taker maker) and_then events (block_legs (graph_of pouring.setup) taker maker events) []
      (run-at events pouring.kept) no_leg)

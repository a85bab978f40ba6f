-- Commands over a range of hours: what its hours share, and what is done where it is of one hour alone.
use Rattle.std.proofs.Common.{◌≡◌, ◌≢◌, ◌∙◌, ℕ, false, true, List, [], ◌∷◌, ◌++◌, is_some, Option, Some, None, refl, sym, ap, subst}
use Rattle.std.proofs.lemmas.List.{append-nil}
use Rattle.std.specs.Option.{option_map}
use Rattle.order_kinds.specs.declared.contract.Contract.{Contract}
use Rattle.order_kinds.specs.declared.order.Order.{Order}
use Rattle.order_kinds.specs.declared.order.OrderName.{OrderName}
use Rattle.order_kinds.specs.declared.phase.Phase.{Phase}
use Rattle.order_kinds.specs.declared.side.Side.{Side}
use Rattle.zone_graph.specs.declared.route.Arc.{Arc}
use Rattle.zone_graph.specs.Graph.{Graph}
use Rattle.zone_graph.specs.Grid.{arc_between}
use Rattle.market_model.specs.declared.command.Command.{Command}
use Rattle.market_model.specs.declared.command.Command.TheVariants as command
use Rattle.market_model.specs.declared.event.Event.{Event}
use Rattle.market_model.specs.declared.event.Event.TheVariants as event
use Rattle.market_model.specs.declared.setup.Setup.{Setup}
use Rattle.market_model.specs.Board.{IsHourOf}
use Rattle.market_model.specs.Grid.{graph_of}
use Rattle.market_model.specs.History.{and_then}
use Rattle.market_model.specs.LetIn.{IsNoEntry}
use Rattle.market_model.specs.Market.{events_done, on_arc, then_sweeps}
use Rattle.market_model.specs.Rules.{border_is_known, hours_concerned}
use Rattle.market_model.specs.Sweep.{all_parts, sweep, sweeps}
use Rattle.laws_of_market.proofs.Admitted.{naming-none}
use Rattle.laws_of_market.proofs.Admitting.{early-none}
use Rattle.laws_of_market.proofs.Repeats.{map-some}
use Rattle.laws_of_joint_commands.specs.Ranges.{shared_event}
use Rattle.desk_changes.specs.State.{HourState}
use Rattle.hour_desk.specs.declared.part_work.PartWork.{PartWork}
use Rattle.hour_desk.specs.declared.part_work.PartWork.TheVariants as work
use Rattle.hour_desk.specs.Desk.{DeskState}
use Rattle.hour_desk.specs.Insides.{desk_of}
use Rattle.hour_desk.specs.Placed.{CanChange}
use Rattle.hour_desk.specs.Ranges.{IsOverRange, range_work}
use Rattle.hour_desk.specs.Shared.{BlocksFit, CanShare, part_events, shared_events, then_swept}
use Rattle.hour_desk.proofs.Commands.{first-stands, one-hour}
use Rattle.hour_desk.proofs.Touching.{no-basket, no-block, no-matching}

-- the work is one event, that of the command, and then its hours are swept
pub record IsRangeWork (setup : Setup) (given : Command) (w : PartWork) : Type 0 where
  pub shared : Event
  pub is_event : shared_event (graph_of setup) given ≡ Some shared
  pub same : (events : List Event) → shared_events events w ≡ shared ∷ []
  pub fits : (desk : DeskState) → BlocksFit desk w
  pub no_entry : IsNoEntry given
  pub done : (events : List Event) (caller : ℕ) → events_done all_parts setup events caller given
      ≡ then_sweeps all_parts (graph_of setup) (hours_concerned given) events shared

over-arc : (setup : Setup) (given : Command) (part : Arc → PartWork) (shared : Arc → Event) (o : Option Arc) (w : PartWork) → option_map part o ≡ Some w
    → shared_event (graph_of setup) given ≡ option_map shared o → ((arc : Arc) (events : List Event) → shared_events events (part arc) ≡ shared arc ∷ [])
    → ((arc : Arc) (desk : DeskState) → BlocksFit desk (part arc)) → IsNoEntry given
    → ((events : List Event) (caller : ℕ) → events_done all_parts setup events caller given
    ≡ on_arc o (λ arc. then_sweeps all_parts (graph_of setup) (hours_concerned given) events (shared arc))) → IsRangeWork setup given w
over-arc setup given part shared o w is event same fits none done =
    let found = map-some part o w is in
    subst (IsRangeWork setup given) found.2 (record {
      shared = shared found.0;
      is_event = event ∙ ap (option_map shared) found.1;
      same = same found.0;
      fits = fits found.0;
      no_entry = none;
      done = λ events caller.
          done events caller ∙ ap (λ p. on_arc p (λ arc. then_sweeps all_parts (graph_of setup) (hours_concerned given) events (shared arc))) found.1;
    })

pub range-work : (setup : Setup) (given : Command) (w : PartWork) → range_work (graph_of setup) given ≡ Some w → IsRangeWork setup given w
unfolding events_done
range-work setup (command.Offer from to first last lots) w is =
    over-arc setup (command.Offer from to first last lots) (λ arc. work.Offer arc first last lots) (λ arc. event.Offered arc first last lots)
    (arc_between (graph_of setup) from to) w is refl (λ _ _. refl) (λ _ _. tt) tt (λ _ _. refl)
range-work setup (command.Request from to first last lots) w is =
    over-arc setup (command.Request from to first last lots) (λ arc. work.Grant arc first last lots) (λ arc. event.Granted arc first last lots)
    (arc_between (graph_of setup) from to) w is refl (λ _ _. refl) (λ _ _. tt) tt (λ _ _. refl)
range-work setup (command.Halt from to first last) w is =
    over-arc setup (command.Halt from to first last) (λ arc. work.Halt arc.border first last) (λ arc. event.Halted arc.border first last)
    (arc_between (graph_of setup) from to) w is refl (λ _ _. refl) (λ _ _. tt) tt (λ _ _. refl)
range-work setup (command.Resume from to first last) w is =
    over-arc setup (command.Resume from to first last) (λ arc. work.Resume arc.border first last) (λ arc. event.Resumed arc.border first last)
    (arc_between (graph_of setup) from to) w is refl (λ _ _. refl) (λ _ _. tt) tt (λ _ _. refl)
range-work setup _ w is = absurd (cc)

joined-work : (o : Option Arc) (f : Arc → PartWork) → is_some o ≡ true → option_map f o ≡ None → ⊥
joined-work None f known none = cc
joined-work (Some arc) f known none = cc

-- a command over a range whose border is known has some
pub known-work : (graph : Graph) (given : Command) → IsOverRange given → border_is_known graph given ≡ true → range_work graph given ≡ None → ⊥
known-work graph (command.Offer from to first last lots) range known none = joined-work (arc_between graph from to) _ known none
known-work graph (command.Request from to first last lots) range known none = joined-work (arc_between graph from to) _ known none
known-work graph (command.Halt from to first last) range known none = joined-work (arc_between graph from to) _ known none
known-work graph (command.Resume from to first last) range known none = joined-work (arc_between graph from to) _ known none
known-work graph _ range known none = range

-- ---- a command of one hour alone

module _ (setup : Setup) (hour : HourState) (caller : ℕ) (given : Command) (can : CanChange setup hour caller given) (graph : Graph) (over : graph ≡ hour.board.grid) where
  same_graph : graph ≡ graph_of setup
  same_graph = over ∙ sym can.placed.over

  module _ (w : PartWork) (works : Some w ≡ range_work graph given) where
    found : IsRangeWork setup given w
    found = range-work setup given w (ap (λ (g : Graph). range_work g given) (sym same_graph) ∙ sym works)

    -- the hour can take its part
    pub part-can : CanShare (desk_of hour false) w
    part-can = record {
      follows =
          subst (λ es. IsHourOf hour.board.grid hour.board.hour (hour.settled ++ es)) (sym (found.same hour.settled))
          (subst (λ es. IsHourOf hour.board.grid hour.board.hour (and_then es found.shared)) can.placed.unplanned.events
          (first-stands setup hour caller given can found.no_entry found.shared (sweeps all_parts (graph_of setup) (hours_concerned given) (hour.settled ++ found.shared ∷ []))
          (found.done hour.settled caller)));
      blocks = found.fits (desk_of hour false);
    }

    -- and that is what the command does
    pub part-done : part_events (desk_of hour false) w ≡ events_done all_parts setup hour.settled caller given
    part-done =
        ap (then_swept (desk_of hour false)) (found.same hour.settled)
        ∙ ap (λ g. found.shared ∷ sweep all_parts g hour.board.hour (hour.settled ++ found.shared ∷ [])) (sym can.placed.over)
        ∙ ap (λ legs. found.shared ∷ legs) (sym (append-nil (sweep all_parts (graph_of setup) hour.board.hour (hour.settled ++ found.shared ∷ []))))
        ∙ ap (λ hours. then_sweeps all_parts (graph_of setup) hours hour.settled found.shared) (sym (one-hour setup hour caller given can))
        ∙ sym (found.done hour.settled caller)

-- a command of one hour that is over no range and enters no order is one of four kinds
pub other-kinds : (setup : Setup) (hour : HourState) (caller : ℕ) (given : Command) → CanChange setup hour caller given
    → (graph : Graph) → graph ≡ hour.board.grid → None ≡ range_work graph given → ((order : Order) → given ≢ command.Enter order)
    → ((name : OrderName) → given ≢ command.Cancel name) → ((name : OrderName) (to : ℕ) → given ≢ command.Reduce name to)
    → ((gated : ℕ) (phase : Phase) → given ≢ command.Gate gated phase)
    → ((contract : Contract) (side : Side) (zone : ℕ) → given ≢ command.View contract side zone) → ⊥
other-kinds setup hour caller given can graph over none no_order no_cancel no_reduction no_gate no_view = go given refl
  where
    unknown : IsOverRange given → ⊥
    unknown range =
        known-work (graph_of setup) given range (naming-none setup caller given (early-none setup caller given can.early).naming).border
        (ap (λ (g : Graph). range_work g given) (can.placed.over ∙ sym over) ∙ sym none)

    go : (other : Command) → given ≡ other → ⊥
    go (command.Enter order) is = no_order order is
    go (command.EnterBlock order) is = no-block setup hour caller given can.placed can.early order is
    go (command.EnterBasket orders) is = no-basket setup hour caller given can.placed can.early orders is
    go (command.Blocks first last) is = no-matching setup hour caller given can.placed can.early first last is
    go (command.Cancel name) is = no_cancel name is
    go (command.Reduce name to) is = no_reduction name to is
    go (command.Gate gated phase) is = no_gate gated phase is
    go (command.View contract side zone) is = no_view contract side zone is
    go (command.Offer from to first last lots) is = unknown (subst IsOverRange (sym is) tt)
    go (command.Request from to first last lots) is = unknown (subst IsOverRange (sym is) tt)
    go (command.Halt from to first last) is = unknown (subst IsOverRange (sym is) tt)
    go (command.Resume from to first last) is = unknown (subst IsOverRange (sym is) tt)

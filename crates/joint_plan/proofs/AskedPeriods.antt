-- Desks that are asked to match the resting blocks of a period.
use Rattle.std.proofs.Common.{◌≡◌, ◌∙◌, ℕ, ◌+◌, ◌-◌, ◌<◌, ◌≤◌, List, ◌∷◌, ◌++◌, drop, flat_map, length, length-append, map, nat_le, nat_lt, set, slice_get, take, Option, None, Some, refl, sym, ap, arith, subst}
use Rattle.std.proofs.lemmas.Bool.{and_parts, ltb-true}
use Rattle.zone_graph.specs.Graph.{Graph, border_count}
use Rattle.zone_graph.specs.Route.{IsIn}
use Rattle.block_match.specs.declared.deal.BlockDeal.{BlockDeal}
use Rattle.market_model.specs.declared.command.Command.TheVariants as command
use Rattle.market_model.specs.declared.event.Event.{Event}
use Rattle.market_model.specs.declared.refusal.Refusal.{Refusal}
use Rattle.market_model.specs.declared.reply.Reply.TheVariants as reply
use Rattle.market_model.specs.declared.setup.Setup.{Setup}
use Rattle.market_model.specs.Grid.{graph_of}
use Rattle.market_model.specs.History.{events_of, of_hour}
use Rattle.market_model.specs.Market.{reply_to}
use Rattle.market_model.specs.Sweep.{or_else}
use Rattle.laws_of_market.proofs.Admitted.{naming-none}
use Rattle.laws_of_market.proofs.Restrict.{map-same}
use Rattle.laws_of_joint_commands.specs.ByHour.{hour_events}
use Rattle.laws_of_joint_commands.specs.MatchingBlocks.{ArePeriodDeals, legs_of}
use Rattle.hour_desk.specs.Periods.{AreDealsOf}
use Rattle.hour_desk.specs.declared.part_work.PartWork.{PartWork}
use Rattle.hour_desk.specs.declared.part_work.PartWork.TheVariants as work
use Rattle.hour_desk.specs.Desk.{DeskState, planned_events, planning}
use Rattle.hour_desk.specs.Shared.{part_events, then_swept}
use Rattle.joint_plan.specs.Refusing as refusing
use Rattle.joint_plan.specs.Rooms.{AreRoomsOver, CanMatch}
use Rattle.joint_plan.specs.Rows.{AreAsked, IsHistoryOf, hours_of, planning_all}
use Rattle.joint_plan.specs.Works.{CanPlanPart, events_over, swept, with_part}
use Rattle.joint_plan.proofs.Asked.{asked-hours, ready-history, ready-is, ready-over, ready-part}
use Rattle.joint_plan.proofs.Histories.{early-naming}
use Rattle.joint_plan.proofs.Lists.{IsIn-get, IsIn-rest, drop-front, first-rest, first-set, rest-set}
use Rattle.joint_plan.proofs.OverPeriods.{first-hour, is-period, matching-can, matching-part, matching-reply, other-hours}
use Rattle.joint_plan.proofs.Touched.{asked-some}

-- nothing but a closed hour refuses a command of blocks by the state
pub closed-alone : (o : Option Refusal) (desks : List DeskState) → o ≡ refusing.closed_refusal desks → or_else (refusing.closed_refusal desks) (λ _. None) ≡ o
closed-alone o desks is = ap (λ (p : Option Refusal). or_else p (λ _. None)) (sym is) ∙ again o
  where
    again : (p : Option Refusal) → or_else p (λ _. None) ≡ p
    again None = refl
    again (Some broken) = refl

module _ (setup : Setup) (graph : Graph) (caller first last : ℕ) (desks : List DeskState) (asked : AreAsked setup graph caller (command.Blocks first last) desks) where
  pub period-some : 0 < length desks
  period-some = asked-some setup graph caller (command.Blocks first last) desks asked tt

  period-up : first ≤ last
  period-up =
      let good = (naming-none setup caller (command.Blocks first last) (early-naming setup caller (command.Blocks first last) asked.early)).period in
      let less = ltb-true first last (and_parts (nat_lt first last) (nat_le (last + 1 - first) 24) good).0 in omega arith

  module _ (desk : DeskState) (at : slice_get desks 0 ≡ Some desk) where
    are : desks ≡ desk ∷ drop 1 desks
    are = first-rest desks desk at

    pub period-here : desk.hour ≡ first
    period-here = first-hour desk (drop 1 desks) first last (sym (ap (λ ds. hours_of ds) are) ∙ asked-hours setup graph caller (command.Blocks first last) desks asked)

    module _ (rooms : List (ℕ × ℕ)) (rooms_are : AreRoomsOver graph desks rooms) where
      own-rooms : AreRoomsOver (graph_of setup) desks rooms
      own-rooms = subst (λ (g : Graph). AreRoomsOver g desks rooms) (sym asked.ready.over_setup) rooms_are

      -- the first desk can find the deals
      pub period-can : CanMatch graph last rooms desk
      period-can = record {
        over = sym (asked.ready.over desk (IsIn-get desks 0 desk at));
        numbers = asked.ready.numbers desk (IsIn-get desks 0 desk at);
        size = rooms_are.size ∙ ap border_count (sym (asked.ready.over desk (IsIn-get desks 0 desk at)));
        period = (
          setup,
          ready-history setup graph desks asked.ready,
          is-period setup (ready-history setup graph desks asked.ready) desks (ready-is setup graph desks asked.ready) first last
              (asked-hours setup graph caller (command.Blocks first last) desks asked) (ready-over setup graph desks asked.ready) period-up desk (drop 1 desks) are rooms own-rooms,
        );
      }

      -- what it finds are the deals of the period after every history
      pub period-deals : (deals : List BlockDeal) → AreDealsOf desk.grid desk.hour last desk.settled rooms deals → (history : List Event) → IsHistoryOf setup desks history
          → ArePeriodDeals (graph_of setup) first last (hour_events history) deals
      period-deals deals found history is =
          subst (λ (hour : ℕ). ArePeriodDeals (graph_of setup) hour last (hour_events history) deals) period-here
          (found setup history (is-period setup history desks is first last
          (asked-hours setup graph caller (command.Blocks first last) desks asked) (ready-over setup graph desks asked.ready) period-up desk (drop 1 desks) are rooms own-rooms))

    module _ (free : None ≡ refusing.closed_refusal desks) (deals : List BlockDeal)
        (found : (history : List Event) → IsHistoryOf setup desks history → ArePeriodDeals (graph_of setup) first last (hour_events history) deals)
        (row : List DeskState) (done : row ≡ set desks 0 (planning desk (then_swept desk (legs_of desk.hour last deals)))) where
      abbrev given : PartWork
      given = work.Block first last None deals

      own-free : refusing.state_refusal (graph_of setup) (command.Blocks first last) desks ≡ None
      own-free = closed-alone None desks free

      -- the first desk plans its part
      pub period-row : row ≡ set desks 0 (with_part given desk)
      period-row = done ∙ ap (λ hour. set desks 0 (planning desk (then_swept desk (legs_of hour last deals)))) period-here

      pub period-can_plan : (other : DeskState) → IsIn other (drop 1 row) → CanPlanPart graph given other
      period-can_plan other i =
          let there = subst (IsIn other) (rest-set desks row (with_part given desk) period-row) i in
          ready-part setup graph desks asked.ready given other (IsIn-rest desks other there)
          (matching-can setup (ready-history setup graph desks asked.ready) desks caller first last (ready-is setup graph desks asked.ready) asked.early
          (asked-hours setup graph caller (command.Blocks first last) desks asked) (ready-over setup graph desks asked.ready) own-free deals
          (found (ready-history setup graph desks asked.ready) (ready-is setup graph desks asked.ready)) period-up other (IsIn-rest desks other there)
          (other-hours desk (drop 1 desks) first last (sym (ap (λ ds. hours_of ds) are) ∙ asked-hours setup graph caller (command.Blocks first last) desks asked) other there))

      -- what it plans are its events
      pub period-planned_first : planned_events (with_part given desk) ≡ part_events desk given
      period-planned_first = drop-front desk.settled (part_events desk given) (length desk.settled) refl

      -- the legs are some of them
      pub period-legs : (planned : List Event) → planned ≡ part_events desk given → length (legs_of first last deals) ≤ length planned
      period-legs planned is =
          let long = ap length is in
          let both = length-append (legs_of first last deals) (swept given desk) in
          omega (arith, long, both)

      -- all events are those over the desks
      pub period-events : (planned events : List Event) → planned ≡ part_events desk given → events ≡ planned ++ flat_map (swept given) (drop 1 row) → events ≡ events_over given desks
      period-events planned events is all =
          all ∙ ap (λ es. es ++ flat_map (swept given) (drop 1 row)) is
          ∙ ap (λ ds. part_events desk given ++ flat_map (swept given) ds) (rest-set desks row (with_part given desk) period-row)
          ∙ sym (ap (λ ds. events_over given ds) are)

      pub period-reply : (events : List Event) → events ≡ events_over given desks → (history : List Event) → IsHistoryOf setup desks history
          → reply.Done events ≡ reply_to setup history caller (command.Blocks first last)
      period-reply events all history is =
          ap reply.Done all
          ∙ sym (matching-reply setup history desks caller first last is asked.early (asked-hours setup graph caller (command.Blocks first last) desks asked)
          (ready-over setup graph desks asked.ready) own-free deals (found history is) period-up period-some)

      pub period-planned : (after : List DeskState) (events : List Event) → events ≡ events_over given desks → after ≡ take 1 row ++ map (with_part given) (drop 1 row) → after ≡ planning_all desks events
      period-planned after events all planned =
          let history = ready-history setup graph desks asked.ready in
          let is = ready-is setup graph desks asked.ready in
          planned ∙ first-set (with_part given) desks row desk at period-row
          ∙ map-same (with_part given) (λ other. planning other (of_hour other.hour events)) desks (λ other i.
          ap (planning other)
          (sym (matching-part setup history desks caller first last is asked.early (asked-hours setup graph caller (command.Blocks first last) desks asked)
          (ready-over setup graph desks asked.ready) own-free deals (found history is) period-up other i)
          ∙ ap (λ r. of_hour other.hour (events_of r)) (sym (period-reply events all history is))))

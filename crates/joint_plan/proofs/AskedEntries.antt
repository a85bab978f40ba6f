-- Desks that are asked for a block that enters.
use Rattle.std.proofs.Common.{◌≡◌, ◌∙◌, ℕ, ◌<◌, ◌≤◌, List, ◌∷◌, ◌++◌, drop, flat_map, length, map, Option, None, Some, sym, ap, slice_get, subst}
use Rattle.std.specs.Option.{option_to_list}
use Rattle.std.proofs.lemmas.Bool.{le-ltb, lt-ltb}
use Rattle.order_kinds.specs.declared.order.BlockOrder.{BlockOrder}
use Rattle.order_kinds.specs.Period.{hours_from}
use Rattle.zone_graph.specs.Graph.{Graph, HasZone}
use Rattle.zone_graph.specs.Route.{IsIn}
use Rattle.laws_of_books.specs.BlocksOf.{blocks_of}
use Rattle.block_match.specs.declared.deal.BlockDeal.{BlockDeal}
use Rattle.block_match.specs.Meeting.{HaveZones}
use Rattle.market_model.specs.declared.command.Command.TheVariants as command
use Rattle.market_model.specs.declared.event.Event.{Event}
use Rattle.market_model.specs.declared.refusal.Refusal.{Refusal}
use Rattle.market_model.specs.declared.refusal.Refusal.TheVariants as refusal
use Rattle.market_model.specs.declared.reply.Reply.TheVariants as reply
use Rattle.market_model.specs.declared.setup.Setup.{Setup}
use Rattle.market_model.specs.Grid.{graph_of}
use Rattle.market_model.specs.History.{events_of, of_hour}
use Rattle.market_model.specs.Market.{reply_to}
use Rattle.market_model.specs.Orders.{open_names}
use Rattle.market_model.specs.Refusals.{desk_room}
use Rattle.market_model.specs.Rules.{unless}
use Rattle.laws_of_market.proofs.Restrict.{map-same}
use Rattle.laws_of_joint_commands.specs.ByHour.{hour_events}
use Rattle.laws_of_joint_commands.specs.EnteringBlocks.{deal_found}
use Rattle.hour_desk.specs.declared.part_work.PartWork.{PartWork}
use Rattle.hour_desk.specs.Desk.{DeskState, planning}
use Rattle.hour_desk.specs.Shared.{part_events}
use Rattle.joint_plan.specs.Entering.{CanSeek, deal_within, first_work, full_refusal, other_work}
use Rattle.joint_plan.specs.Refusing as refusing
use Rattle.joint_plan.specs.Rooms.{AreRoomsOver}
use Rattle.joint_plan.specs.Rows.{AreAsked, AreOver, IsHistoryOf, hours_of, planning_all}
use Rattle.joint_plan.specs.Works.{CanPlanPart, swept, with_part}
use Rattle.joint_plan.proofs.Asked.{asked-hours, ready-history, ready-is, ready-over, ready-part}
use Rattle.joint_plan.proofs.AskedPeriods.{closed-alone}
use Rattle.joint_plan.proofs.Lists.{IsIn-get, IsIn-rest, first-rest}
use Rattle.joint_plan.proofs.OverEntries.{book-zones, closes-both, deal-same, entry-first_can, entry-first_part, entry-other_can, entry-other_part, entry-reply, full-refused, order-zone, rooms-fit, takes-or-rests}
use Rattle.joint_plan.proofs.Touched.{asked-some}

-- a desk with few orders and blocks open has room, and a full one has none
pub has-room : (deal : Option BlockDeal) (desk : DeskState) (open_count : ℕ) → deal ≡ None → open_count ≡ length (open_names desk.settled desk.hour) → open_count < 4096
    → None ≡ full_refusal deal desk
has-room deal desk open_count none counted few =
    sym (ap (λ o. full_refusal o desk) none
    ∙ ap (λ b. unless b refusal.DeskFull) (lt-ltb (length (open_names desk.settled desk.hour)) desk_room (subst (λ n. n < 4096) counted few)))

pub has-none : (deal : Option BlockDeal) (desk : DeskState) (open_count : ℕ) → deal ≡ None → open_count ≡ length (open_names desk.settled desk.hour) → 4096 ≤ open_count
    → Some refusal.DeskFull ≡ full_refusal deal desk
has-none deal desk open_count none counted many =
    sym (ap (λ o. full_refusal o desk) none
    ∙ ap (λ b. unless b refusal.DeskFull) (le-ltb (length (open_names desk.settled desk.hour)) desk_room (subst (λ n. 4096 ≤ n) counted many)))

module _ (setup : Setup) (graph : Graph) (caller : ℕ) (order : BlockOrder) (desks : List DeskState) (asked : AreAsked setup graph caller (command.EnterBlock order) desks) where
  pub entry-some : 0 < length desks
  entry-some = asked-some setup graph caller (command.EnterBlock order) desks asked tt

  module _ (desk : DeskState) (at : slice_get desks 0 ≡ Some desk) where
    abbrev rest : List DeskState
    rest = drop 1 desks

    split : desks ≡ desk ∷ rest
    split = first-rest desks desk at

    own-is : (history : List Event) → IsHistoryOf setup desks history → IsHistoryOf setup (desk ∷ rest) history
    own-is history is = subst (λ (ds : List DeskState). IsHistoryOf setup ds history) split is

    own-hours : hours_of (desk ∷ rest) ≡ hours_from order.first order.last
    own-hours = sym (ap (λ ds. hours_of ds) split) ∙ asked-hours setup graph caller (command.EnterBlock order) desks asked

    own-over : AreOver (graph_of setup) (desk ∷ rest)
    own-over = subst (λ (ds : List DeskState). AreOver (graph_of setup) ds) split (ready-over setup graph desks asked.ready)

    some-is : IsHistoryOf setup (desk ∷ rest) (ready-history setup graph desks asked.ready)
    some-is = own-is (ready-history setup graph desks asked.ready) (ready-is setup graph desks asked.ready)

    module _ (rooms : List (ℕ × ℕ)) (rooms_are : AreRoomsOver graph desks rooms) where
      own-rooms : AreRoomsOver (graph_of setup) (desk ∷ rest) rooms
      own-rooms =
          subst (λ (ds : List DeskState). AreRoomsOver (graph_of setup) ds rooms) split
          (subst (λ (g : Graph). AreRoomsOver g desks rooms) (sym asked.ready.over_setup) rooms_are)

      -- the first desk can seek a deal
      pub entry-seek : CanSeek graph rooms order desk
      entry-seek = record {
        unplanned = asked.unplanned desk (IsIn-get desks 0 desk at);
        numbers = asked.ready.numbers desk (IsIn-get desks 0 desk at);
        zone = subst (λ (g : Graph). HasZone g order.zone) asked.ready.over_setup
            (order-zone setup (ready-history setup graph desks asked.ready) caller order desk rest some-is asked.early own-hours own-over);
        zones = subst (λ (g : Graph). HaveZones g (blocks_of desk.settled desk.hour)) asked.ready.over_setup
            (book-zones setup (ready-history setup graph desks asked.ready) caller order desk rest some-is asked.early own-hours own-over);
        size = rooms_are.size;
        fit = rooms-fit graph desks rooms rooms_are;
      }

      module _ (deal : Option BlockDeal) (within : deal ≡ deal_within graph rooms caller order desk) (free : None ≡ refusing.closed_refusal desks) where
        -- it is that of the market
        found : (history : List Event) → IsHistoryOf setup desks history → deal_found (graph_of setup) (hour_events history) caller order ≡ deal
        found history is =
            sym (deal-same setup history caller order desk rest (own-is history is) asked.early own-hours own-over rooms own-rooms)
            ∙ ap (λ (g : Graph). deal_within g rooms caller order desk) asked.ready.over_setup ∙ sym within

        own-free : refusing.state_refusal (graph_of setup) (command.EnterBlock order) (desk ∷ rest) ≡ None
        own-free = subst (λ (ds : List DeskState). refusing.state_refusal (graph_of setup) (command.EnterBlock order) ds ≡ None) split (closed-alone None desks free)

        -- a block without room is refused
        pub entry-full : (broken : Refusal) → Some broken ≡ full_refusal deal desk → (history : List Event) → IsHistoryOf setup desks history
            → reply.Refused broken ≡ reply_to setup history caller (command.EnterBlock order)
        entry-full broken full history is =
            sym (full-refused setup history caller order desk rest (own-is history is) asked.early own-hours own-over deal (found history is) own-free broken (sym full))

        module _ (room : None ≡ full_refusal deal desk) where
          abbrev first : PartWork
          first = first_work caller order (option_to_list deal)

          abbrev other : PartWork
          other = other_work order (option_to_list deal)

          pub entry-can_first : CanPlanPart graph first desk
          entry-can_first =
              ready-part setup graph desks asked.ready first desk (IsIn-get desks 0 desk at)
              (entry-first_can setup (ready-history setup graph desks asked.ready) caller order desk rest some-is asked.early own-hours own-over deal
              (found (ready-history setup graph desks asked.ready) (ready-is setup graph desks asked.ready)) own-free (sym room)
              (takes-or-rests setup (ready-history setup graph desks asked.ready) caller order desk rest some-is asked.early own-hours own-over graph rooms deal within (sym room))
              (closes-both setup (ready-history setup graph desks asked.ready) caller order desk rest some-is asked.early own-hours own-over deal
              (found (ready-history setup graph desks asked.ready) (ready-is setup graph desks asked.ready))))

          pub entry-can_others : (d : DeskState) → IsIn d (drop 1 desks) → CanPlanPart graph other d
          entry-can_others d i =
              ready-part setup graph desks asked.ready other d (IsIn-rest desks d i)
              (entry-other_can setup (ready-history setup graph desks asked.ready) caller order desk rest some-is asked.early own-hours own-over deal
              (found (ready-history setup graph desks asked.ready) (ready-is setup graph desks asked.ready)) own-free (sym room) d i)

          pub entry-done : (events : List Event) → events ≡ part_events desk first ++ flat_map (swept other) (drop 1 desks) → (history : List Event) → IsHistoryOf setup desks history
              → reply.Done events ≡ reply_to setup history caller (command.EnterBlock order)
          entry-done events all history is =
              ap reply.Done all
              ∙ sym (entry-reply setup history caller order desk rest (own-is history is) asked.early own-hours own-over deal (found history is) own-free (sym room))

          -- each hour plans what the reply has of it
          pub entry-planned : (events : List Event) → events ≡ part_events desk first ++ flat_map (swept other) (drop 1 desks) → (after : List DeskState)
              → after ≡ with_part first desk ∷ map (with_part other) (drop 1 desks) → after ≡ planning_all desks events
          entry-planned events all after planned =
              let history = ready-history setup graph desks asked.ready in
              let is = ready-is setup graph desks asked.ready in
              let told = entry-done events all history is in
              planned
              ∙ ap (λ d. d ∷ map (with_part other) rest)
              (ap (planning desk)
              (sym (entry-first_part setup history caller order desk rest some-is asked.early own-hours own-over deal (found history is) own-free (sym room))
              ∙ ap (λ r. of_hour desk.hour (events_of r)) (sym told)))
              ∙ ap (λ ds. planning desk (of_hour desk.hour events) ∷ ds)
              (map-same (with_part other) (λ (d : DeskState). planning d (of_hour d.hour events)) rest (λ d i.
              ap (planning d)
              (sym (entry-other_part setup history caller order desk rest some-is asked.early own-hours own-over deal (found history is) own-free (sym room) d i)
              ∙ ap (λ r. of_hour d.hour (events_of r)) (sym told))))
              ∙ sym (ap (λ ds. planning_all ds events) split)

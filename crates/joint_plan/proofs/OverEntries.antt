-- A block that enters, desk by desk.
use Rattle.std.proofs.Common.{◌≡◌, ◌∙◌, inl, inr, ℕ, ◌+◌, ◌-◌, ◌≤◌, ◌==◌, Bool, true, false, List, [], ◌∷◌, ◌++◌, flat_map, length, nat_eq, nat_le, nat_lt, Option, None, Some, refl, sym, ap, append_assoc, arith, if◌then◌else◌, subst}
use Rattle.std.specs.Option.{option_to_list}
use Rattle.std.proofs.lemmas.Bool.{and_parts, eq-eqb, eqb-true, ltb-true}
use Rattle.std.proofs.lemmas.List.{append-nil}
use Rattle.order_kinds.specs.declared.order.BlockOrder.{BlockOrder}
use Rattle.order_kinds.specs.Period.{hours_from, is_within}
use Rattle.zone_graph.specs.Graph.{Graph, HasZone}
use Rattle.zone_graph.specs.Pour.{opposite_arc}
use Rattle.zone_graph.specs.Rooms.{room_of}
use Rattle.zone_graph.specs.Route.{IsIn}
use Rattle.cut_proof.specs.Carrying.{FitTogether}
use Rattle.block_book.specs.declared.block.RestingBlock.{RestingBlock}
use Rattle.laws_of_books.specs.BlocksOf.{blocks_of, entered_resting_block}
use Rattle.laws_of_books.proofs.MarketBooks.{from-book}
use Rattle.laws_of_books.proofs.WholeBlockBooks.{hour-book}
use Rattle.block_match.specs.declared.deal.BlockDeal.{BlockDeal}
use Rattle.block_match.specs.Deals.{deal_of_block, deal_with, partner_of}
use Rattle.block_match.specs.Market.{deal_events}
use Rattle.block_match.specs.Meeting.{HaveZones}
use Rattle.market_model.specs.declared.command.Command.TheVariants as command
use Rattle.market_model.specs.declared.event.Event.{Event}
use Rattle.market_model.specs.declared.refusal.Refusal.{Refusal}
use Rattle.market_model.specs.declared.refusal.Refusal.TheVariants as refusal
use Rattle.market_model.specs.declared.reply.Reply.TheVariants as reply
use Rattle.market_model.specs.declared.setup.Setup.{Setup}
use Rattle.market_model.specs.Grid.{graph_of}
use Rattle.market_model.specs.History.{events_of, of_hour}
use Rattle.market_model.specs.Market.{reply_to}
use Rattle.market_model.specs.Orders.{next_name, open_names}
use Rattle.market_model.specs.Refusals.{block_desk_refusal, desk_room, refusal_of_command}
use Rattle.market_model.specs.Rules.{early_refusal, unless}
use Rattle.market_model.specs.Sweep.{all_parts, or_else, sweep}
use Rattle.market_model.specs.WellFormed.{BlockEnters}
use Rattle.laws_of_market.proofs.Placed.{all_are_sound}
use Rattle.laws_of_market.proofs.Repeats.{map-some}
use Rattle.laws_of_boards.proofs.Admitting as admitting
use Rattle.laws_of_joint_commands.specs.ByHour.{hour_events}
use Rattle.laws_of_joint_commands.specs.EnteringBlocks.{AreClosed, block_entry, deal_found, events_of_deal, has_of_entry, legs_found, refused_at_desk, swept_after_entry}
use Rattle.laws_of_joint_commands.specs.MatchingBlocks.{legs_of}
use Rattle.laws_of_joint_commands.specs.PeriodRooms.{period_room}
use Rattle.laws_of_joint_commands.proofs.EnteredBlocks.{close_both, enter_by_hour, enter_of_hour, room_in_first}
use Rattle.laws_of_joint_commands.proofs.SweptHours.{flat_map-same}
use Rattle.hour_desk.specs.Plans.{CloseInTurn}
use Rattle.hour_desk.specs.declared.part_work.BlockEntry.{BlockEntry}
use Rattle.hour_desk.specs.declared.part_work.PartWork.{PartWork}
use Rattle.hour_desk.specs.Desk.{DeskState}
use Rattle.hour_desk.specs.Shared.{CanShare, EntersFirst, TakesOrRests, part_events, shared_events}
use Rattle.joint_plan.specs.Entering.{deal_within, entering_block, first_work, full_refusal, other_work}
use Rattle.joint_plan.specs.Refusing as refusing
use Rattle.joint_plan.specs.Rooms.{AreRoomsOver}
use Rattle.joint_plan.specs.Rows.{AreOver, IsHistoryOf, hours_of}
use Rattle.joint_plan.specs.Works.{swept}
use Rattle.joint_plan.proofs.Entered.{entering-record, entering-room}
use Rattle.joint_plan.proofs.Histories.{follows, refused}
use Rattle.joint_plan.proofs.OverPeriods.{desk-within, first-hour, other-hours, room-of-period}
use Rattle.joint_plan.proofs.OverRanges.{joint-let_in}
use Rattle.joint_plan.proofs.SameRooms.{deal-rooms}

flat_map-hours : {Y : Type 0} (f : ℕ → List Y) (desks : List DeskState) → flat_map f (hours_of desks) ≡ flat_map (λ desk. f desk.hour) desks
flat_map-hours f [] = refl
flat_map-hours f (desk ∷ desks) = ap (λ l. f desk.hour ++ l) (flat_map-hours f desks)

-- a number that is not another
apart : (a b : ℕ) → ¬ (a ≡ b) → (a == b) ≡ false
apart a b differ = go (nat_eq a b) refl
  where
    go : (t : Bool) → nat_eq a b ≡ t → nat_eq a b ≡ false
    go true is = absurd (differ (eqb-true a b is))
    go false is = is

-- the legs of a deal, if there is one
pub legs-one : (first last : ℕ) (deal : Option BlockDeal) → events_of_deal first last deal ≡ legs_of first last (option_to_list deal)
legs-one first last None = refl
legs-one first last (Some deal) = sym (append-nil (deal_events first last deal))

module _ (setup : Setup) (history : List Event) (caller : ℕ) (order : BlockOrder) (desk : DeskState) (rest : List DeskState) (is : IsHistoryOf setup (desk ∷ rest) history)
    (early : early_refusal setup caller (command.EnterBlock order) ≡ None) (hours : hours_of (desk ∷ rest) ≡ hours_from order.first order.last)
    (over : AreOver (graph_of setup) (desk ∷ rest)) where
  abbrev desks : List DeskState
  desks = desk ∷ rest

  abbrev first : ℕ
  first = order.first

  abbrev last : ℕ
  last = order.last

  abbrev events : List Event
  events = of_hour order.first history

  here : desk.hour ≡ order.first
  here = first-hour desk rest order.first order.last hours

  settled : events ≡ desk.settled
  settled = ap (λ hour. of_hour hour history) (sym here) ∙ is.left desk (inl refl)

  may : BlockEnters setup history (next_name history order.first) caller order
  may = admitting.blocks setup history caller order early

  up : order.first ≤ order.last
  up = let less = ltb-true order.first order.last (and_parts (nat_lt order.first order.last) (nat_le (order.last + 1 - order.first) 24) may.of_period).0 in omega arith

  -- the zones of the blocks of its first hour are known
  pub book-zones : HaveZones (graph_of setup) (blocks_of desk.settled desk.hour)
  book-zones block i =
      let in_book : IsIn block (blocks_of history order.first) =
      subst (IsIn block) (ap (λ (es : List Event). blocks_of es desk.hour) (sym settled) ∙ ap (λ hour. blocks_of events hour) here ∙ hour-book setup history is.is_history.fit order.first) i in
      let there = from-book setup history is.is_history.fit order.first block in_book in
      let sound = (all_are_sound setup history is.is_history.fit).blocks there.block there.is_placed in
      subst (HasZone (graph_of setup)) (sym (ap (λ (r : RestingBlock). r.zone) there.is)) sound.in_zone

  pub order-zone : HasZone (graph_of setup) order.zone
  order-zone = may.in_zone

  module _ (rooms : List (ℕ × ℕ)) (rooms_are : AreRoomsOver (graph_of setup) (desk ∷ rest) rooms) where
    -- the deal that is found on the desk is that of the market
    pub deal-same : deal_within (graph_of setup) rooms caller order desk ≡ deal_found (graph_of setup) (hour_events history) caller order
    deal-same =
        deal-rooms (graph_of setup) is.is_setup (room_of rooms) (period_room (hour_events history) order.first order.last) (blocks_of desk.settled desk.hour) (entering_block desk caller order)
        (λ arc has. rooms_are.are arc has ∙ room-of-period setup history desks is order.first order.last hours arc)
        ∙ ap (λ (es : List Event). of_events es desk.hour) (sym settled)
        ∙ ap (λ hour. of_events events hour) here
        ∙ ap (deal_of_block (graph_of setup) (period_room (hour_events history) order.first order.last) (blocks_of events order.first))
        (sym (entering-record setup history is.is_history.fit caller order may up))
      where
        of_events : List Event → ℕ → Option BlockDeal
        of_events es hour =
            deal_of_block (graph_of setup) (period_room (hour_events history) order.first order.last) (blocks_of es hour)
            (entered_resting_block (next_name es hour) caller order (length es + 1))

  -- whether there is room is told by the desk
  room-told : (deal : Option BlockDeal) → refused_at_desk events caller order deal ≡ full_refusal deal desk
  room-told None =
      ap (λ b. unless b refusal.DeskFull) (entering-room setup history is.is_history.fit caller order may up)
      ∙ ap (λ (es : List Event). unless (nat_lt (length (open_names es order.first)) desk_room) refusal.DeskFull) settled
      ∙ ap (λ hour. unless (nat_lt (length (open_names desk.settled hour)) desk_room) refusal.DeskFull) (sym here)
  room-told (Some deal) = refl

  module _ (deal : Option BlockDeal) (found : deal_found (graph_of setup) (hour_events history) caller order ≡ deal)
      (free : refusing.state_refusal (graph_of setup) (command.EnterBlock order) (desk ∷ rest) ≡ None) where
    full-told : block_desk_refusal (graph_of setup) history caller order ≡ full_refusal deal desk
    full-told =
        room_in_first setup history caller order is.is_setup is.is_history early ∙ ap (refused_at_desk events caller order) found ∙ room-told deal

    let_in : (o : Option Refusal) → full_refusal deal desk ≡ o → refusal_of_command setup history caller (command.EnterBlock order) ≡ o
    let_in o full =
        joint-let_in setup history desks caller (command.EnterBlock order) is early hours tt free
        ∙ ap (λ (p : Option Refusal). or_else p (λ _. None)) (full-told ∙ full) ∙ again o
      where
        again : (p : Option Refusal) → or_else p (λ _. None) ≡ p
        again None = refl
        again (Some broken) = refl

    -- a block without room is refused
    pub full-refused : (broken : Refusal) → full_refusal deal desk ≡ Some broken → reply_to setup history caller (command.EnterBlock order) ≡ reply.Refused broken
    full-refused broken full = refused setup history caller (command.EnterBlock order) broken (let_in (Some broken) full)

    module _ (room : full_refusal deal desk ≡ None) where
      abbrev deals : List BlockDeal
      deals = option_to_list deal

      abbrev legs : List Event
      legs = legs_of order.first order.last (option_to_list deal)

      unrefused : refusal_of_command setup history caller (command.EnterBlock order) ≡ None
      unrefused = let_in None room

      legs-are : legs_found (graph_of setup) (hour_events history) caller order ≡ legs
      legs-are = ap (events_of_deal order.first order.last) found ∙ legs-one order.first order.last deal

      entry-is : block_entry events caller order ≡ block_entry desk.settled caller order
      entry-is = ap (λ (es : List Event). block_entry es caller order) settled

      -- what the first hour has of the entry
      first-has : has_of_entry (graph_of setup) history caller order desk.hour ≡ shared_events desk.settled (first_work caller order deals)
      first-has =
          ap (λ b. if b then (if order.first == desk.hour then block_entry events caller order ∷ found_legs else found_legs) else []) (desk-within desks order.first order.last hours desk (inl refl))
          ∙ ap (λ b. if b then block_entry events caller order ∷ found_legs else found_legs) (eq-eqb order.first desk.hour (sym here))
          ∙ ap (λ e. e ∷ found_legs) entry-is ∙ ap (λ es. block_entry desk.settled caller order ∷ es) legs-are
        where
          found_legs : List Event
          found_legs = legs_found (graph_of setup) (hour_events history) caller order

      -- and what each other one has
      other-has : (other : DeskState) → IsIn other rest → has_of_entry (graph_of setup) history caller order other.hour ≡ shared_events other.settled (other_work order deals)
      other-has other i =
          ap (λ b. if b then (if order.first == other.hour then block_entry events caller order ∷ found_legs else found_legs) else []) (desk-within desks order.first order.last hours other (inr i))
          ∙ ap (λ b. if b then block_entry events caller order ∷ found_legs else found_legs) (apart order.first other.hour (other-hours desk rest order.first order.last hours other i))
          ∙ legs-are
        where
          found_legs : List Event
          found_legs = legs_found (graph_of setup) (hour_events history) caller order

      swept-is : (w : PartWork) (d : DeskState) → IsIn d (desk ∷ rest) → has_of_entry (graph_of setup) history caller order d.hour ≡ shared_events d.settled w
          → swept_after_entry all_parts (graph_of setup) history caller order d.hour ≡ swept w d
      swept-is w d i has =
          ap (λ (es : List Event). sweep all_parts (graph_of setup) d.hour (es ++ has_of_entry (graph_of setup) history caller order d.hour)) (is.left d i)
          ∙ ap (λ es. sweep all_parts (graph_of setup) d.hour (d.settled ++ es)) has
          ∙ ap (λ (graph : Graph). sweep all_parts graph d.hour (d.settled ++ shared_events d.settled w)) (sym (over d i))

      -- the reply is the entry and the legs once, and then the sweep of each hour
      pub entry-reply : reply_to setup history caller (command.EnterBlock order)
          ≡ reply.Done (part_events desk (first_work caller order deals) ++ flat_map (swept (other_work order deals)) rest)
      entry-reply =
          enter_by_hour setup all_parts history caller order is.is_setup is.is_history unrefused
          ∙ ap (λ hs. reply.Done (done ++ flat_map after hs)) (sym hours)
          ∙ ap (λ es. reply.Done (done ++ es)) (flat_map-hours after desks)
          ∙ ap (λ es. reply.Done (done ++ (es ++ flat_map (λ (d : DeskState). after d.hour) rest))) (swept-is (first_work caller order deals) desk (inl refl) first-has)
          ∙ ap (λ es. reply.Done (done ++ (swept (first_work caller order deals) desk ++ es)))
          (flat_map-same (λ (d : DeskState). after d.hour) (swept (other_work order deals)) rest (λ other i. swept-is (other_work order deals) other (inr i) (other-has other i)))
          ∙ ap reply.Done (sym (append_assoc done (swept (first_work caller order deals) desk) (flat_map (swept (other_work order deals)) rest)))
          ∙ ap (λ es. reply.Done ((es ++ swept (first_work caller order deals) desk) ++ flat_map (swept (other_work order deals)) rest))
          (ap (λ e. e ∷ legs_found (graph_of setup) (hour_events history) caller order) entry-is ∙ ap (λ es. block_entry desk.settled caller order ∷ es) legs-are)
        where
          done : List Event
          done = block_entry events caller order ∷ legs_found (graph_of setup) (hour_events history) caller order

          after : ℕ → List Event
          after hour = swept_after_entry all_parts (graph_of setup) history caller order hour

      part-is : (w : PartWork) (d : DeskState) → IsIn d (desk ∷ rest) → has_of_entry (graph_of setup) history caller order d.hour ≡ shared_events d.settled w
          → of_hour d.hour (events_of (reply_to setup history caller (command.EnterBlock order))) ≡ part_events d w
      part-is w d i has =
          enter_of_hour setup all_parts history caller order d.hour is.is_setup is.is_history unrefused
          ∙ ap (λ b. if b then has_of_entry (graph_of setup) history caller order d.hour ++ swept_after_entry all_parts (graph_of setup) history caller order d.hour else [])
          (desk-within desks order.first order.last hours d i)
          ∙ ap (λ es. es ++ swept_after_entry all_parts (graph_of setup) history caller order d.hour) has
          ∙ ap (λ es. shared_events d.settled w ++ es) (swept-is w d i has)

      -- each hour has its part of it
      pub entry-first_part : of_hour desk.hour (events_of (reply_to setup history caller (command.EnterBlock order))) ≡ part_events desk (first_work caller order deals)
      entry-first_part = part-is (first_work caller order deals) desk (inl refl) first-has

      pub entry-other_part : (other : DeskState) → IsIn other rest
          → of_hour other.hour (events_of (reply_to setup history caller (command.EnterBlock order))) ≡ part_events other (other_work order deals)
      entry-other_part other i = part-is (other_work order deals) other (inr i) (other-has other i)

      -- which it can plan
      pub entry-other_can : (other : DeskState) → IsIn other rest → CanShare other (other_work order deals)
      entry-other_can other i = record {
        follows = follows setup history desks caller (command.EnterBlock order) is other (inr i) (over other (inr i)) (shared_events other.settled (other_work order deals))
            (swept (other_work order deals) other) (entry-other_part other i)
            (shared_events other.settled (other_work order deals)) [] (sym (append-nil (shared_events other.settled (other_work order deals))));
        blocks = record { enters = λ entry none. absurd (no-entry entry none); closes = λ same. absurd (other-hours desk rest order.first order.last hours other i same) };
      }
        where
          no-entry : (entry : BlockEntry) → None ≡ Some entry → ⊥
          no-entry entry none = cc

      pub entry-first_can : TakesOrRests desk.hour desk.settled deals → CloseInTurn order.first order.last (desk.settled ++ block_entry desk.settled caller order ∷ []) deals
          → CanShare desk (first_work caller order deals)
      entry-first_can trades closes = record {
        follows = follows setup history desks caller (command.EnterBlock order) is desk (inl refl) (over desk (inl refl)) (shared_events desk.settled (first_work caller order deals))
            (swept (first_work caller order deals) desk) entry-first_part
            (shared_events desk.settled (first_work caller order deals)) [] (sym (append-nil (shared_events desk.settled (first_work caller order deals))));
        blocks = record {
          enters = λ entry same. enters entry same;
          closes = λ _. closes;
        };
      }
        where
          own : EntersFirst desk order.first order.last (record { caller = caller; order = order }) deals
          own = record { here = sym here; from_hour = refl; to_hour = refl; trades = trades }

          enters : (entry : BlockEntry) → Some (record { caller = caller; order = order }) ≡ Some entry → EntersFirst desk order.first order.last entry deals
          enters entry same = let is_own : record { caller = caller; order = order } ≡ entry = cc in subst (λ (e : BlockEntry). EntersFirst desk order.first order.last e deals) is_own own

  -- a block takes in the deal that it finds, or rests
  pub takes-or-rests : (graph : Graph) (rooms : List (ℕ × ℕ)) (deal : Option BlockDeal) → deal ≡ deal_within graph rooms caller order desk → full_refusal deal desk ≡ None
      → TakesOrRests desk.hour desk.settled (option_to_list deal)
  takes-or-rests graph rooms None found room = ltb-true (length (open_names desk.settled desk.hour)) desk_room (passed (nat_lt (length (open_names desk.settled desk.hour)) desk_room) room)
    where
      passed : (b : Bool) → unless b refusal.DeskFull ≡ None → b ≡ true
      passed true none = refl
      passed false none = absurd (cc)
  takes-or-rests graph rooms (Some deal) found room =
      let partner = map-some (deal_with graph (room_of rooms) (entering_block desk caller order))
      (partner_of graph (room_of rooms) (blocks_of desk.settled desk.hour) (entering_block desk caller order)) deal (sym found) in
      sym (ap (λ (d : BlockDeal). d.taker) partner.2)

  -- and the deal closes both its blocks
  pub closes-both : (deal : Option BlockDeal) → deal_found (graph_of setup) (hour_events history) caller order ≡ deal
      → CloseInTurn order.first order.last (desk.settled ++ block_entry desk.settled caller order ∷ []) (option_to_list deal)
  closes-both None found = tt
  closes-both (Some deal) found = (subst (AreClosed order.first deal) at_end closed, tt)
    where
      closed : AreClosed order.first deal (events ++ has_of_entry (graph_of setup) history caller order order.first)
      closed = close_both setup history caller order deal is.is_setup is.is_history early found

      at_end : events ++ has_of_entry (graph_of setup) history caller order order.first
          ≡ (desk.settled ++ block_entry desk.settled caller order ∷ []) ++ deal_events order.first order.last deal
      at_end =
          ap (λ b. events ++ (if b then (if order.first == order.first then block_entry events caller order ∷ legs_found (graph_of setup) (hour_events history) caller order
          else legs_found (graph_of setup) (hour_events history) caller order) else []))
          (ap (is_within order.first order.last) (sym here) ∙ desk-within desks order.first order.last hours desk (inl refl))
          ∙ ap (λ b. events ++ (if b then block_entry events caller order ∷ legs_found (graph_of setup) (hour_events history) caller order
          else legs_found (graph_of setup) (hour_events history) caller order)) (eq-eqb order.first order.first refl)
          ∙ ap (λ o. events ++ (block_entry events caller order ∷ events_of_deal order.first order.last o)) found
          ∙ ap (λ (es : List Event). es ++ (block_entry es caller order ∷ deal_events order.first order.last deal)) settled
          ∙ sym (append_assoc desk.settled (block_entry desk.settled caller order ∷ []) (deal_events order.first order.last deal))

-- the rooms of both arcs of a border fit together
pub rooms-fit : (graph : Graph) (desks : List DeskState) (rooms : List (ℕ × ℕ)) → AreRoomsOver graph desks rooms → FitTogether graph (room_of rooms)
rooms-fit graph desks rooms are arc has =
    let one = are.most arc has in
    let back = are.most (opposite_arc arc) has in omega (arith, one, back)

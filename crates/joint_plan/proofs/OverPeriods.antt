-- Resting blocks that are matched, desk by desk.
use Rattle.std.proofs.Common.{◌≡◌, ◌∙◌, inl, ℕ, zero, suc, ◌+◌, ◌-◌, ◌<◌, ◌≤◌, true, List, [], ◌∷◌, ◌++◌, flat_map, length, map, None, Some, refl, sym, ap, append_assoc, arith, if◌then◌else◌, subst}
use Rattle.std.proofs.lemmas.List.{append-nil}
use Rattle.std.specs.List.{range_with_len}
use Rattle.order_kinds.specs.Period.{hours_from, is_within}
use Rattle.zone_graph.specs.declared.route.Arc.{Arc}
use Rattle.zone_graph.specs.Graph.{Graph, HasArc}
use Rattle.zone_graph.specs.Route.{AreDifferent, IsIn}
use Rattle.zone_graph.proofs.Membership.{IsIn-map, has-IsIn}
use Rattle.block_match.specs.declared.deal.BlockDeal.{BlockDeal}
use Rattle.market_model.specs.declared.command.Command.TheVariants as command
use Rattle.market_model.specs.declared.event.Event.{Event}
use Rattle.market_model.specs.declared.reply.Reply.TheVariants as reply
use Rattle.market_model.specs.declared.setup.Setup.{Setup}
use Rattle.market_model.specs.Blocks.{match_blocks}
use Rattle.market_model.specs.Grid.{graph_of}
use Rattle.market_model.specs.History.{events_of, of_hour}
use Rattle.market_model.specs.Market.{reply_to}
use Rattle.market_model.specs.Refusals.{refusal_of_command}
use Rattle.market_model.specs.Room.{least}
use Rattle.market_model.specs.Rules.{early_refusal}
use Rattle.market_model.specs.Sweep.{all_parts, sweep}
use Rattle.laws_of_joint_commands.specs.ByHour.{hour_events}
use Rattle.laws_of_joint_commands.specs.MatchingBlocks.{ArePeriodDeals, legs_of, swept_after_legs}
use Rattle.laws_of_joint_commands.specs.PeriodRooms.{hour_room, period_room}
use Rattle.laws_of_joint_commands.proofs.PeriodDeals.{match_by_hour, match_of_hour, match_reply}
use Rattle.laws_of_joint_commands.proofs.SharedEvents.{within-has}
use Rattle.laws_of_joint_commands.proofs.SweptHours.{ascends-different, flat_map-same, hours-ascend}
use Rattle.hour_desk.specs.Periods.{IsPeriodOf}
use Rattle.hour_desk.specs.declared.part_work.BlockEntry.{BlockEntry}
use Rattle.hour_desk.specs.declared.part_work.PartWork.{PartWork}
use Rattle.hour_desk.specs.declared.part_work.PartWork.TheVariants as work
use Rattle.hour_desk.specs.Desk.{DeskState}
use Rattle.hour_desk.specs.Shared.{CanShare, part_events}
use Rattle.joint_plan.specs.Refusing as refusing
use Rattle.joint_plan.specs.Rooms.{AreRoomsOver}
use Rattle.joint_plan.specs.Rows.{AreOver, IsHistoryOf, hours_of}
use Rattle.joint_plan.specs.Works.{events_over, swept}
use Rattle.joint_plan.proofs.Histories.{follows}
use Rattle.joint_plan.proofs.Over.{flat_map-over, map-over}
use Rattle.joint_plan.proofs.OverRanges.{joint-let_in}

-- ---- the hours of a period

-- the first desk is that of the first hour
pub first-hour : (desk : DeskState) (desks : List DeskState) (first last : ℕ) → hours_of (desk ∷ desks) ≡ hours_from first last → desk.hour ≡ first
first-hour desk desks first last hours = go (last + 1 - first) hours
  where
    go : (n : ℕ) → hours_of (desk ∷ desks) ≡ range_with_len first n → desk.hour ≡ first
    go zero is = absurd (cc)
    go (suc n) is = cc

-- and the others are of later ones
pub other-hours : (desk : DeskState) (desks : List DeskState) (first last : ℕ) → hours_of (desk ∷ desks) ≡ hours_from first last → (other : DeskState) → IsIn other desks → ¬ (first ≡ other.hour)
other-hours desk desks first last hours other i same =
    let different : AreDifferent (hours_of (desk ∷ desks)) = subst AreDifferent (sym hours) (ascends-different (hours_from first last) (hours-ascend first last)) in
    different.0 (subst (λ (hour : ℕ). IsIn hour (hours_of desks)) (sym (first-hour desk desks first last hours ∙ same)) (IsIn-map (λ (d : DeskState). d.hour) other desks i))

-- each desk is of an hour of the period
pub desk-within : (desks : List DeskState) (first last : ℕ) → hours_of desks ≡ hours_from first last → (desk : DeskState) → IsIn desk desks → is_within first last desk.hour ≡ true
desk-within desks first last hours desk i =
    within-has first last desk.hour ∙ has-IsIn desk.hour (hours_from first last) (subst (IsIn desk.hour) hours (IsIn-map (λ (d : DeskState). d.hour) desk desks i))

module _ (setup : Setup) (history : List Event) (desks : List DeskState) (is : IsHistoryOf setup desks history) (first last : ℕ) (hours : hours_of desks ≡ hours_from first last) where
  -- the least room of the desks is that of the period
  pub room-of-period : (arc : Arc) → least (map (λ desk. hour_room desk.settled desk.hour arc) desks) ≡ period_room (hour_events history) first last arc
  room-of-period arc =
      ap least (sym (map-over (hour_events history) (λ events hour. hour_room events hour arc) desks is.left)) ∙ ap (λ hs. least (map (λ hour. hour_room (hour_events history hour) hour arc) hs)) hours

  -- the first desk is that of the first hour of the period
  pub is-period : AreOver (graph_of setup) desks → first ≤ last → (desk : DeskState) (rest : List DeskState) → desks ≡ desk ∷ rest → (rooms : List (ℕ × ℕ)) → AreRoomsOver (graph_of setup) desks rooms
      → IsPeriodOf desk.grid setup history desk.hour last desk.settled rooms
  is-period over up desk rest are rooms rooms_are =
      let inside : IsIn desk desks = subst (IsIn desk) (sym are) (inl refl) in
      let here : desk.hour ≡ first = first-hour desk rest first last (sym (ap (λ ds. hours_of ds) are) ∙ hours) in
      let grid = over desk inside in record {
        is_setup = is.is_setup;
        over_grid = sym grid;
        is_history = is.is_history;
        in_hour = is.left desk inside;
        in_order = subst (λ (hour : ℕ). hour ≤ last) (sym here) up;
        has_rooms = λ arc has.
            rooms_are.are arc (subst (λ (g : Graph). HasArc g arc) grid has) ∙ room-of-period arc
            ∙ ap (λ hour. period_room (hour_events history) hour last arc) (sym here);
      }

module _ (setup : Setup) (history : List Event) (desks : List DeskState) (caller first last : ℕ) (is : IsHistoryOf setup desks history)
    (early : early_refusal setup caller (command.Blocks first last) ≡ None) (hours : hours_of desks ≡ hours_from first last) (over : AreOver (graph_of setup) desks)
    (free : refusing.state_refusal (graph_of setup) (command.Blocks first last) desks ≡ None)
    (deals : List BlockDeal) (are_deals : ArePeriodDeals (graph_of setup) first last (hour_events history) deals) (up : first ≤ last) where
  abbrev given : PartWork
  given = work.Block first last None deals

  abbrev legs : List Event
  legs = legs_of first last deals

  unrefused : refusal_of_command setup history caller (command.Blocks first last) ≡ None
  unrefused = joint-let_in setup history desks caller (command.Blocks first last) is early hours tt free

  swept-same : (desk : DeskState) → IsIn desk desks → sweep all_parts (graph_of setup) desk.hour (desk.settled ++ legs) ≡ swept given desk
  swept-same desk i = ap (λ (graph : Graph). sweep all_parts graph desk.hour (desk.settled ++ legs)) (sym (over desk i))

  told : reply_to setup history caller (command.Blocks first last) ≡ reply.Done (match_blocks all_parts (graph_of setup) first last history)
  told = (match_reply setup all_parts history caller first last unrefused).1

  done : match_blocks all_parts (graph_of setup) first last history ≡ legs ++ flat_map (swept given) desks
  done =
      match_by_hour setup all_parts history first last deals is.is_setup is.is_history up are_deals
      ∙ ap (λ hs. legs ++ flat_map (swept_after_legs all_parts (graph_of setup) history legs) hs) (sym hours)
      ∙ ap (λ es. legs ++ es)
      (flat_map-over (hour_events history) (λ events hour. sweep all_parts (graph_of setup) hour (events ++ legs)) desks is.left
      ∙ flat_map-same (λ desk. sweep all_parts (graph_of setup) desk.hour (desk.settled ++ legs)) (swept given) desks swept-same)

  over-first : (ds : List DeskState) → 0 < length ds → legs ++ flat_map (swept given) ds ≡ events_over given ds
  over-first [] some = absurd (omega arith)
  over-first (desk ∷ ds) some = sym (append_assoc legs (swept given desk) (flat_map (swept given) ds))

  -- the reply is the legs once, and then the sweep of each hour
  pub matching-reply : 0 < length desks → reply_to setup history caller (command.Blocks first last) ≡ reply.Done (events_over given desks)
  matching-reply some = told ∙ ap reply.Done (done ∙ over-first desks some)

  -- of it each hour has its part
  pub matching-part : (desk : DeskState) → IsIn desk desks → of_hour desk.hour (events_of (reply_to setup history caller (command.Blocks first last))) ≡ part_events desk given
  matching-part desk i =
      ap (λ r. of_hour desk.hour (events_of r)) told
      ∙ match_of_hour setup all_parts history first last deals desk.hour is.is_setup is.is_history up are_deals
      ∙ ap (λ b. if b then legs ++ swept_after_legs all_parts (graph_of setup) history legs desk.hour else []) (desk-within desks first last hours desk i)
      ∙ ap (λ (events : List Event). legs ++ sweep all_parts (graph_of setup) desk.hour (events ++ legs)) (is.left desk i)
      ∙ ap (λ es. legs ++ es) (swept-same desk i)

  -- which each but the first can plan
  pub matching-can : (desk : DeskState) → IsIn desk desks → ¬ (first ≡ desk.hour) → CanShare desk given
  matching-can desk i later = record {
    follows = follows setup history desks caller (command.Blocks first last) is desk i (over desk i) legs (swept given desk) (matching-part desk i) legs [] (sym (append-nil legs));
    blocks = record { enters = λ entry none. absurd (no-entry entry none); closes = λ same. absurd (later same) };
  }
    where
      no-entry : (entry : BlockEntry) → None ≡ Some entry → ⊥
      no-entry entry none = cc

-- The zones and borders that a reply names are the setup's.
use Rattle.std.proofs.Common.{inl, inr, ℕ, zero, suc, Bool, true, false, List, [], ◌∷◌, ◌++◌, filter, All, Option, Some, None, refl, if◌then◌else◌, arith}
use Rattle.std.proofs.lemmas.List.Elements.{All-cons, All-nil}
use Rattle.std.specs.List.{range_with_len}
use Rattle.std.specs.Option.{option_and_then, option_map}
use Rattle.order_kinds.specs.declared.order.Order.{Order}
use Rattle.order_kinds.specs.declared.side.Side.{Side}
use Rattle.order_kinds.specs.declared.side.Side.TheVariants.{Buy, Sell}
use Rattle.order_kinds.specs.Period.{contract_quarters, range_quarters}
use Rattle.order_kinds.specs.Phase.{is_later}
use Rattle.zone_graph.specs.declared.route.Arc.{Arc}
use Rattle.zone_graph.specs.Graph.{Graph, end_of, zone_count}
use Rattle.zone_graph.specs.Grid.{arc_between}
use Rattle.zone_graph.specs.Reach.{reaches}
use Rattle.zone_graph.specs.Route.{IsIn, IsWay}
use Rattle.zone_graph.proofs.Membership.{from_filter, from_range}
use Rattle.market_model.specs.declared.command.Command.{Command}
use Rattle.market_model.specs.declared.command.Command.TheVariants as command
use Rattle.market_model.specs.declared.event.Event.{Event}
use Rattle.market_model.specs.declared.event.Event.TheVariants as event
use Rattle.market_model.specs.declared.refusal.Refusal.{Refusal}
use Rattle.market_model.specs.declared.refusal.Refusal.TheVariants as refusal
use Rattle.market_model.specs.declared.setup.Setup.{Setup}
use Rattle.market_model.specs.Blocks.{StandingBlock, partner_found, with_block}
use Rattle.market_model.specs.Capacity.{flow}
use Rattle.market_model.specs.Certificate.{bound_of, unfilled_zones, zones_in_reach}
use Rattle.market_model.specs.Entering.{after_taking, name_of_next, rest_of}
use Rattle.market_model.specs.Grid.{graph_of}
use Rattle.market_model.specs.History.{and_then, events_of}
use Rattle.market_model.specs.Market.{reply_let_in, events_done, refused_or, reply_by}
use Rattle.market_model.specs.Naming.{HasArcs, HasBorder, HasZone, IsEventIn, IsRefusalIn, IsReplyIn}
use Rattle.market_model.specs.Orders.{next_name}
use Rattle.market_model.specs.Refusals.{basket_order_refusal, basket_refusal, below_flow, can_rest, closed_hour, desk_refusal, gate_refusal, has_desk_room, is_filled, no_room, offer_refusal, order_desk_refusal, order_is_known, reduces, refusal_of_command, request_refusal, rules, unfilled_refusal}
use Rattle.market_model.specs.Room.{lots_of, phase_of, quarter_room, room}
use Rattle.market_model.specs.Rules.{first_broken, naming_refusal, naming_rules, numbers_refusal, numbers_rules, unless}
use Rattle.market_model.specs.Sweep.{all_parts, first_answer, or_else}
use Rattle.market_model.specs.WellFormed.{FitAfter, Fits}
use Rattle.laws_of_market.proofs.Growing.{fit-back}
use Rattle.laws_of_market.proofs.Replies.{reply-history}
use Rattle.laws_of_market.specs.ReplyBounds.{RepliesNameTheSetup}
use Rattle.order_kinds.specs.Order.{is_fill_or_kill}

-- what holds of each item that is in a list
all-in : {X : Type 0} (P : X → Type 0) (xs : List X) → ((x : X) → IsIn x xs → P x) → All P xs
all-in P [] holds = All-nil P
all-in P (x ∷ xs) holds = All-cons P x xs (holds x (inl refl)) (all-in P xs (λ y i. holds y (inr i)))

module _ (setup : Setup) where
  abbrev graph : Graph
  graph = graph_of setup

  -- ---- events

  -- the arcs of a way are over borders of the setup
  way-in : (room : Arc → ℕ) (from : ℕ) (arcs : List Arc) (to : ℕ) → IsWay graph room from arcs to → HasArcs setup arcs
  way-in room from [] to way = All-nil (λ arc. HasBorder setup arc.border)
  way-in room from (arc ∷ arcs) to way = All-cons (λ arc. HasBorder setup arc.border) arc arcs way.0 (way-in room (end_of graph arc) arcs to way.3)

  -- so is what an event names that fits the events before it
  fits-in : (before : List Event) (e : Event) → Fits setup before e → IsEventIn setup e
  fits-in before (event.Leg contract leg) fits = way-in _ _ leg.route _ fits.carried.is_route.way
  fits-in before (event.BlockLeg first last leg) fits = way-in _ _ leg.route _ fits.carried.is_route.way
  fits-in before (event.Granted arc first last lots) fits = fits.range.on_arc
  fits-in before (event.Offered arc first last lots) fits = fits.range.on_arc
  fits-in before (event.Halted border first last) fits = fits.on_border
  fits-in before (event.Resumed border first last) fits = fits.on_border
  fits-in before (event.Entered name caller order) fits = tt
  fits-in before (event.EnteredBlock name caller order) fits = tt
  fits-in before (event.Gated hour phase) fits = tt
  fits-in before (event.Withdrawn name lots) fits = tt
  fits-in before (event.Reduced name by) fits = tt

  -- and what events name that each fit those before them
  pub events-in : (before events : List Event) → FitAfter setup before events → All (IsEventIn setup) events
  events-in before [] fit = All-nil (IsEventIn setup)
  events-in before (e ∷ events) fit = All-cons (IsEventIn setup) e events (fits-in before e fit.0) (events-in (and_then before e) events fit.1)

  -- ---- refusals

  -- the zones that a refusal names, where there is one, are the setup's
  abbrev pub AnyIsIn : Option Refusal → Type 0
  AnyIsIn None = Unit {0}
  AnyIsIn (Some broken) = IsRefusalIn setup broken

  unless-in : (b : Bool) (broken : Refusal) → IsRefusalIn setup broken → AnyIsIn (unless b broken)
  unless-in true broken named = tt
  unless-in false broken named = named

  if-in : (b : Bool) (o : Option Refusal) → AnyIsIn o → AnyIsIn (if b then o else None)
  if-in true o named = named
  if-in false o named = tt

  or_else-in : (o : Option Refusal) (other : Unit {0} → Option Refusal) → AnyIsIn o → AnyIsIn (other tt) → AnyIsIn (or_else o other)
  or_else-in None other named later = later
  or_else-in (Some broken) other named later = named

  first_answer-in : {X : Type 0} (ask : X → Option Refusal) (xs : List X) → ((x : X) → AnyIsIn (ask x)) → AnyIsIn (first_answer ask xs)
  first_answer-in ask [] named = tt
  first_answer-in ask (x ∷ xs) named = or_else-in (ask x) (λ _. first_answer ask xs) (named x) (first_answer-in ask xs named)

  and_then-in : {X : Type 0} (ask : X → Option Refusal) (o : Option X) → ((x : X) → AnyIsIn (ask x)) → AnyIsIn (option_and_then ask o)
  and_then-in ask None named = tt
  and_then-in ask (Some x) named = named x

  -- rules of which each names nothing else
  abbrev AreIn : List (Unit {0} → Option Refusal) → Type 0
  AreIn [] = Unit {0}
  AreIn (rule ∷ rules) = AnyIsIn (rule tt) × AreIn rules

  first_broken-in : (rules : List (Unit {0} → Option Refusal)) → AreIn rules → AnyIsIn (first_broken rules)
  first_broken-in [] named = tt
  first_broken-in (rule ∷ rules) named = or_else-in (rule tt) (λ _. first_broken rules) named.0 (first_broken-in rules named.1)

  naming-in : (caller : ℕ) (given : Command) → AnyIsIn (naming_refusal setup caller given)
  unfolding naming_refusal
  naming-in caller given = first_broken-in (naming_rules setup caller given) (
    unless-in _ refusal.WrongRole tt,
    (
      unless-in _ refusal.UnknownHour tt,
      (
        unless-in _ refusal.UnknownContract tt,
        (
          unless-in _ refusal.UnknownZone tt,
          (unless-in _ refusal.UnknownBorder tt, (unless-in _ refusal.BadPeriod tt, (unless-in _ refusal.BadBasket tt, tt))),
        ),
      ),
    ),
  )

  numbers-in : (given : Command) → AnyIsIn (numbers_refusal given)
  unfolding numbers_refusal
  numbers-in given = first_broken-in (numbers_rules given)
      (unless-in _ refusal.PriceOutOfRange tt, (unless-in _ refusal.QuantityOutOfRange tt, (unless-in _ refusal.BadPeak tt, tt)))

  closed-in : (o : Option ℕ) → AnyIsIn (option_map (λ hour. refusal.Closed hour) o)
  closed-in None = tt
  closed-in (Some hour) = tt

  gate-in : (events : List Event) (given : Command) → AnyIsIn (gate_refusal events given)
  gate-in events (command.Gate hour asked) = unless-in (is_later asked (phase_of events hour)) (refusal.GateBack (phase_of events hour)) tt
  gate-in events _ = tt

  offer-in : (events : List Event) (given : Command) → AnyIsIn (offer_refusal graph events given)
  offer-in events (command.Offer from to first last lots) =
      and_then-in (λ arc. first_answer (below_flow events arc lots) (range_quarters first last)) (arc_between graph from to)
      (λ arc. first_answer-in (below_flow events arc lots) (range_quarters first last)
      (λ quarter. unless-in _ (refusal.BelowFlow quarter (lots_of (flow events quarter arc))) tt))
  offer-in events _ = tt

  request-in : (events : List Event) (given : Command) → AnyIsIn (request_refusal graph events given)
  request-in events (command.Request from to first last lots) =
      and_then-in (λ arc. first_answer (no_room events arc lots) (range_quarters first last)) (arc_between graph from to)
      (λ arc. first_answer-in (no_room events arc lots) (range_quarters first last)
      (λ quarter. unless-in _ (refusal.NoRoom quarter (quarter_room events arc quarter)) tt))
  request-in events _ = tt

  -- some of the graph's zones are the setup's
  filtered-in : (p : ℕ → Bool) (zone : ℕ) → IsIn zone (filter p (range_with_len 0 (zone_count graph))) → HasZone setup zone
  filtered-in p zone i =
      let within = (from_range zone 0 (zone_count graph) (from_filter p zone (range_with_len 0 (zone_count graph)) i).0).1 in omega (arith, within)

  reach-in : (room : Arc → ℕ) (side : Side) (zone : ℕ) → All (HasZone setup) (zones_in_reach graph room side zone)
  reach-in room Buy zone = all-in (HasZone setup) (zones_in_reach graph room Buy zone) (filtered-in (λ other. reaches graph room other zone))
  reach-in room Sell zone = all-in (HasZone setup) (zones_in_reach graph room Sell zone) (filtered-in (λ other. reaches graph room zone other))

  unfilled_zones-in : (events : List Event) (caller : ℕ) (order : Order) → All (HasZone setup) (unfilled_zones graph events caller order)
  unfolding unfilled_zones
  unfilled_zones-in events caller order =
      reach-in (room (after_taking graph events caller order) (contract_quarters order.contract)) order.side order.zone

  unfilled-in : (events : List Event) (caller : ℕ) (given : Command) → AnyIsIn (unfilled_refusal graph events caller given)
  unfilled-in events caller (command.Enter order) =
      let zones : List ℕ = unfilled_zones graph events caller order in
      let broken : Refusal = refusal.Unfilled zones (bound_of graph events caller order zones) in
      if-in (is_fill_or_kill order.kind) (unless (is_filled graph events caller order) broken)
      (unless-in (is_filled graph events caller order) broken (unfilled_zones-in events caller order))
  unfilled-in events caller _ = tt

  basket-in : (events : List Event) (caller : ℕ) (given : Command) → AnyIsIn (basket_refusal graph events caller given)
  basket-in events caller (command.EnterBasket orders) = first_answer-in (basket_order_refusal graph events caller) orders (λ order.
      let zones : List ℕ = unfilled_zones graph events caller order in
      unless-in (is_filled graph events caller order) (refusal.BasketUnfilled order.contract.hour zones (bound_of graph events caller order zones))
      (unfilled_zones-in events caller order))
  basket-in events caller _ = tt

  desk-in : (events : List Event) (caller : ℕ) (given : Command) → AnyIsIn (desk_refusal graph events caller given)
  desk-in events caller (command.Enter order) = if-in (can_rest order.kind) (order_desk_refusal graph events caller order) (go (rest_of graph events caller order))
    where
      rests : ℕ → Option Refusal
      rests zero = None
      rests (suc more) = unless (has_desk_room (after_taking graph events caller order) (name_of_next events order)) refusal.DeskFull

      go : (rest : ℕ) → AnyIsIn (rests rest)
      go zero = tt
      go (suc more) = unless-in (has_desk_room (after_taking graph events caller order) (name_of_next events order)) refusal.DeskFull tt
  desk-in events caller (command.EnterBlock order) = go (partner_found graph events caller order)
    where
      rests : Option StandingBlock → Option Refusal
      rests None = unless (has_desk_room (with_block events caller order) (next_name events order.first)) refusal.DeskFull
      rests (Some maker) = None

      go : (o : Option StandingBlock) → AnyIsIn (rests o)
      go None = unless-in (has_desk_room (with_block events caller order) (next_name events order.first)) refusal.DeskFull tt
      go (Some maker) = tt
  desk-in events caller _ = tt

  -- the zones that the refusal of a command names are the setup's
  pub refusal-in : (events : List Event) (caller : ℕ) (given : Command) → AnyIsIn (refusal_of_command setup events caller given)
  unfolding refusal_of_command
  refusal-in events caller given = first_broken-in (rules setup events caller given) (
    naming-in caller given,
    (
      numbers-in given,
      (
        unless-in (reduces events caller given) refusal.QuantityOutOfRange tt,
        (
          closed-in (closed_hour events given),
          (
            gate-in events given,
            (
              unless-in (order_is_known events caller given) refusal.UnknownOrder tt,
              (
                offer-in events given,
                (
                  request-in events given,
                  (
                    unfilled-in events caller given,
                    (
                      basket-in events caller given,
                      (desk-in events caller given, tt),
                    ),
                  ),
                ),
              ),
            ),
          ),
        ),
      ),
    ),
  )

  -- ---- replies

  -- so is what an answer names
  answer-in : (events : List Event) (caller : ℕ) (given : Command) → FitAfter setup [] (events ++ events_of (reply_let_in all_parts setup events caller given))
      → IsReplyIn setup (reply_let_in all_parts setup events caller given)
  answer-in events caller (command.View contract side zone) fit = tt
  answer-in events caller given fit =
      events-in events (events_done all_parts setup events caller given) (fit-back setup [] events (events_done all_parts setup events caller given) fit)

-- a reply after a well-formed history names zones and borders of the setup alone
pub reply-names : RepliesNameTheSetup
unfolding reply_by
reply-names setup events caller given is_setup history =
    go (refusal_of_command setup events caller given) (refusal-in setup events caller given) (reply-history setup is_setup all_parts events caller history given).fit
  where
    go : (o : Option Refusal) → AnyIsIn setup o → FitAfter setup [] (events ++ events_of (refused_or o (λ _. reply_let_in all_parts setup events caller given)))
        → IsReplyIn setup (refused_or o (λ _. reply_let_in all_parts setup events caller given))
    go (Some broken) named fit = named
    go None named fit = answer-in setup events caller given fit

-- What a block's entry leads to.
use Rattle.std.proofs.Common.{◌≡◌, ◌∙◌, ℕ, Bool, ◌||◌, List, [], ◌∷◌, ◌++◌, append_assoc, Option, Some, None, is_some, refl, sym, ap, subst}
use Rattle.std.proofs.lemmas.List.{append-nil}
use Rattle.order_kinds.specs.declared.order.BlockOrder.{BlockOrder}
use Rattle.order_kinds.specs.declared.order.OrderName.{OrderName}
use Rattle.order_kinds.specs.Period.{hours_from}
use Rattle.zone_graph.specs.Graph.{Graph}
use Rattle.market_model.specs.declared.event.Event.{Event}
use Rattle.market_model.specs.declared.event.Event.TheVariants as event
use Rattle.market_model.specs.declared.refusal.Refusal.{Refusal}
use Rattle.market_model.specs.declared.refusal.Refusal.TheVariants as refusal
use Rattle.market_model.specs.Blocks.{StandingBlock, enter_block, entering_block, legs_with, partner_found, with_block}
use Rattle.market_model.specs.Grid.{graph_of}
use Rattle.market_model.specs.Orders.{next_name}
use Rattle.market_model.specs.Refusals.{block_desk_refusal, has_desk_room}
use Rattle.market_model.specs.Rules.{unless}
use Rattle.market_model.specs.Sweep.{all_parts, sweeps}
use Rattle.market_model.specs.WellFormed.{FitAfter, IsMarketSetup, IsLegalOver}
use Rattle.laws_of_market.proofs.BlockEntries.{MayEnterBlock, enter_block-history}
use Rattle.laws_of_market.proofs.Growing.{fit-front}
use Rattle.plain_matching.specs.BlockEntering.{CanEnterBlock}

-- the legs of a block with the partner that it finds
abbrev pub legs_found : Graph → List Event → (caller : ℕ) → BlockOrder → List Event
legs_found graph events caller order =
    legs_with graph (with_block events caller order) (entering_block events caller order) (partner_found graph events caller order)

-- the entry and the legs, and then the sweeps, are what the block's entry leads to
pub entered-is : (graph : Graph) (caller : ℕ) (order : BlockOrder) (events dealt after : List Event)
    → dealt ≡ with_block events caller order ++ legs_found graph events caller order
    → after ≡ dealt ++ sweeps all_parts graph (hours_from order.first order.last) dealt
    → after ≡ events ++ enter_block all_parts graph caller order events
unfolding enter_block
entered-is graph caller order events dealt after deals is =
    let entry : List Event = event.EnteredBlock (next_name events order.first) caller order ∷ [] in
    let legs : List Event = legs_found graph events caller order in
    let all : dealt ≡ events ++ (entry ++ legs) = deals ∙ append_assoc events entry legs in
    is ∙ ap (λ history. history ++ sweeps all_parts graph (hours_from order.first order.last) history) all
    ∙ append_assoc events (entry ++ legs) (sweeps all_parts graph (hours_from order.first order.last) (events ++ (entry ++ legs)))

-- after the legs the history is legal
pub dealt-legal : (graph : Graph) (events dealt : List Event) (caller : ℕ) (order : BlockOrder) (can : CanEnterBlock graph events caller order) → IsMarketSetup can.setup
    → dealt ≡ with_block events caller order ++ legs_found graph events caller order → IsLegalOver graph dealt
dealt-legal graph events dealt caller order can is_setup deals =
    let may : MayEnterBlock can.setup caller order = record {
      of_caller = can.enters.of_caller;
      from_hour = can.enters.from_hour;
      to_hour = can.enters.to_hour;
      of_period = can.enters.of_period;
      in_zone = can.enters.in_zone;
      sound = can.enters.sound;
    } in
    let swept : List Event = dealt ++ sweeps all_parts graph (hours_from order.first order.last) dealt in
    let whole = enter_block-history can.setup is_setup all_parts caller order events may can.history in
    let all : swept ≡ events ++ enter_block all_parts (graph_of can.setup) caller order events =
    entered-is graph caller order events dealt swept deals refl ∙ ap (λ g. events ++ enter_block all_parts g caller order events) can.over in
    let fit : FitAfter can.setup [] swept = subst (FitAfter can.setup []) (sym all) whole.fit in
    record { setup = can.setup; over = can.over; fit = fit-front can.setup [] dealt (sweeps all_parts graph (hours_from order.first order.last) dealt) fit }

-- a block that may stay is not refused, and every other one is
abbrev pub desk_answer : Bool → Option Refusal
desk_answer stays = unless stays refusal.DeskFull

desk_refusal-is : (graph : Graph) (events dealt : List Event) (caller : ℕ) (order : BlockOrder) (found : Bool)
    → found ≡ is_some (partner_found graph events caller order)
    → dealt ≡ with_block events caller order ++ legs_found graph events caller order
    → desk_answer (found || has_desk_room dealt (next_name events order.first)) ≡ block_desk_refusal graph events caller order
desk_refusal-is graph events dealt caller order found is deals = go (partner_found graph events caller order) refl
  where
    go : (o : Option StandingBlock) → partner_found graph events caller order ≡ o
        → desk_answer (found || has_desk_room dealt (next_name events order.first)) ≡ block_desk_refusal graph events caller order
    go (Some maker) e =
        ap (λ b. desk_answer (b || has_desk_room dealt (next_name events order.first))) (is ∙ ap is_some e)
        ∙ sym (rw e refl)
    go None e =
        let alone : dealt ≡ with_block events caller order =
        deals ∙ ap (λ o. with_block events caller order ++ legs_with graph (with_block events caller order) (entering_block events caller order) o) e
        ∙ append-nil (with_block events caller order) in
        ap (λ b. desk_answer (b || has_desk_room dealt (next_name events order.first))) (is ∙ ap is_some e)
        ∙ ap (λ history. desk_answer (has_desk_room history (next_name events order.first))) alone
        ∙ sym (rw e refl)

-- the same of what is read of a history
pub stays-answer : (graph : Graph) (events dealt : List Event) (caller : ℕ) (order : BlockOrder) (found stays : Bool) (name : OrderName)
    → name ≡ next_name events order.first → stays ≡ (found || has_desk_room dealt name)
    → found ≡ is_some (partner_found graph events caller order)
    → dealt ≡ with_block events caller order ++ legs_found graph events caller order
    → desk_answer stays ≡ block_desk_refusal graph events caller order
stays-answer graph events dealt caller order found stays name named rests finds deals =
    ap desk_answer rests
    ∙ ap (λ n. desk_answer (found || has_desk_room dealt n)) named
    ∙ desk_refusal-is graph events dealt caller order found finds deals

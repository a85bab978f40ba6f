-- What the reply to an order of a basket says of the basket.
use Rattle.std.proofs.Common.{◌≡◌, ◌∙◌, ℕ, ◌==◌, Bool, true, false, find, List, [], ◌∷◌, Option, None, Some, refl, sym, ap, if◌then◌else◌}
use Rattle.std.proofs.lemmas.Bool.{true≢false}
use Rattle.std.specs.Option.{option_map}
use Rattle.order_kinds.specs.declared.order.Kind.{Kind}
use Rattle.order_kinds.specs.declared.order.Kind.TheVariants as kind
use Rattle.order_kinds.specs.declared.order.Order.{Order}
use Rattle.order_kinds.specs.Order.{is_fill_or_kill}
use Rattle.zone_graph.specs.Graph.{Graph}
use Rattle.market_model.specs.declared.command.Command.TheVariants as command
use Rattle.market_model.specs.declared.event.Event.{Event}
use Rattle.market_model.specs.declared.refusal.Refusal.{Refusal}
use Rattle.market_model.specs.declared.refusal.Refusal.TheVariants as refusal
use Rattle.market_model.specs.declared.reply.Reply.{Reply}
use Rattle.market_model.specs.declared.reply.Reply.TheVariants as reply
use Rattle.market_model.specs.declared.setup.Setup.{Setup}
use Rattle.market_model.specs.Certificate.{bound_of, unfilled_zones}
use Rattle.market_model.specs.Entering.{enter, rest_of}
use Rattle.market_model.specs.Grid.{graph_of}
use Rattle.market_model.specs.History.{events_of}
use Rattle.market_model.specs.Market.{reply_let_in, events_done, refused_or, reply_by, reply_to}
use Rattle.market_model.specs.Refusals.{basket_order_refusal, can_rest, is_filled, order_desk_refusal, refusal_of_command}
use Rattle.market_model.specs.Room.{is_closed_phase, phase_of}
use Rattle.market_model.specs.Rules.{early_refusal, first_broken, unless}
use Rattle.market_model.specs.Sweep.{all_parts, or_else}
use Rattle.market_model.specs.StateRules.{filling_rules, state_refusal}
use Rattle.joint_plan.specs.Desk.{DeskState}
use Rattle.joint_plan.proofs.Histories.{split}
use Rattle.basket_match.specs.Orders.{CanEnter, of_basket, reply_on}

-- the refusal of an order that is not filled
abbrev certified : Graph → List Event → (caller : ℕ) → Order → Refusal
certified graph events caller order =
    let zones = unfilled_zones graph events caller order in refusal.Unfilled zones (bound_of graph events caller order zones)

-- a closed hour alone refuses an order by the state
state-free : (graph : Graph) (events : List Event) (caller : ℕ) (order : Order) → is_closed_phase (phase_of events order.contract.hour) ≡ false
    → state_refusal graph events caller (command.Enter order) ≡ None
unfolding state_refusal
state-free graph events caller order unclosed =
    ap (λ b. or_else (option_map (λ hour. refusal.Closed hour) (if b then Some order.contract.hour else None)) (λ _. None)) unclosed

-- and its rest alone on filling
filling-alone : (graph : Graph) (events : List Event) (caller : ℕ) (order : Order) → is_fill_or_kill order.kind ≡ true
    → first_broken (filling_rules graph events caller (command.Enter order)) ≡ unless (is_filled graph events caller order) (certified graph events caller order)
filling-alone graph events caller order kills =
    go order.kind kills (unless (is_filled graph events caller order) (certified graph events caller order)) (order_desk_refusal graph events caller order)
  where
    go : (k : Kind) → is_fill_or_kill k ≡ true → (unfilled full : Option Refusal)
        → or_else (if is_fill_or_kill k then unfilled else None) (λ _. or_else None (λ _. or_else (if can_rest k then full else None) (λ _. None))) ≡ unfilled
    go kind.Fok is None full = refl
    go kind.Fok is (Some broken) full = refl
    go kind.Limit is unfilled full = absurd (true≢false (sym is))
    go kind.Ioc is unfilled full = absurd (true≢false (sym is))
    go (kind.Iceberg peak delta) is unfilled full = absurd (true≢false (sym is))

-- what it does where no rule refuses it
entered : (setup : Setup) (events : List Event) (caller : ℕ) (order : Order)
    → reply_let_in all_parts setup events caller (command.Enter order) ≡ reply.Done (enter all_parts (graph_of setup) caller order events)
unfolding events_done
entered setup events caller order = refl

module _ (setup : Setup) (events : List Event) (caller : ℕ) (order : Order) (early : early_refusal setup caller (command.Enter order) ≡ None)
    (kills : is_fill_or_kill order.kind ≡ true) (unclosed : is_closed_phase (phase_of events order.contract.hour) ≡ false) where
  -- it is refused where it is not filled
  refused-alone : refusal_of_command setup events caller (command.Enter order)
      ≡ unless (is_filled (graph_of setup) events caller order) (certified (graph_of setup) events caller order)
  refused-alone =
      split setup events caller (command.Enter order) early
      ∙ ap (λ (o : Option Refusal). or_else o (λ _. first_broken (filling_rules (graph_of setup) events caller (command.Enter order)))) (state-free (graph_of setup) events caller order unclosed)
      ∙ filling-alone (graph_of setup) events caller order kills

  told : reply_to setup events caller (command.Enter order)
      ≡ refused_or (unless (is_filled (graph_of setup) events caller order) (certified (graph_of setup) events caller order))
      (λ _. reply.Done (enter all_parts (graph_of setup) caller order events))
  unfolding reply_by
  told =
      ap (λ (o : Option Refusal). refused_or o (λ _. reply_let_in all_parts setup events caller (command.Enter order))) refused-alone
      ∙ ap (λ (r : Reply). refused_or (unless (is_filled (graph_of setup) events caller order) (certified (graph_of setup) events caller order)) (λ _. r)) (entered setup events caller order)

  -- the basket is told so
  in-basket : of_basket order.contract.hour (reply_to setup events caller (command.Enter order))
      ≡ refused_or (basket_order_refusal (graph_of setup) events caller order) (λ _. reply.Done (enter all_parts (graph_of setup) caller order events))
  in-basket = ap (of_basket order.contract.hour) told ∙ go (is_filled (graph_of setup) events caller order)
    where
      go : (b : Bool)
          → of_basket order.contract.hour (refused_or (unless b (certified (graph_of setup) events caller order)) (λ _. reply.Done (enter all_parts (graph_of setup) caller order events)))
          ≡ refused_or (unless b (let zones = unfilled_zones (graph_of setup) events caller order in
          refusal.BasketUnfilled order.contract.hour zones (bound_of (graph_of setup) events caller order zones))) (λ _. reply.Done (enter all_parts (graph_of setup) caller order events))
      go true = refl
      go false = refl

-- a basket is told the events of the order
pub same-events : (hour : ℕ) (told : Reply) → events_of (of_basket hour told) ≡ events_of told
same-events hour (reply.Done events) = refl
same-events hour (reply.Refused broken) = refl
same-events hour (reply.Seen rows) = refl

-- what the desk replies says so of the basket
pub on-desk : (setup : Setup) (graph : Graph) (caller : ℕ) (order : Order) (desk : DeskState) → CanEnter setup graph caller order desk
    → of_basket order.contract.hour (reply_to setup desk.settled caller (command.Enter order)) ≡ reply_on caller order desk
on-desk setup graph caller order desk can =
    in-basket setup desk.settled caller order can.early can.kills (ap (λ hour. is_closed_phase (phase_of desk.settled hour)) can.here ∙ can.unclosed)
    ∙ ap (λ (g : Graph). refused_or (basket_order_refusal g desk.settled caller order) (λ _. reply.Done (enter all_parts g caller order desk.settled))) can.over_setup

-- A refusal as unfilled is certified by its zones and their bound.
use Rattle.std.proofs.Common.{◌≡◌, ◌≢◌, ◌∙◌, inl, inr, ℕ, ◌+◌, ◌<◌, ◌&&◌, Bool, true, false, List, [], length, map, Some, None, eq-eqb, refl, sym, ap, subst, if◌then◌else◌, arith}
use Rattle.std.proofs.lemmas.Bool.{and_parts, true≢false}
use Rattle.std.specs.List.{list_all}
use Rattle.order_kinds.specs.declared.order.Kind.{Kind}
use Rattle.order_kinds.specs.declared.order.Kind.TheVariants as kind
use Rattle.order_kinds.specs.declared.order.Order.{Order}
use Rattle.order_kinds.specs.Order.{is_fill_or_kill}
use Rattle.order_kinds.specs.Period.{is_within}
use Rattle.zone_graph.specs.Graph.{Graph}
use Rattle.zone_graph.specs.Route.{IsIn, has}
use Rattle.market_model.specs.declared.command.Command.{Command}
use Rattle.market_model.specs.declared.command.Command.TheVariants as command
use Rattle.market_model.specs.declared.event.Event.{Event}
use Rattle.market_model.specs.declared.refusal.Refusal.{Refusal}
use Rattle.market_model.specs.declared.refusal.Refusal.TheVariants as refusal
use Rattle.market_model.specs.declared.reply.Reply.TheVariants as reply
use Rattle.market_model.specs.declared.setup.Setup.{Setup}
use Rattle.market_model.specs.Certificate.{bound_of, unfilled_zones}
use Rattle.market_model.specs.Entering.{name_of_next, rest_of}
use Rattle.market_model.specs.Grid.{graph_of}
use Rattle.market_model.specs.Market.{reply_to}
use Rattle.market_model.specs.Refusals.{basket_order_refusal, basket_refusal, is_filled, unfilled_refusal}
use Rattle.market_model.specs.Rules.{ascends, basket_is_good, naming_refusal, numbers_refusal, unless}
use Rattle.market_model.specs.WellFormed.{FitAfter, IsMarketSetup, OrderEnters}
use Rattle.laws_of_market.proofs.Admitted.{all-pass, naming-none, numbers-none}
use Rattle.laws_of_market.proofs.Entries.{may-enters}
use Rattle.laws_of_market.proofs.Members.{from_first_answer}
use Rattle.laws_of_market.proofs.Replies.{basket-may, order-may}
use Rattle.laws_of_maximum.specs.Takings.{HasNoDelta, obtained}
use Rattle.laws_of_maximum.specs.Unfilled.{BasketUnfilledIsCertified, IsCertified, UnfilledIsCertified}
use Rattle.laws_of_maximum.proofs.BestPlans.{no_plan_beats_it}
use Rattle.laws_of_maximum.proofs.Obtained.{filled_or_bound, obtained-rest, zones_have_own}
use Rattle.laws_of_maximum.proofs.Refused.{basket-by, unfilled-by}

-- ---- what may enter

fill_or_kill-is : (k : Kind) → is_fill_or_kill k ≡ true → k ≡ kind.Fok
fill_or_kill-is kind.Fok e = refl
fill_or_kill-is kind.Limit e = absurd (true≢false (sym e))
fill_or_kill-is kind.Ioc e = absurd (true≢false (sym e))
fill_or_kill-is (kind.Iceberg peak delta) e = absurd (true≢false (sym e))

kills-flat : (order : Order) → order.kind ≡ kind.Fok → HasNoDelta order.kind
kills-flat order is = rw is tt

-- an order that breaks no rule on names and numbers can enter
may_enter : (setup : Setup) (events : List Event) (caller : ℕ) (order : Order) → naming_refusal setup caller (command.Enter order) ≡ None → numbers_refusal (command.Enter order) ≡ None
    → OrderEnters setup events (name_of_next events order) caller order
may_enter setup events caller order names_hold numbers_hold =
    may-enters setup caller order events (order-may setup caller order (naming-none setup caller (command.Enter order) names_hold) (numbers-none (command.Enter order) numbers_hold))

-- so can each order of a basket
basket_may_enter : (setup : Setup) (events : List Event) (caller : ℕ) (orders : List Order) (order : Order) → IsIn order orders
    → naming_refusal setup caller (command.EnterBasket orders) ≡ None → numbers_refusal (command.EnterBasket orders) ≡ None
    → OrderEnters setup events (name_of_next events order) caller order
basket_may_enter setup events caller orders order i names_hold numbers_hold =
    may-enters setup caller order events
    (basket-may setup caller orders (naming-none setup caller (command.EnterBasket orders) names_hold) (numbers-none (command.EnterBasket orders) numbers_hold) order i)

-- ---- the certificate

pub certify : (setup : Setup) (events : List Event) (caller : ℕ) (order : Order) → IsMarketSetup setup → FitAfter setup [] events
    → OrderEnters setup events (name_of_next events order) caller order → order.kind ≡ kind.Fok → is_filled (graph_of setup) events caller order ≡ false
    → (zones : List ℕ) (bound : ℕ) → zones ≡ unfilled_zones (graph_of setup) events caller order → bound ≡ bound_of (graph_of setup) events caller order zones
    → IsCertified (graph_of setup) events caller order zones bound
certify setup events caller order is_setup fit enters is unfilled zones bound in_reach is_bound =
    let flat = kills-flat order is in
    let own : has order.zone zones ≡ true = subst (λ z. has order.zone z ≡ true) (sym in_reach) (zones_have_own setup is_setup events fit caller order enters flat) in
    let sums = obtained-rest setup is_setup events fit caller order enters flat in
    let rests : rest_of (graph_of setup) events caller order ≢ 0 = λ none. true≢false (sym (eq-eqb (rest_of (graph_of setup) events caller order) 0 none) ∙ unfilled) in
    elim (filled_or_bound setup is_setup events fit caller order enters flat) [
      | inl none ↦ absurd (rests none)
      | inr most ↦
          let is_most : bound ≡ obtained (graph_of setup) events caller order = is_bound ∙ ap (bound_of (graph_of setup) events caller order) in_reach ∙ sym most in
          let below : bound < order.quantity.0 = some_below _ _ _ _ sums (sym is_most) rests in
          record {
            in_reach = in_reach;
            have_own = own;
            is_bound = is_bound;
            is_most = is_most;
            below = below;
            no_plan_fills = λ plan planned.
                let most = no_plan_beats_it setup events caller order plan zones is_setup fit planned own in
                omega (arith, most, below, is_bound);
          }
    ]
  where
    some_below : (got rest all bound : ℕ) → got + rest ≡ all → got ≡ bound → rest ≢ 0 → bound < all
    some_below got rest all bound sums same some = omega arith

-- ---- the rules on filling

-- why a rule on filling refuses an order
pub record IsRefusedOrder (graph : Graph) (events : List Event) (caller : ℕ) (given : Command) (broken : Refusal) : Type 0 where
  pub order : Order
  pub is : given ≡ command.Enter order
  pub is_kill : order.kind ≡ kind.Fok
  pub unfilled : is_filled graph events caller order ≡ false
  pub refusal_is : broken ≡ refusal.Unfilled (unfilled_zones graph events caller order) (bound_of graph events caller order (unfilled_zones graph events caller order))

unless-is : (b : Bool) (named broken : Refusal) → unless b named ≡ Some broken → (b ≡ false) × (broken ≡ named)
unless-is true named broken e = absurd (cc)
unless-is false named broken e = let same : broken ≡ named = cc in (refl, same)

order-refused : (graph : Graph) (events : List Event) (caller : ℕ) (given : Command) (broken : Refusal) → unfilled_refusal graph events caller given ≡ Some broken
    → IsRefusedOrder graph events caller given broken
order-refused graph events caller (command.Enter order) broken e = go (is_fill_or_kill order.kind) refl e
  where
    zones : List ℕ
    zones = unfilled_zones graph events caller order

    go : (b : Bool) → is_fill_or_kill order.kind ≡ b
        → (if b then unless (is_filled graph events caller order) (refusal.Unfilled (unfilled_zones graph events caller order) (bound_of graph events caller order (unfilled_zones graph events caller order))) else None) ≡ Some broken
        → IsRefusedOrder graph events caller (command.Enter order) broken
    go true kills h =
        let r = unless-is (is_filled graph events caller order) (refusal.Unfilled zones (bound_of graph events caller order zones)) broken h in
        record { order = order; is = refl; is_kill = fill_or_kill-is order.kind kills; unfilled = r.0; refusal_is = r.1 }
    go false kills h = absurd (cc)
order-refused graph events caller _ broken e = absurd (cc)

record IsRefusedBasket (graph : Graph) (events : List Event) (caller : ℕ) (given : Command) (broken : Refusal) : Type 0 where
  orders : List Order
  order : Order
  is : given ≡ command.EnterBasket orders
  is_in : IsIn order orders
  unfilled : is_filled graph events caller order ≡ false
  refusal_is : broken ≡ refusal.BasketUnfilled order.contract.hour (unfilled_zones graph events caller order) (bound_of graph events caller order (unfilled_zones graph events caller order))

basket-refused : (graph : Graph) (events : List Event) (caller : ℕ) (given : Command) (broken : Refusal) → basket_refusal graph events caller given ≡ Some broken
    → IsRefusedBasket graph events caller given broken
basket-refused graph events caller (command.EnterBasket orders) broken e =
    let found = from_first_answer (basket_order_refusal graph events caller) broken orders e in
    let r = unless-is _ _ broken found.2 in
    record { orders = orders; order = found.0; is = refl; is_in = found.1; unfilled = r.0; refusal_is = r.1 }
basket-refused graph events caller _ broken e = absurd (cc)

-- what is refused as unfilled is a fill-or-kill order that is not filled
pub order-unfilled : (setup : Setup) (events : List Event) (caller : ℕ) (given : Command) (zones : List ℕ) (bound : ℕ)
    → reply_to setup events caller given ≡ reply.Refused (refusal.Unfilled zones bound) → IsRefusedOrder (graph_of setup) events caller given (refusal.Unfilled zones bound)
order-unfilled setup events caller given zones bound e = elim (unfilled-by setup events caller given zones bound e).by [
  | inl own ↦ order-refused (graph_of setup) events caller given (refusal.Unfilled zones bound) own
  | inr other ↦ let r = basket-refused (graph_of setup) events caller given (refusal.Unfilled zones bound) other in let same = r.refusal_is in absurd (cc)
]

-- with those zones and that bound
pub zones-are : (graph : Graph) (events : List Event) (caller : ℕ) (given : Command) (zones : List ℕ) (bound : ℕ)
    → (r : IsRefusedOrder graph events caller given (refusal.Unfilled zones bound)) → zones ≡ unfilled_zones graph events caller r.order
zones-are graph events caller given zones bound r = let same = r.refusal_is in cc

pub bound-is : (graph : Graph) (events : List Event) (caller : ℕ) (given : Command) (zones : List ℕ) (bound : ℕ)
    → (r : IsRefusedOrder graph events caller given (refusal.Unfilled zones bound)) → bound ≡ bound_of graph events caller r.order zones
bound-is graph events caller given zones bound r =
    let same = r.refusal_is in
    let is : bound ≡ bound_of graph events caller r.order (unfilled_zones graph events caller r.order) = cc in
    is ∙ ap (bound_of graph events caller r.order) (sym (zones-are graph events caller given zones bound r))

pub unfilled_certified : UnfilledIsCertified
unfilled_certified setup events caller given zones bound is_setup history e =
    let by = unfilled-by setup events caller given zones bound e in
    let r = order-unfilled setup events caller given zones bound e in
    record {
      order = r.order;
      is = r.is;
      is_fill_or_kill = r.is_kill;
      certified = certify setup events caller r.order is_setup history.fit
          (may_enter setup events caller r.order (subst (λ g. naming_refusal setup caller g ≡ None) r.is by.names) (subst (λ g. numbers_refusal g ≡ None) r.is by.numbers))
          r.is_kill r.unfilled zones bound (zones-are (graph_of setup) events caller given zones bound r) (bound-is (graph_of setup) events caller given zones bound r);
    }

pub basket_certified : BasketUnfilledIsCertified
basket_certified setup events caller given hour zones bound is_setup history e =
    let by = basket-by setup events caller given hour zones bound e in
    elim by.by [
      | inr own ↦
          let r = basket-refused (graph_of setup) events caller given (refusal.BasketUnfilled hour zones bound) own in
          let same = r.refusal_is in
          let same_hour : hour ≡ r.order.contract.hour = cc in
          let same_zones : zones ≡ unfilled_zones (graph_of setup) events caller r.order = cc in
          let is_bound : bound ≡ bound_of (graph_of setup) events caller r.order (unfilled_zones (graph_of setup) events caller r.order) = cc in
          let same_bound = is_bound ∙ ap (bound_of (graph_of setup) events caller r.order) (sym same_zones) in
          let names_hold = subst (λ g. naming_refusal setup caller g ≡ None) r.is by.names in
          let numbers_hold = subst (λ g. numbers_refusal g ≡ None) r.is by.numbers in
          let kills = kills_all r.orders (naming-none setup caller (command.EnterBasket r.orders) names_hold).basket r.order r.is_in in
          record {
            orders = r.orders;
            order = r.order;
            is = r.is;
            is_in = r.is_in;
            in_hour = same_hour;
            is_fill_or_kill = kills;
            certified = certify setup events caller r.order is_setup history.fit
                (basket_may_enter setup events caller r.orders r.order r.is_in names_hold numbers_hold) kills r.unfilled zones bound same_zones same_bound;
          }
      | inl other ↦ let r = order-refused (graph_of setup) events caller given (refusal.BasketUnfilled hour zones bound) other in let same = r.refusal_is in absurd (cc)
    ]
  where
    kills_all : (orders : List Order) → basket_is_good (command.EnterBasket orders) ≡ true → (order : Order) → IsIn order orders → order.kind ≡ kind.Fok
    kills_all orders good order i =
        let all = (and_parts (is_within 2 8 (length orders) && ascends (map (λ (o : Order). o.contract.hour) orders)) (list_all (λ (o : Order). is_fill_or_kill o.kind) orders) good).1 in
        fill_or_kill-is order.kind (all-pass (λ (o : Order). is_fill_or_kill o.kind) orders all order i)

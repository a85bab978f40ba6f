-- The orders of a basket, one after the other.
use Rattle.std.proofs.Common.{◌≡◌, ◌∙◌, inl, inr, ℕ, ◌+◌, ◌-◌, ◌<◌, ◌^◌, ◌&&◌, true, List, [], ◌∷◌, ◌++◌, append_assoc, count_by, drop, get_or, length, map, Option, Some, None, refl, sym, ap, subst, arith}
use Rattle.std.proofs.lemmas.List.{append-nil, get_or_default}
use Rattle.std.specs.List.{list_all}
use Rattle.std.proofs.lemmas.Bool.{and_parts}
use Rattle.order_kinds.specs.declared.order.Order.{Order}
use Rattle.order_kinds.specs.Period.{is_within}
use Rattle.zone_graph.specs.Graph.{Graph, IsGraph}
use Rattle.zone_graph.specs.Route.{IsIn}
use Rattle.zone_graph.proofs.Membership.{IsIn-map}
use Rattle.zone_graph.proofs.Places.{at_place, item_at_place}
use Rattle.market_model.specs.declared.command.Command.TheVariants as command
use Rattle.market_model.specs.declared.event.Event.{Event}
use Rattle.market_model.specs.declared.refusal.Refusal.{Refusal}
use Rattle.market_model.specs.Entering.{enter, enter_all}
use Rattle.market_model.specs.History.{entered_count, enters_in}
use Rattle.market_model.specs.Refusals.{basket_order_refusal}
use Rattle.market_model.specs.Rules.{ascends, basket_is_good}
use Rattle.market_model.specs.Sweep.{all_parts, first_answer}
use Rattle.laws_of_market.proofs.HoursAlone.{ascends-later, ascends-rest}
use Rattle.plain_matching.proofs.Places.{first_answer-found, first_answer-next, from_place}
use Rattle.plain_market.specs.Entering.{CanEnter}
use Rattle.plain_market.proofs.Fitting.{can-one, can-still}
use Rattle.plain_market.proofs.Hours.{later-count}
use Rattle.plain_market.proofs.Parts.{few-in}
use Rattle.order_kinds.specs.Order.{is_fill_or_kill}

abbrev hours_of : List Order → List ℕ
hours_of orders = map (λ order. order.contract.hour) orders

-- the first orders entered, and the others are still to enter
pub record IsEntered (graph : Graph) (caller : ℕ) (all rest : List Order) (old now : List Event) : Type 0 where
  pub done : List Event
  pub grew : now ≡ old ++ done
  pub onward : enter_all all_parts graph caller all old ≡ done ++ enter_all all_parts graph caller rest now
  pub can : CanEnter graph now caller all
  pub up : ascends (hours_of rest) ≡ true
  pub few : (order : Order) → IsIn order rest → count_by (enters_in order.contract.hour) now < 2 ^ 32 - 1

pub none-entered : (graph : Graph) (caller : ℕ) (orders : List Order) (old : List Event) → CanEnter graph old caller orders
    → basket_is_good (command.EnterBasket orders) ≡ true → entered_count old < 2 ^ 32 - 1 → IsEntered graph caller orders orders old old
none-entered graph caller orders old can good few = record {
  done = [];
  grew = sym (append-nil old);
  onward = refl;
  can = can;
  up = (and_parts (is_within 2 8 (length orders)) (ascends (hours_of orders))
      (and_parts (is_within 2 8 (length orders) && ascends (hours_of orders)) (list_all (λ (order : Order). is_fill_or_kill order.kind) orders) good).0).1;
  few = λ order i. few-in old order.contract.hour few;
}

pub one-entered : (graph : Graph) (caller : ℕ) (all rest : List Order) (order : Order) (old now new : List Event) → IsGraph graph → IsIn order all
    → IsEntered graph caller all (order ∷ rest) old now → new ≡ now ++ enter all_parts graph caller order now → IsEntered graph caller all rest old new
one-entered graph caller all rest order old now new is i entered grown =
    let legs : List Event = enter all_parts graph caller order now in
    subst (IsEntered graph caller all rest old) (sym grown) (record {
      done = entered.done ++ legs;
      grew = ap (λ events. events ++ legs) entered.grew ∙ append_assoc old entered.done legs;
      onward = entered.onward ∙ sym (append_assoc entered.done legs (enter_all all_parts graph caller rest (now ++ legs)));
      can = can-still all_parts graph now caller all order is entered.can i;
      up = ascends-rest order.contract.hour (hours_of rest) entered.up;
      few = λ other j.
          let later = ascends-later order.contract.hour (hours_of rest) entered.up other.contract.hour (IsIn-map (λ (o : Order). o.contract.hour) other rest j) in
          let same = later-count all_parts graph caller order now other.contract.hour later in
          let before = entered.few other (inr j) in
          omega (arith, same, before);
    })

-- at a place of the list
pub next-entered : (graph : Graph) (caller : ℕ) (all : List Order) (k : ℕ) (order : Order) (old now new : List Event) → IsGraph graph
    → k < length all → order ≡ get_or all k order → IsEntered graph caller all (drop k all) old now
    → new ≡ now ++ enter all_parts graph caller order now → IsEntered graph caller all (drop (k + 1) all) old new
next-entered graph caller all k order old now new is within at entered grown =
    one-entered graph caller all (drop (k + 1) all) order old now new is (item_at_place all k order within at)
    (subst (λ rest. IsEntered graph caller all rest old now) (from_place all k order within at) entered) grown

pub few-next : (graph : Graph) (caller : ℕ) (all : List Order) (k : ℕ) (order : Order) (old now : List Event) → k < length all → order ≡ get_or all k order
    → IsEntered graph caller all (drop k all) old now → count_by (enters_in order.contract.hour) now < 2 ^ 32 - 1
few-next graph caller all k order old now within at entered =
    entered.few order (subst (λ rest. IsIn order rest) (sym (from_place all k order within at)) (inl refl))

-- ---- the order at a place, as it is read

at-itself : (all : List Order) (k : ℕ) (d : Order) → k < length all → get_or all k d ≡ get_or all k (get_or all k d)
at-itself all k d within = get_or_default all k d (get_or all k d) within

pub can-at : (graph : Graph) (old now : List Event) (caller : ℕ) (all : List Order) (k : ℕ) (d : Order) → CanEnter graph old caller all → now ≡ old
    → k < length all → CanEnter graph now caller (get_or all k d ∷ [])
can-at graph old now caller all k d can same within =
    subst (λ history. CanEnter graph history caller (get_or all k d ∷ [])) (sym same)
    (can-one graph old caller all (get_or all k d) can (at_place all k d within))

pub few-at : (graph : Graph) (caller : ℕ) (all : List Order) (k : ℕ) (d : Order) (old now : List Event) → k < length all
    → IsEntered graph caller all (drop k all) old now → count_by (enters_in (get_or all k d).contract.hour) now < 2 ^ 32 - 1
few-at graph caller all k d old now within entered = few-next graph caller all k (get_or all k d) old now within (at-itself all k d within) entered

pub entered-at : (graph : Graph) (caller : ℕ) (all : List Order) (k : ℕ) (d : Order) (old now new : List Event) → IsGraph graph
    → k < length all → IsEntered graph caller all (drop k all) old now
    → new ≡ now ++ enter all_parts graph caller (get_or all k d) now → IsEntered graph caller all (drop (k + 1) all) old new
entered-at graph caller all k d old now new is within entered grown =
    next-entered graph caller all k (get_or all k d) old now new is within (at-itself all k d within) entered grown

-- the first order that is not filled by itself
module _ (graph : Graph) (old now : List Event) (caller : ℕ) (all : List Order) (k : ℕ) (d : Order) (found : Option Refusal) (same : now ≡ old) (within : k < length all)
    (is : found ≡ basket_order_refusal graph now caller (get_or all k d)) where
  asked : found ≡ basket_order_refusal graph old caller (get_or all k d)
  asked = is ∙ ap (λ history. basket_order_refusal graph history caller (get_or all k d)) same

  pub refused-at : (refusal : Refusal) → found ≡ Some refusal
      → first_answer (basket_order_refusal graph old caller) (drop k all) ≡ first_answer (basket_order_refusal graph old caller) all
      → Some refusal ≡ first_answer (basket_order_refusal graph old caller) all
  refused-at refusal some before =
      sym (first_answer-found (basket_order_refusal graph old caller) all k (get_or all k d) refusal within (at-itself all k d within) (sym asked ∙ some)) ∙ before

  pub filled-at : found ≡ None
      → first_answer (basket_order_refusal graph old caller) (drop k all) ≡ first_answer (basket_order_refusal graph old caller) all
      → first_answer (basket_order_refusal graph old caller) (drop (k + 1) all) ≡ first_answer (basket_order_refusal graph old caller) all
  filled-at none before =
      first_answer-next (basket_order_refusal graph old caller) all k (get_or all k d) within (at-itself all k d within) (sym asked ∙ none) ∙ before

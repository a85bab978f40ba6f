-- The orders of a basket break no rule by themselves where the basket breaks none.
use Rattle.std.proofs.Common.{◌≡◌, ◌∙◌, ℕ, ◌&&◌, Bool, true, false, List, [], ◌∷◌, map, length, Option, None, Some, nat_lt, refl, ap, sym}
use Rattle.std.proofs.lemmas.Bool.{and_parts}
use Rattle.std.specs.List.{list_all}
use Rattle.std.specs.Option.{option_map_or}
use Rattle.order_kinds.specs.declared.order.Order.{Order}
use Rattle.order_kinds.specs.Contract.{is_known}
use Rattle.order_kinds.specs.Order.{is_fill_or_kill}
use Rattle.order_kinds.specs.Period.{is_within}
use Rattle.order_kinds.specs.Price.{lots_in_range, price_in_range}
use Rattle.zone_graph.specs.Graph.{zone_count}
use Rattle.zone_graph.specs.Route.{IsIn}
use Rattle.zone_graph.proofs.Membership.{IsIn-map}
use Rattle.market_model.specs.declared.command.Command.{Command}
use Rattle.market_model.specs.declared.command.Command.TheVariants as command
use Rattle.market_model.specs.declared.refusal.Refusal.{Refusal}
use Rattle.market_model.specs.declared.refusal.Refusal.TheVariants as refusal
use Rattle.market_model.specs.declared.setup.Role.{Role}
use Rattle.market_model.specs.declared.setup.Role.TheVariants as role
use Rattle.market_model.specs.declared.setup.Setup.{Setup}
use Rattle.market_model.specs.Grid.{graph_of}
use Rattle.market_model.specs.Rules.{ascends, early_refusal, first_broken, has_right, may_give, naming_refusal, naming_rules, numbers_refusal, numbers_rules, offer_in_range, role_of, unless}
use Rattle.market_model.specs.Sweep.{or_else}
use Rattle.laws_of_market.proofs.Admitted.{NamesWhatIs, NumbersAreGood, all-pass}
use Rattle.laws_of_market.proofs.Replies.{kills-peaks}
use Rattle.joint_plan.proofs.Admitting.{early-none}
use Rattle.joint_plan.specs.Baskets as baskets

-- none of some rules is broken
abbrev AllHold : List (Unit {0} → Option Refusal) → Type 0
AllHold [] = Unit {0}
AllHold (rule ∷ rules) = (rule tt ≡ None) × AllHold rules

-- so there is no first one that is
unbroken : (rules : List (Unit {0} → Option Refusal)) → AllHold rules → first_broken rules ≡ None
unbroken [] hold = refl
unbroken (rule ∷ rules) hold = ap (λ (o : Option Refusal). or_else o (λ _. first_broken rules)) hold.0 ∙ unbroken rules hold.1

naming-holds : (setup : Setup) (caller : ℕ) (given : Command) → NamesWhatIs setup caller given → naming_refusal setup caller given ≡ None
unfolding naming_refusal
naming-holds setup caller given names = unbroken (naming_rules setup caller given) (
  ap (λ b. unless b refusal.WrongRole) names.right,
  (
    ap (λ b. unless b refusal.UnknownHour) names.hours,
    (
      ap (λ b. unless b refusal.UnknownContract) names.parts,
      (
        ap (λ b. unless b refusal.UnknownZone) names.zones,
        (
          ap (λ b. unless b refusal.UnknownBorder) names.border,
          (
            ap (λ b. unless b refusal.BadPeriod) names.period,
            (ap (λ b. unless b refusal.BadBasket) names.basket, tt),
          ),
        ),
      ),
    ),
  ),
)

numbers-hold : (given : Command) → NumbersAreGood given → numbers_refusal given ≡ None
unfolding numbers_refusal
numbers-hold given good = unbroken (numbers_rules given) (
  ap (λ b. unless b refusal.PriceOutOfRange) good.prices,
  (
    ap (λ b. unless (b && offer_in_range given) refusal.QuantityOutOfRange) good.quantities ∙ ap (λ b. unless b refusal.QuantityOutOfRange) good.offer,
    (ap (λ b. unless b refusal.BadPeak) good.peaks, tt),
  ),
)

-- what passes of all of a list passes of one of them by itself
alone : {X Y : Type 0} (p : Y → Bool) (f : X → Y) (xs : List X) (x : X) → list_all p (map f xs) ≡ true → IsIn x xs → list_all p (f x ∷ []) ≡ true
alone p f xs x pass i = ap (λ b. b && true) (all-pass p (map f xs) pass (f x) (IsIn-map f x xs i))

module _ (setup : Setup) (caller : ℕ) (orders : List Order) (early : early_refusal setup caller (command.EnterBasket orders) ≡ None) where
  names : NamesWhatIs setup caller (command.EnterBasket orders)
  names = (early-none setup caller (command.EnterBasket orders) early).names

  numbers : NumbersAreGood (command.EnterBasket orders)
  numbers = (early-none setup caller (command.EnterBasket orders) early).numbers

  parts : ((is_within 2 8 (length orders) && ascends (baskets.hours_of orders)) ≡ true) × (list_all (λ (o : Order). is_fill_or_kill o.kind) orders ≡ true)
  parts = and_parts (is_within 2 8 (length orders) && ascends (baskets.hours_of orders)) (list_all (λ (o : Order). is_fill_or_kill o.kind) orders) names.basket

  -- its hours ascend
  pub basket-up : ascends (baskets.hours_of orders) ≡ true
  basket-up = (and_parts (is_within 2 8 (length orders)) (ascends (baskets.hours_of orders)) parts.0).1

  module _ (order : Order) (i : IsIn order orders) where
    -- each of its orders is fill-or-kill
    pub order-kills : is_fill_or_kill order.kind ≡ true
    order-kills = all-pass (λ (o : Order). is_fill_or_kill o.kind) orders parts.1 order i

    -- who may enter the basket may enter the order
    right : (o : Option Role) → option_map_or (λ given. may_give given (command.EnterBasket orders)) o false ≡ option_map_or (λ given. may_give given (command.Enter order)) o false
    right None = refl
    right (Some role.Trader) = refl
    right (Some role.Operator) = refl

    order-names : NamesWhatIs setup caller (command.Enter order)
    order-names = record {
      right = sym (right (role_of setup caller)) ∙ names.right;
      hours = alone (is_within 1 setup.hours) (λ (o : Order). o.contract.hour) orders order names.hours i;
      parts = alone is_known (λ (o : Order). o.contract.part) orders order names.parts i;
      zones = alone (λ zone. nat_lt zone (zone_count (graph_of setup))) (λ (o : Order). o.zone) orders order names.zones i;
      border = refl;
      period = refl;
      basket = refl;
    }

    order-numbers : NumbersAreGood (command.Enter order)
    order-numbers = record {
      prices = alone price_in_range (λ (o : Order). o.price) orders order numbers.prices i;
      quantities = alone lots_in_range (λ (o : Order). o.quantity) orders order numbers.quantities i;
      offer = refl;
      peaks = kills-peaks order order-kills;
    }

    -- and breaks no rule by itself
    pub order-early : early_refusal setup caller (command.Enter order) ≡ None
    order-early = unbroken ((λ _. naming_refusal setup caller (command.Enter order)) ∷ (λ _. numbers_refusal (command.Enter order)) ∷ [])
        (naming-holds setup caller (command.Enter order) order-names, (numbers-hold (command.Enter order) order-numbers, tt))

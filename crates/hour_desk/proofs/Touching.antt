-- What a command that touches one hour alone names, where no rule refuses it by itself.
use Rattle.std.proofs.Common.{◌≡◌, ◌∙◌, ℕ, ◌+◌, ◌-◌, ◌&&◌, true, List, [], ◌∷◌, length, map, nat_le, nat_lt, Option, None, is_none, sym, ap, if◌then◌else◌, arith}
use Rattle.std.proofs.lemmas.Bool.{and_parts, leb-true, ltb-true}
use Rattle.std.proofs.lemmas.List.{length-map}
use Rattle.std.specs.List.{list_all}
use Rattle.order_kinds.specs.declared.order.BlockOrder.{BlockOrder}
use Rattle.order_kinds.specs.declared.order.Order.{Order}
use Rattle.order_kinds.specs.Order.{is_fill_or_kill}
use Rattle.order_kinds.specs.Period.{hours_from, is_within}
use Rattle.order_kinds.proofs.Hours.{hours-next}
use Rattle.market_model.specs.declared.command.Command.{Command}
use Rattle.market_model.specs.declared.command.Command.TheVariants as command
use Rattle.market_model.specs.declared.refusal.Refusal.{Refusal}
use Rattle.market_model.specs.declared.setup.Setup.{Setup}
use Rattle.market_model.specs.Rules.{ascends, basket_is_good, early_refusal, hours_concerned, is_block_period, period_is_good}
use Rattle.market_model.specs.LetIn.{IsNoEntry}
use Rattle.laws_of_market.proofs.Admitted.{NamesWhatIs, naming-none}
use Rattle.laws_of_market.proofs.Admitting.{IsNamed, early-none, is-no_entry}
use Rattle.desk_changes.specs.State.{HourState}
use Rattle.hour_desk.specs.Placed.{IsPlaced}

-- it concerns the hour alone
pub concerned : (setup : Setup) (hour : HourState) (caller : ℕ) (given : Command) → IsPlaced setup hour caller given → early_refusal setup caller given ≡ None
    → hours_concerned given ≡ hour.board.hour ∷ []
concerned setup hour caller given placed early =
    let names : IsNamed setup caller given = early-none setup caller given early in
    ap (λ (o : Option Refusal). if is_none o then hours_concerned given else []) (sym names.naming) ∙ placed.alone

names : (setup : Setup) (caller : ℕ) (given : Command) → early_refusal setup caller given ≡ None → NamesWhatIs setup caller given
names setup caller given early = naming-none setup caller given (early-none setup caller given early).naming

-- a period of blocks has more than one hour
more-hours : (first last hour : ℕ) → is_block_period first last ≡ true → hours_from first last ≡ hour ∷ [] → ⊥
more-hours first last hour period one =
    let before = ltb-true first last (and_parts (nat_lt first last) (nat_le (last + 1 - first) 24) period).0 in
    let two : hours_from first last ≡ first ∷ ((first + 1) ∷ hours_from ((first + 1) + 1) last) =
    hours-next first last (omega arith) ∙ ap (λ hours. first ∷ hours) (hours-next (first + 1) last (omega arith)) in
    cc

-- a basket has more than one order
more-orders : (orders : List Order) (hour : ℕ) → is_within 2 8 (length orders) ≡ true → map (λ (order : Order). order.contract.hour) orders ≡ hour ∷ [] → ⊥
more-orders orders hour size one =
    let least = leb-true 2 (length orders) (and_parts (nat_le 2 (length orders)) (nat_le (length orders) 8) size).0 in
    let count : length orders ≡ 1 = sym (length-map orders (λ (order : Order). order.contract.hour)) ∙ ap length one in
    omega arith

module _ (setup : Setup) (hour : HourState) (caller : ℕ) (given : Command) (placed : IsPlaced setup hour caller given) (early : early_refusal setup caller given ≡ None) where
  period : period_is_good given ≡ true
  period = (names setup caller given early).period

  one : hours_concerned given ≡ hour.board.hour ∷ []
  one = concerned setup hour caller given placed early

  -- so it enters no block, has none matched, and enters no basket
  pub no-block : (order : BlockOrder) → ¬ (given ≡ command.EnterBlock order)
  no-block order is =
      more-hours order.first order.last hour.board.hour (ap period_is_good (sym is) ∙ period) (ap hours_concerned (sym is) ∙ one)

  pub no-matching : (first last : ℕ) → ¬ (given ≡ command.Blocks first last)
  no-matching first last is = more-hours first last hour.board.hour (ap period_is_good (sym is) ∙ period) (ap hours_concerned (sym is) ∙ one)

  pub no-basket : (orders : List Order) → ¬ (given ≡ command.EnterBasket orders)
  no-basket orders is =
      let good : basket_is_good (command.EnterBasket orders) ≡ true = ap basket_is_good (sym is) ∙ (names setup caller given early).basket in
      let sized = and_parts (is_within 2 8 (length orders)) (ascends (map (λ (order : Order). order.contract.hour) orders))
      (and_parts (is_within 2 8 (length orders) && ascends (map (λ (order : Order). order.contract.hour) orders))
      (list_all (λ (order : Order). is_fill_or_kill order.kind) orders) good).0 in
      more-orders orders hour.board.hour sized.0 (ap hours_concerned (sym is) ∙ one)

  -- a command that enters no order enters nothing
  pub no-entry : ((order : Order) → ¬ (given ≡ command.Enter order)) → IsNoEntry given
  no-entry no_order = is-no_entry given no_order no-block no-basket

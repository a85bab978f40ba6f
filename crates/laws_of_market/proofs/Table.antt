-- A command is refused only by the rules that the table has for it.
use Rattle.std.proofs.Common.{◌≡◌, ◌∙◌, inl, inr, ℕ, zero, suc, ◌<◌, ◌&&◌, Bool, true, false, List, [], ◌∷◌, length, Option, Some, None, nat_lt, refl, sym, ap, subst, if◌then◌else◌, arith}
use Rattle.std.proofs.lemmas.Bool.{true≢false}
use Rattle.std.specs.List.{list_all, slice_get}
use Rattle.std.specs.Option.{option_and_then, option_map}
use Rattle.order_kinds.specs.declared.order.Kind.{Kind}
use Rattle.order_kinds.specs.declared.order.Kind.TheVariants as kind
use Rattle.order_kinds.specs.declared.order.Order.{Order}
use Rattle.order_kinds.specs.Contract.{is_known}
use Rattle.order_kinds.specs.Period.{is_within, range_quarters}
use Rattle.order_kinds.specs.Price.{lots_in_range, price_in_range}
use Rattle.zone_graph.specs.declared.route.Arc.{Arc}
use Rattle.zone_graph.specs.Graph.{Graph, zone_count}
use Rattle.zone_graph.specs.Grid.{arc_between}
use Rattle.zone_graph.specs.Route.{IsIn}
use Rattle.market_model.specs.declared.command.Command.{Command}
use Rattle.market_model.specs.declared.command.Command.TheVariants as command
use Rattle.market_model.specs.declared.event.Event.{Event}
use Rattle.market_model.specs.declared.refusal.Refusal.{Refusal}
use Rattle.market_model.specs.declared.refusal.Refusal.TheVariants as refusal
use Rattle.market_model.specs.declared.setup.Caller.{Caller}
use Rattle.market_model.specs.declared.setup.Role.{Role}
use Rattle.market_model.specs.declared.setup.Role.TheVariants as role
use Rattle.market_model.specs.declared.setup.Setup.{Setup}
use Rattle.market_model.specs.Blocks.{StandingBlock, partner_found}
use Rattle.market_model.specs.Entering.{rest_of}
use Rattle.market_model.specs.Grid.{graph_of}
use Rattle.market_model.specs.RefusalTable.{Rule, can_refuse, rule_of}
use Rattle.market_model.specs.Refusals.{basket_order_refusal, basket_refusal, below_flow, block_desk_refusal, can_rest, closed_hour, desk_refusal, gate_refusal, no_room, offer_refusal, order_desk_refusal, order_is_known, reduces, refusal_of_command, request_refusal, rules, unfilled_refusal}
use Rattle.market_model.specs.Rules.{basket_is_good, border_is_known, first_broken, has_right, hours_named, may_give, naming_refusal, naming_rules, numbers_refusal, numbers_rules, offer_in_range, parts_named, peaks_are_good, period_is_good, prices_named, quantities_named, unless, zones_named}
use Rattle.market_model.specs.Sweep.{first_answer}
use Rattle.laws_of_market.proofs.Members.{from_first_answer}

-- a broken rule's test does not hold
record IsUnless (b : Bool) (named broken : Refusal) : Type 0 where
  fails : b ≡ false
  is : named ≡ broken

unless-some : (b : Bool) (named broken : Refusal) → unless b named ≡ Some broken → IsUnless b named broken
unless-some true named broken e = absurd (cc)
unless-some false named broken e = let same : named ≡ broken = cc in record { fails = refl; is = same }

-- whoever is a caller has a role
caller_found : (callers : List Caller) (caller : ℕ) → caller < length callers → (found : Caller) × (slice_get callers caller ≡ Some found)
caller_found [] caller within = absurd (omega arith)
caller_found (first ∷ callers) zero within = (first, refl)
caller_found (first ∷ callers) (suc caller) within = caller_found callers caller (omega arith)

right-either : (setup : Setup) (caller : ℕ) (given : Command) → caller < length setup.callers → ((r : Role) → may_give r given ≡ true) → has_right setup caller given ≡ true
right-either setup caller given within either =
    let found = caller_found setup.callers caller within in rw found.1 (either found.0.role)

-- ---- each rule by itself: where it is broken, the table has it

by_role : (setup : Setup) (caller : ℕ) (given : Command) → caller < length setup.callers → has_right setup caller given ≡ false → can_refuse given Rule.on_role ≡ true
by_role setup caller (command.Blocks first last) within e = absurd (true≢false (sym (right-either setup caller (command.Blocks first last) within (λ r. either r)) ∙ e))
  where
    either : (r : Role) → may_give r (command.Blocks first last) ≡ true
    either role.Trader = refl
    either role.Operator = refl
by_role setup caller (command.Request from to first last lots) within e = absurd (true≢false (sym (right-either setup caller (command.Request from to first last lots) within (λ r. either r)) ∙ e))
  where
    either : (r : Role) → may_give r (command.Request from to first last lots) ≡ true
    either role.Trader = refl
    either role.Operator = refl
by_role setup caller (command.View contract side zone) within e = absurd (true≢false (sym (right-either setup caller (command.View contract side zone) within (λ r. either r)) ∙ e))
  where
    either : (r : Role) → may_give r (command.View contract side zone) ≡ true
    either role.Trader = refl
    either role.Operator = refl
by_role setup caller _ within e = refl

by_hour : (given : Command) → can_refuse given Rule.on_hour ≡ true
by_hour (command.Enter order) = refl
by_hour _ = refl

by_contract : (given : Command) → list_all is_known (parts_named given) ≡ false → can_refuse given Rule.on_contract ≡ true
by_contract (command.Enter order) e = refl
by_contract (command.EnterBasket orders) e = refl
by_contract (command.Offer from to first last lots) e = refl
by_contract (command.Request from to first last lots) e = refl
by_contract (command.View contract side zone) e = refl
by_contract _ e = absurd (true≢false e)

by_zone : (pass : ℕ → Bool) (given : Command) → list_all pass (zones_named given) ≡ false → can_refuse given Rule.on_zone ≡ true
by_zone pass (command.Cancel name) e = absurd (true≢false e)
by_zone pass (command.Reduce name to) e = absurd (true≢false e)
by_zone pass (command.Blocks first last) e = absurd (true≢false e)
by_zone pass (command.Gate hour phase) e = absurd (true≢false e)
by_zone pass _ e = refl

by_border : (graph : Graph) (given : Command) → border_is_known graph given ≡ false → can_refuse given Rule.on_border ≡ true
by_border graph (command.Offer from to first last lots) e = refl
by_border graph (command.Request from to first last lots) e = refl
by_border graph (command.Halt from to first last) e = refl
by_border graph (command.Resume from to first last) e = refl
by_border graph _ e = absurd (true≢false e)

by_period : (given : Command) → period_is_good given ≡ false → can_refuse given Rule.on_period ≡ true
by_period (command.EnterBlock order) e = refl
by_period (command.Blocks first last) e = refl
by_period (command.Offer from to first last lots) e = refl
by_period (command.Request from to first last lots) e = refl
by_period (command.Halt from to first last) e = refl
by_period (command.Resume from to first last) e = refl
by_period _ e = absurd (true≢false e)

by_basket : (given : Command) → basket_is_good given ≡ false → can_refuse given Rule.on_basket ≡ true
by_basket (command.EnterBasket orders) e = refl
by_basket _ e = absurd (true≢false e)

by_price : (given : Command) → list_all price_in_range (prices_named given) ≡ false → can_refuse given Rule.on_price ≡ true
by_price (command.Enter order) e = refl
by_price (command.EnterBlock order) e = refl
by_price (command.EnterBasket orders) e = refl
by_price _ e = absurd (true≢false e)

by_quantity : (given : Command) → (list_all lots_in_range (quantities_named given) && offer_in_range given) ≡ false → can_refuse given Rule.on_quantity ≡ true
by_quantity (command.Enter order) e = refl
by_quantity (command.EnterBlock order) e = refl
by_quantity (command.EnterBasket orders) e = refl
by_quantity (command.Reduce name to) e = refl
by_quantity (command.Offer from to first last lots) e = refl
by_quantity (command.Request from to first last lots) e = refl
by_quantity _ e = absurd (true≢false e)

by_peak : (given : Command) → peaks_are_good given ≡ false → can_refuse given Rule.on_peak ≡ true
by_peak (command.Enter order) e = refl
by_peak _ e = absurd (true≢false e)

by_reduction : (events : List Event) (caller : ℕ) (given : Command) → reduces events caller given ≡ false → can_refuse given Rule.on_quantity ≡ true
by_reduction events caller (command.Reduce name to) e = refl
by_reduction events caller _ e = absurd (true≢false e)

by_closing : (events : List Event) (given : Command) (hour : ℕ) → closed_hour events given ≡ Some hour → can_refuse given Rule.on_closing ≡ true
by_closing events (command.Gate gated phase) hour e = absurd (cc)
by_closing events (command.View contract side zone) hour e = absurd (cc)
by_closing events _ hour e = refl

by_gate : (events : List Event) (given : Command) (broken : Refusal) → gate_refusal events given ≡ Some broken → can_refuse given (rule_of broken) ≡ true
by_gate events (command.Gate hour asked) broken e =
    let is = unless-some _ _ broken e in subst (λ b. can_refuse (command.Gate hour asked) (rule_of b) ≡ true) is.is refl
by_gate events _ broken e = absurd (cc)

by_ownership : (events : List Event) (caller : ℕ) (given : Command) → order_is_known events caller given ≡ false → can_refuse given Rule.on_ownership ≡ true
by_ownership events caller (command.Cancel name) e = refl
by_ownership events caller (command.Reduce name to) e = refl
by_ownership events caller _ e = absurd (true≢false e)

-- the first answer of a list of answers that are of one rule is of that rule
of_one_rule : {X : Type 0} (rule : Rule) (given : Command) (ask : X → Option Refusal) (xs : List X) (broken : Refusal)
    → ((x : X) (b : Refusal) → ask x ≡ Some b → can_refuse given (rule_of b) ≡ true)
    → first_answer ask xs ≡ Some broken → can_refuse given (rule_of broken) ≡ true
of_one_rule rule given ask xs broken each e = let x = from_first_answer ask broken xs e in each x.0 broken x.2

by_flow : (graph : Graph) (events : List Event) (given : Command) (broken : Refusal) → offer_refusal graph events given ≡ Some broken → can_refuse given (rule_of broken) ≡ true
by_flow graph events (command.Offer from to first last lots) broken e = go (arc_between graph from to) e
  where
    go : (o : Option Arc) → option_and_then (λ arc. first_answer (below_flow events arc lots) (range_quarters first last)) o ≡ Some broken
        → can_refuse (command.Offer from to first last lots) (rule_of broken) ≡ true
    go None k = absurd (cc)
    go (Some arc) k = of_one_rule Rule.on_flowing (command.Offer from to first last lots) (below_flow events arc lots) (range_quarters first last) broken
        (λ quarter b h. let is = unless-some _ _ b h in subst (λ r. can_refuse (command.Offer from to first last lots) (rule_of r) ≡ true) is.is refl) k
by_flow graph events _ broken e = absurd (cc)

by_room : (graph : Graph) (events : List Event) (given : Command) (broken : Refusal) → request_refusal graph events given ≡ Some broken → can_refuse given (rule_of broken) ≡ true
by_room graph events (command.Request from to first last lots) broken e = go (arc_between graph from to) e
  where
    go : (o : Option Arc) → option_and_then (λ arc. first_answer (no_room events arc lots) (range_quarters first last)) o ≡ Some broken
        → can_refuse (command.Request from to first last lots) (rule_of broken) ≡ true
    go None k = absurd (cc)
    go (Some arc) k = of_one_rule Rule.on_room (command.Request from to first last lots) (no_room events arc lots) (range_quarters first last) broken
        (λ quarter b h. let is = unless-some _ _ b h in subst (λ r. can_refuse (command.Request from to first last lots) (rule_of r) ≡ true) is.is refl) k
by_room graph events _ broken e = absurd (cc)

by_filling : (graph : Graph) (events : List Event) (caller : ℕ) (given : Command) (broken : Refusal) → unfilled_refusal graph events caller given ≡ Some broken
    → can_refuse given (rule_of broken) ≡ true
by_filling graph events caller (command.Enter order) broken e = go order.kind refl e
  where
    go : (k : Kind) → order.kind ≡ k → unfilled_refusal graph events caller (command.Enter order) ≡ Some broken → can_refuse (command.Enter order) (rule_of broken) ≡ true
    go kind.Fok is h =
        let is_broken = unless-some _ _ broken (rw is at h) in
        subst (λ b. can_refuse (command.Enter order) (rule_of b) ≡ true) is_broken.is (rw is refl)
    go kind.Limit is h = let none = rw is at h in absurd (cc)
    go kind.Ioc is h = let none = rw is at h in absurd (cc)
    go (kind.Iceberg peak delta) is h = let none = rw is at h in absurd (cc)
by_filling graph events caller _ broken e = absurd (cc)

by_baskets_filling : (graph : Graph) (events : List Event) (caller : ℕ) (given : Command) (broken : Refusal) → basket_refusal graph events caller given ≡ Some broken
    → can_refuse given (rule_of broken) ≡ true
by_baskets_filling graph events caller (command.EnterBasket orders) broken e =
    of_one_rule Rule.on_basket_filling (command.EnterBasket orders) (basket_order_refusal graph events caller) orders broken
    (λ order b h. let is = unless-some _ _ b h in subst (λ r. can_refuse (command.EnterBasket orders) (rule_of r) ≡ true) is.is refl) e
by_baskets_filling graph events caller _ broken e = absurd (cc)

-- the table has the desk for an order that can rest
rests-listed : (order : Order) → can_rest order.kind ≡ true → can_refuse (command.Enter order) Rule.on_desk ≡ true
rests-listed order e = go order.kind refl e
  where
    go : (k : Kind) → order.kind ≡ k → can_rest k ≡ true → can_refuse (command.Enter order) Rule.on_desk ≡ true
    go kind.Limit is h = rw is refl
    go (kind.Iceberg peak delta) is h = rw is refl
    go kind.Ioc is h = absurd (true≢false (sym h))
    go kind.Fok is h = absurd (true≢false (sym h))

by_desk : (graph : Graph) (events : List Event) (caller : ℕ) (given : Command) (broken : Refusal) → desk_refusal graph events caller given ≡ Some broken
    → can_refuse given (rule_of broken) ≡ true
by_desk graph events caller (command.Enter order) broken e = by_test (can_rest order.kind) refl e
  where
    by_rest : (n : ℕ) → rest_of graph events caller order ≡ n → order_desk_refusal graph events caller order ≡ Some broken → refusal.DeskFull ≡ broken
    by_rest zero is h = let none = rw is at h in absurd (cc)
    by_rest (suc more) is h = (unless-some _ _ broken (rw is at h)).is

    by_test : (b : Bool) → can_rest order.kind ≡ b → (if b then order_desk_refusal graph events caller order else None) ≡ Some broken
        → can_refuse (command.Enter order) (rule_of broken) ≡ true
    by_test true rests h =
        subst (λ b. can_refuse (command.Enter order) (rule_of b) ≡ true) (by_rest (rest_of graph events caller order) refl h) (rests-listed order rests)
    by_test false rests h = absurd (cc)
by_desk graph events caller (command.EnterBlock order) broken e = go (partner_found graph events caller order) refl e
  where
    go : (o : Option StandingBlock) → partner_found graph events caller order ≡ o → block_desk_refusal graph events caller order ≡ Some broken
        → can_refuse (command.EnterBlock order) (rule_of broken) ≡ true
    go None is h = subst (λ b. can_refuse (command.EnterBlock order) (rule_of b) ≡ true) (unless-some _ _ broken (rw is at h)).is refl
    go (Some maker) is h = let none = rw is at h in absurd (cc)
by_desk graph events caller _ broken e = absurd (cc)

-- ---- all rules

-- the rule that is broken first, among several
broken_rule : (several : List (Unit {0} → Option Refusal)) (broken : Refusal) → first_broken several ≡ Some broken
    → (rule : Unit {0} → Option Refusal) × IsIn rule several × (rule tt ≡ Some broken)
broken_rule several broken e = from_first_answer (λ (rule : Unit {0} → Option Refusal). rule tt) broken several e

-- what a rule that is another one answers
at_rule : {other : Unit {0} → Option Refusal} (rule : Unit {0} → Option Refusal) (broken : Refusal) → rule tt ≡ Some broken → rule ≡ other → other tt ≡ Some broken
at_rule rule broken is same = sym (ap (λ (r : Unit {0} → Option Refusal). r tt) same) ∙ is

-- a rule that names one refusal where its test does not hold
named_by : (given : Command) (b : Bool) (named broken : Refusal) → (b ≡ false → can_refuse given (rule_of named) ≡ true) → unless b named ≡ Some broken
    → can_refuse given (rule_of broken) ≡ true
named_by given b named broken listed e =
    let is = unless-some b named broken e in subst (λ r. can_refuse given (rule_of r) ≡ true) is.is (listed is.fails)

by_naming : (setup : Setup) (caller : ℕ) (given : Command) (broken : Refusal) → caller < length setup.callers → naming_refusal setup caller given ≡ Some broken
    → can_refuse given (rule_of broken) ≡ true
unfolding naming_refusal
by_naming setup caller given broken within e =
    let found = broken_rule (naming_rules setup caller given) broken e in
    elim found.1 [
      | inl s ↦ named_by given (has_right setup caller given) refusal.WrongRole broken (by_role setup caller given within) (at_rule found.0 broken found.2 s)
      | inr i ↦ elim i [
        | inl s ↦ named_by given (list_all (is_within 1 setup.hours) (hours_named given)) refusal.UnknownHour broken (λ h. by_hour given) (at_rule found.0 broken found.2 s)
        | inr i ↦ elim i [
          | inl s ↦ named_by given (list_all is_known (parts_named given)) refusal.UnknownContract broken (by_contract given) (at_rule found.0 broken found.2 s)
          | inr i ↦ elim i [
            | inl s ↦ named_by given (list_all (λ zone. nat_lt zone (zone_count (graph_of setup))) (zones_named given)) refusal.UnknownZone broken
                (by_zone (λ zone. nat_lt zone (zone_count (graph_of setup))) given) (at_rule found.0 broken found.2 s)
            | inr i ↦ elim i [
              | inl s ↦ named_by given (border_is_known (graph_of setup) given) refusal.UnknownBorder broken (by_border (graph_of setup) given) (at_rule found.0 broken found.2 s)
              | inr i ↦ elim i [
                | inl s ↦ named_by given (period_is_good given) refusal.BadPeriod broken (by_period given) (at_rule found.0 broken found.2 s)
                | inr i ↦ elim i [
                  | inl s ↦ named_by given (basket_is_good given) refusal.BadBasket broken (by_basket given) (at_rule found.0 broken found.2 s)
                  | inr i ↦ absurd i
                ]
              ]
            ]
          ]
        ]
      ]
    ]

by_numbers : (given : Command) (broken : Refusal) → numbers_refusal given ≡ Some broken → can_refuse given (rule_of broken) ≡ true
unfolding numbers_refusal
by_numbers given broken e =
    let found = broken_rule (numbers_rules given) broken e in
    elim found.1 [
      | inl s ↦ named_by given (list_all price_in_range (prices_named given)) refusal.PriceOutOfRange broken (by_price given) (at_rule found.0 broken found.2 s)
      | inr i ↦ elim i [
        | inl s ↦ named_by given (list_all lots_in_range (quantities_named given) && offer_in_range given) refusal.QuantityOutOfRange broken (by_quantity given) (at_rule found.0 broken found.2 s)
        | inr i ↦ elim i [
          | inl s ↦ named_by given (peaks_are_good given) refusal.BadPeak broken (by_peak given) (at_rule found.0 broken found.2 s)
          | inr i ↦ absurd i
        ]
      ]
    ]

closed_named : (given : Command) (o : Option ℕ) (broken : Refusal) → ((hour : ℕ) → o ≡ Some hour → can_refuse given Rule.on_closing ≡ true)
    → option_map (λ hour. refusal.Closed hour) o ≡ Some broken → can_refuse given (rule_of broken) ≡ true
closed_named given None broken listed e = absurd (cc)
closed_named given (Some hour) broken listed e =
    let same : refusal.Closed hour ≡ broken = cc in subst (λ r. can_refuse given (rule_of r) ≡ true) same (listed hour refl)

-- a command is refused only by the rules that the table has for it
pub refused-by_table : (setup : Setup) (events : List Event) (caller : ℕ) (given : Command) (broken : Refusal) → caller < length setup.callers
    → refusal_of_command setup events caller given ≡ Some broken → can_refuse given (rule_of broken) ≡ true
unfolding refusal_of_command
refused-by_table setup events caller given broken within e =
    let found = broken_rule (rules setup events caller given) broken e in
    elim found.1 [
      | inl s ↦ by_naming setup caller given broken within (at_rule found.0 broken found.2 s)
      | inr i ↦ elim i [
        | inl s ↦ by_numbers given broken (at_rule found.0 broken found.2 s)
        | inr i ↦ elim i [
          | inl s ↦ named_by given (reduces events caller given) refusal.QuantityOutOfRange broken (by_reduction events caller given) (at_rule found.0 broken found.2 s)
          | inr i ↦ elim i [
            | inl s ↦ closed_named given (closed_hour events given) broken (by_closing events given) (at_rule found.0 broken found.2 s)
            | inr i ↦ elim i [
              | inl s ↦ by_gate events given broken (at_rule found.0 broken found.2 s)
              | inr i ↦ elim i [
                | inl s ↦ named_by given (order_is_known events caller given) refusal.UnknownOrder broken (by_ownership events caller given) (at_rule found.0 broken found.2 s)
                | inr i ↦ elim i [
                  | inl s ↦ by_flow (graph_of setup) events given broken (at_rule found.0 broken found.2 s)
                  | inr i ↦ elim i [
                    | inl s ↦ by_room (graph_of setup) events given broken (at_rule found.0 broken found.2 s)
                    | inr i ↦ elim i [
                      | inl s ↦ by_filling (graph_of setup) events caller given broken (at_rule found.0 broken found.2 s)
                      | inr i ↦ elim i [
                        | inl s ↦ by_baskets_filling (graph_of setup) events caller given broken (at_rule found.0 broken found.2 s)
                        | inr i ↦ elim i [
                          | inl s ↦ by_desk (graph_of setup) events caller given broken (at_rule found.0 broken found.2 s)
                          | inr i ↦ absurd i
                        ]
                      ]
                    ]
                  ]
                ]
              ]
            ]
          ]
        ]
      ]
    ]

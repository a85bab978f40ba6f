-- The rules on who asks and what is named, by the answers of their tests.
use Rattle.std.proofs.Common.{◌≡◌, ℕ, ◌≤◌, Bool, true, false, List, [], ◌∷◌, nat_le, nat_lt, Some, None, refl, subst, arith}
use Rattle.std.proofs.lemmas.Bool.{and_from, and_parts, le-leb, leb-true}
use Rattle.std.specs.List.{list_all}
use Rattle.order_kinds.specs.Contract.{is_known}
use Rattle.order_kinds.specs.Period.{is_within}
use Rattle.zone_graph.specs.Graph.{Graph, zone_count}
use Rattle.market_model.specs.declared.command.Command.{Command}
use Rattle.market_model.specs.declared.refusal.Refusal.TheVariants as refusal
use Rattle.market_model.specs.declared.setup.Setup.{Setup}
use Rattle.market_model.specs.Grid.{graph_of}
use Rattle.market_model.specs.Rules.{basket_is_good, border_is_known, has_right, hours_named, naming_refusal, parts_named, period_is_good, unless, zones_named}
use Rattle.market_model.specs.Sweep.{or_else}

-- the zones that a command names are there
abbrev pub zones_are_known : Graph → Command → Bool
zones_are_known graph given = list_all (λ zone. nat_lt zone (zone_count graph)) (zones_named given)

-- where the tests before that of the zones hold and it does not, an unknown zone is the refusal
pub zone_refused : (graph : Graph) (setup : Setup) (caller : ℕ) (given : Command) → graph ≡ graph_of setup
    → has_right setup caller given ≡ true → list_all (is_within 1 setup.hours) (hours_named given) ≡ true
    → list_all is_known (parts_named given) ≡ true → zones_are_known graph given ≡ false
    → Some refusal.UnknownZone ≡ naming_refusal setup caller given
unfolding naming_refusal
zone_refused graph setup caller given same right hours parts zones =
    let unknown : zones_are_known (graph_of setup) given ≡ false = subst (λ g. zones_are_known g given ≡ false) same zones in
    rw (right, hours, parts, unknown) refl

-- where the tests before that of the basket hold, it decides
pub basket_decides : (graph : Graph) (setup : Setup) (caller : ℕ) (given : Command) → graph ≡ graph_of setup
    → has_right setup caller given ≡ true → list_all (is_within 1 setup.hours) (hours_named given) ≡ true
    → list_all is_known (parts_named given) ≡ true → zones_are_known graph given ≡ true
    → border_is_known graph given ≡ true → period_is_good given ≡ true
    → (good : Bool) → basket_is_good given ≡ good → unless good refusal.BadBasket ≡ naming_refusal setup caller given
unfolding naming_refusal
basket_decides graph setup caller given same right hours parts zones border period good basket =
    let known : zones_are_known (graph_of setup) given ≡ true = subst (λ g. zones_are_known g given ≡ true) same zones in
    let joined : border_is_known (graph_of setup) given ≡ true = subst (λ g. border_is_known g given ≡ true) same border in
    rw (right, hours, parts, known, joined, period, basket)
    (elim good as (λ b. unless b refusal.BadBasket ≡ or_else (unless b refusal.BadBasket) (λ _. None)) [ true ↦ refl | false ↦ refl ])

-- hours of a day are hours of a longer one
pub within_more : (hours most : ℕ) (named : List ℕ) → hours ≤ most → list_all (is_within 1 hours) named ≡ true → list_all (is_within 1 most) named ≡ true
within_more hours most [] few known = refl
within_more hours most (hour ∷ named) few known =
    let both = and_parts (is_within 1 hours hour) (list_all (is_within 1 hours) named) known in
    let ends = and_parts (nat_le 1 hour) (nat_le hour hours) both.0 in
    let low = leb-true hour hours ends.1 in
    and_from (is_within 1 most hour) (list_all (is_within 1 most) named)
    (and_from (nat_le 1 hour) (nat_le hour most) ends.0 (le-leb hour most (omega arith)))
    (within_more hours most named few both.1)

-- How much is left of an order or block, and what closes it.
use Rattle.std.proofs.Common.{◌≡◌, ℕ, ◌+◌, ◌<◌, ◌≤◌, Bool, true, false, List, [], refl, subst, arith}
use Rattle.std.proofs.lemmas.Bool.{ltb-false, ltb-true}
use Rattle.order_kinds.specs.declared.order.OrderName.{OrderName}
use Rattle.order_kinds.specs.Same.{same_name}
use Rattle.zone_graph.specs.Pour.{lots_if}
use Rattle.market_model.specs.declared.event.Event.{Event}
use Rattle.market_model.specs.declared.event.Event.TheVariants as event
use Rattle.market_model.specs.declared.setup.Setup.{Setup}
use Rattle.market_model.specs.History.{and_then}
use Rattle.market_model.specs.Orders.{entered, entered_by, filled_by, is_open, left, taken_off_by}
use Rattle.market_model.specs.WellFormed.{FitAfter, Fits}
use Rattle.laws_of_market.proofs.Growing.{grows}
use Rattle.laws_of_market.proofs.Names.{block_name-new, names-once, order_name-new, times_entered}
use Rattle.laws_of_market.proofs.Repeats.{fit-more}
use Rattle.laws_of_market.proofs.Soundness.{block_fault-none, lots_in_range-bounds, order_fault-none}
use Rattle.laws_of_market.proofs.States.{entered-more, filled-more, taken_off-more}
use Rattle.laws_of_market.proofs.Tests.{same_name-eq}
use Rattle.laws_of_market.proofs.Unique.{entered-none}

-- no more than the greatest quantity was entered of any name
record IsBounded (setup : Setup) (events : List Event) : Type 0 where
  fit : FitAfter setup [] events
  most : (name : OrderName) → entered events name ≤ 9990

-- a new name gets at most the greatest quantity
new-most : (events : List Event) (given name : OrderName) (lots : ℕ) → lots ≤ 9990 → entered events name ≤ 9990 → (given ≡ name → entered events name ≡ 0)
    → entered events name + lots_if (same_name given name) lots ≤ 9990
new-most events given name lots few most new = go (same_name given name) refl
  where
    go : (t : Bool) → same_name given name ≡ t → entered events name + lots_if t lots ≤ 9990
    go true is = let none = new (same_name-eq given name is) in omega (arith, none)
    go false is = omega arith

bounded-by : (setup : Setup) (before : List Event) (e : Event) → IsBounded setup before → Fits setup before e → (name : OrderName)
    → entered before name + entered_by name e ≤ 9990
bounded-by setup before (event.Entered given caller order) so_far fits name =
    let new : given ≡ name → entered before name ≡ 0 = λ same. entered-none name before
    (subst (λ n. times_entered before n ≡ 0) same (order_name-new setup before given caller order (names-once setup before so_far.fit) fits)) in
    new-most before given name order.quantity.0 (lots_in_range-bounds order.quantity (order_fault-none order fits.sound).quantity).1 (so_far.most name) new
bounded-by setup before (event.EnteredBlock given caller order) so_far fits name =
    let new : given ≡ name → entered before name ≡ 0 = λ same. entered-none name before
    (subst (λ n. times_entered before n ≡ 0) same (block_name-new setup before given caller order (names-once setup before so_far.fit) fits)) in
    new-most before given name order.quantity.0 (lots_in_range-bounds order.quantity (block_fault-none order fits.sound).quantity).1 (so_far.most name) new
bounded-by setup before _ so_far fits name = let most = so_far.most name in omega arith

bounded-step : (setup : Setup) (before : List Event) (e : Event) → IsBounded setup before → Fits setup before e → IsBounded setup (and_then before e)
bounded-step setup before e so_far fits = record {
  fit = fit-more setup before e so_far.fit fits;
  most = λ name. let more = entered-more before e name in let most = bounded-by setup before e so_far fits name in omega (arith, more);
}

pub left-most : (setup : Setup) (events : List Event) → FitAfter setup [] events → (name : OrderName) → left events name ≤ 9990
left-most setup events fit name =
    let bounded = grows setup (IsBounded setup) (bounded-step setup) [] events fit (record { fit = tt; most = λ other. omega arith }) in
    let most = bounded.most name in
    omega arith

-- what closes an order fills it or takes it off
pub closes-by : (before : List Event) (e : Event) (name : OrderName) → is_open before name ≡ true → is_open (and_then before e) name ≡ false
    → 1 ≤ filled_by name e + taken_off_by name e
closes-by before e name opened closed =
    let some : 0 < left before name = ltb-true 0 (left before name) opened in
    let none : left (and_then before e) name ≤ 0 = ltb-false 0 (left (and_then before e) name) closed in
    let entries = entered-more before e name in
    let fills = filled-more before e name in
    let takes = taken_off-more before e name in
    omega (arith, entries, fills, takes)

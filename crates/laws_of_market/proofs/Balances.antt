-- What is filled of an order or block and taken off it never passes what was entered, and a trade
-- lowers what is left of both its sides by its lots.
use Rattle.std.proofs.Common.{◌≡◌, inl, inr, ℕ, ◌+◌, ◌-◌, ◌≤◌, ◌||◌, Bool, true, false, List, [], refl, subst, arith}
use Rattle.std.proofs.lemmas.Bool.{or_cases}
use Rattle.order_kinds.specs.declared.contract.Contract.{Contract}
use Rattle.order_kinds.specs.declared.order.Kind.{Kind}
use Rattle.order_kinds.specs.declared.order.Kind.TheVariants as kind
use Rattle.order_kinds.specs.declared.order.OrderName.{OrderName}
use Rattle.order_kinds.specs.Same.{same_name}
use Rattle.zone_graph.specs.Pour.{lots_if}
use Rattle.market_model.specs.declared.event.Event.{Event}
use Rattle.market_model.specs.declared.event.Event.TheVariants as event
use Rattle.market_model.specs.declared.event.Leg.{Leg}
use Rattle.market_model.specs.declared.setup.Setup.{Setup}
use Rattle.market_model.specs.History.{and_then}
use Rattle.market_model.specs.Orders.{entered, filled, filled_by, left, names, shown_lots, taken_off, taken_off_by}
use Rattle.market_model.specs.WellFormed.{FitAfter, Fits, LegFits}
use Rattle.laws_of_market.proofs.Growing.{grows}
use Rattle.laws_of_market.proofs.States.{entered-more, filled-more, left-more, taken_off-more}
use Rattle.laws_of_market.proofs.Tests.{same_name-eq, same_name-refl}

-- no order shows more than is left of it
pub shown-le-left : (kind : Kind) (filled left : ℕ) → shown_lots kind filled left ≤ left
shown-le-left kind.Limit filled left = omega arith
shown-le-left kind.Ioc filled left = omega arith
shown-le-left kind.Fok filled left = omega arith
shown-le-left (kind.Iceberg peak delta) filled left = omega arith

-- a leg that fits takes no more than is left of its taker and of its maker
pub taker_has-leg : (setup : Setup) (before : List Event) (contract : Contract) (leg : Leg) → LegFits setup before contract leg → leg.lots ≤ left before leg.taker
taker_has-leg setup before contract leg fits =
    let most = shown-le-left fits.taker.order.kind (filled before fits.taker.name) (left before fits.taker.name) in
    let shows = fits.taker_shows in
    subst (λ n. leg.lots ≤ left before n) fits.taker_open.is_named (omega arith)

pub maker_has-leg : (setup : Setup) (before : List Event) (contract : Contract) (leg : Leg) → LegFits setup before contract leg → leg.lots ≤ left before leg.maker
maker_has-leg setup before contract leg fits =
    let most = shown-le-left fits.maker.order.kind (filled before fits.maker.name) (left before fits.maker.name) in
    let shows = fits.maker_shows in
    subst (λ n. leg.lots ≤ left before n) fits.maker_open.is_named (omega arith)

-- lots that are taken no further than both sides have them are no more than is left of whoever is
-- named
named_has : (before : List Event) (leg : Leg) (name : OrderName) → leg.lots ≤ left before leg.taker → leg.lots ≤ left before leg.maker
    → lots_if (names leg name) leg.lots ≤ left before name
named_has before leg name taker maker = go (names leg name) refl
  where
    go : (b : Bool) → names leg name ≡ b → lots_if b leg.lots ≤ left before name
    go false e = omega arith
    go true e = elim (or_cases (same_name leg.taker name) (same_name leg.maker name) e) [
      | inl t ↦ subst (λ n. leg.lots ≤ left before n) (same_name-eq leg.taker name t) taker
      | inr m ↦ subst (λ n. leg.lots ≤ left before n) (same_name-eq leg.maker name m) maker
    ]

named_off : (before : List Event) (withdrawn name : OrderName) (lots : ℕ) → lots ≤ left before withdrawn
    → lots_if (same_name withdrawn name) lots ≤ left before name
named_off before withdrawn name lots most = go (same_name withdrawn name) refl
  where
    go : (b : Bool) → same_name withdrawn name ≡ b → lots_if b lots ≤ left before name
    go false e = omega arith
    go true e = subst (λ n. lots ≤ left before n) (same_name-eq withdrawn name e) most

-- what a fitting event fills and takes off of a name is no more than is left of it
pub takes-le-left : (setup : Setup) (before : List Event) (e : Event) → Fits setup before e → (name : OrderName)
    → filled_by name e + taken_off_by name e ≤ left before name
takes-le-left setup before (event.Leg contract leg) fits name =
    let most = named_has before leg name (taker_has-leg setup before contract leg fits) (maker_has-leg setup before contract leg fits) in omega arith
takes-le-left setup before (event.BlockLeg first last leg) fits name =
    let most = named_has before leg name fits.taker_has fits.maker_has in omega arith
takes-le-left setup before (event.Withdrawn given lots) fits name =
    let all = fits.all_left in let most = named_off before given name lots (omega arith) in omega arith
takes-le-left setup before (event.Reduced given by) fits name =
    let less = fits.less in let most = named_off before given name by (omega arith) in omega arith
takes-le-left setup before _ fits name = omega arith

-- what is filled and taken off is no more than what was entered
abbrev pub IsCovered : List Event → Type 0
IsCovered events = (name : OrderName) → filled events name + taken_off events name ≤ entered events name

covered-fit : (setup : Setup) (before : List Event) (e : Event) → IsCovered before → Fits setup before e → IsCovered (and_then before e)
covered-fit setup before e covered fits name =
    let had = covered name in
    let most = takes-le-left setup before e fits name in
    rw (entered-more before e name, filled-more before e name, taken_off-more before e name) (omega arith)

pub covered : (setup : Setup) (events : List Event) → FitAfter setup [] events → IsCovered events
covered setup events fit = grows setup IsCovered (covered-fit setup) [] events fit (λ name. omega arith)

-- so what was entered is what is left, filled and taken off
pub left-filled-taken_off : (setup : Setup) (events : List Event) → FitAfter setup [] events → (name : OrderName)
    → left events name + filled events name + taken_off events name ≡ entered events name
left-filled-taken_off setup events fit name = let most = covered setup events fit name in omega arith

-- the taker and the maker of a leg are named by it
pub names-taker : (leg : Leg) → names leg leg.taker ≡ true
names-taker leg = or-left (same_name leg.taker leg.taker) (same_name leg.maker leg.taker) (same_name-refl leg.taker)
  where
    or-left : (a b : Bool) → a ≡ true → (a || b) ≡ true
    or-left a b h = rw h refl

pub names-maker : (leg : Leg) → names leg leg.maker ≡ true
names-maker leg = or-right (same_name leg.taker leg.maker) (same_name leg.maker leg.maker) (same_name-refl leg.maker)
  where
    or-right : (a b : Bool) → b ≡ true → (a || b) ≡ true
    or-right true b h = refl
    or-right false b h = h

-- a leg lowers what is left of whoever it names by its lots
pub left-leg : (before : List Event) (contract : Contract) (leg : Leg) (name : OrderName) → names leg name ≡ true
    → left (and_then before (event.Leg contract leg)) name ≡ left before name - leg.lots
left-leg before contract leg name named =
    let less = left-more before (event.Leg contract leg) name refl in
    let lower : left (and_then before (event.Leg contract leg)) name ≡ left before name - (leg.lots + 0) = rw named at less in
    omega arith

pub left-block_leg : (before : List Event) (first last : ℕ) (leg : Leg) (name : OrderName) → names leg name ≡ true
    → left (and_then before (event.BlockLeg first last leg)) name ≡ left before name - leg.lots
left-block_leg before first last leg name named =
    let less = left-more before (event.BlockLeg first last leg) name refl in
    let lower : left (and_then before (event.BlockLeg first last leg)) name ≡ left before name - (leg.lots + 0) = rw named at less in
    omega arith

-- Names are given once: in each hour the orders and blocks that enter are numbered from 1.
use Rattle.std.proofs.Common.{◌≡◌, ℕ, ◌+◌, ◌≤◌, Bool, true, false, cond, List, [], count_by, refl, sym, ap, subst, nat_eq, eq-eqb, arith}
use Rattle.std.proofs.lemmas.List.Sums.{sum_by_push, sum_by-le-sum_by}
use Rattle.order_kinds.specs.declared.order.Order.{Order}
use Rattle.order_kinds.specs.declared.order.BlockOrder.{BlockOrder}
use Rattle.order_kinds.specs.declared.order.OrderName.{OrderName}
use Rattle.order_kinds.specs.Same.{same_name}
use Rattle.market_model.specs.declared.event.Event.{Event}
use Rattle.market_model.specs.declared.event.Event.TheVariants as event
use Rattle.market_model.specs.declared.setup.Setup.{Setup}
use Rattle.market_model.specs.History.{and_then, enters_in, entered_count, enters}
use Rattle.market_model.specs.Orders.{next_name}
use Rattle.market_model.specs.WellFormed.{FitAfter, Fits}
use Rattle.laws_of_market.proofs.Growing.{grows}
use Rattle.laws_of_market.proofs.Tests.{same_name-eq}

-- an event enters an order or block under this name
abbrev pub enters_as : OrderName → Event → Bool
enters_as name (event.Entered entered caller order) = same_name entered name
enters_as name (event.EnteredBlock entered caller order) = same_name entered name
enters_as name _ = false

abbrev pub times_entered : List Event → OrderName → ℕ
times_entered events name = count_by (enters_as name) events

abbrev pub entered_in : List Event → ℕ → ℕ
entered_in events hour = count_by (enters_in hour) events

-- each name was given once at the most, and its number is no greater than how many were given in
-- its hour
pub record NamesOnce (events : List Event) : Type 0 where
  pub once : (name : OrderName) → times_entered events name ≤ 1
  pub numbered : (name : OrderName) → 1 ≤ times_entered events name → name.number ≤ entered_in events name.hour

times-more : (events : List Event) (event : Event) (name : OrderName)
    → times_entered (and_then events event) name ≡ times_entered events name + cond (enters_as name event) 1 0
times-more events event name = sum_by_push (λ e. cond (enters_as name e) 1 0) events event

entered_in-more : (events : List Event) (event : Event) (hour : ℕ)
    → entered_in (and_then events event) hour ≡ entered_in events hour + cond (enters_in hour event) 1 0
entered_in-more events event hour = sum_by_push (λ e. cond (enters_in hour e) 1 0) events event

-- an event that gives no name keeps this
pub names-kept : (events : List Event) (event : Event) → NamesOnce events
    → ((name : OrderName) → enters_as name event ≡ false) → ((hour : ℕ) → enters_in hour event ≡ false) → NamesOnce (and_then events event)
names-kept events event names not_as not_in = record {
  once = λ name. rw (times-more events event name, not_as name) (let h = names.once name in omega arith);
  numbered = λ name some. rw (entered_in-more events event name.hour, not_in name.hour)
      (let before : 1 ≤ times_entered events name = (let k = rw (times-more events event name, not_as name) at some in omega arith) in
      let h = names.numbered name before in omega arith);
}

-- so does one that gives the next name of an hour
module _ (events : List Event) (event : Event) (given : OrderName)
    (names : NamesOnce events) (next : given ≡ next_name events given.hour)
    (by_name : (name : OrderName) → enters_as name event ≡ same_name given name)
    (in_hour : (hour : ℕ) → enters_in hour event ≡ nat_eq given.hour hour) where
  number : given.number ≡ entered_in events given.hour + 1
  number = ap (λ (n : OrderName). n.number) next

  -- the name is new
  is_new : times_entered events given ≡ 0
  is_new = fresh (times_entered events given) (names.numbered given)
    where
      fresh : (n : ℕ) → (1 ≤ n → given.number ≤ entered_in events given.hour) → n ≡ 0
      fresh n h = let at : ¬ (1 ≤ n) = λ some. let low = h some in let high = number in omega arith in omega arith

  times-given : (name : OrderName) → times_entered (and_then events event) name ≡ times_entered events name + cond (same_name given name) 1 0
  times-given name = rw (times-more events event name, by_name name) refl

  entered_in-given : (hour : ℕ) → entered_in (and_then events event) hour ≡ entered_in events hour + cond (nat_eq given.hour hour) 1 0
  entered_in-given hour = rw (entered_in-more events event hour, in_hour hour) refl

  once-given : (name : OrderName) → times_entered (and_then events event) name ≤ 1
  once-given name = go (same_name given name) refl
    where
      go : (b : Bool) → same_name given name ≡ b → times_entered (and_then events event) name ≤ 1
      go true e =
          let same : given ≡ name = same_name-eq given name e in
          let none : times_entered events name ≡ 0 = subst (λ n. times_entered events n ≡ 0) same is_new in
          rw (times-given name, e, none) (omega arith)
      go false e = rw (times-given name, e) (let h = names.once name in omega arith)

  numbered-given : (name : OrderName) → 1 ≤ times_entered (and_then events event) name → name.number ≤ entered_in (and_then events event) name.hour
  numbered-given name some = go (same_name given name) refl
    where
      go : (b : Bool) → same_name given name ≡ b → name.number ≤ entered_in (and_then events event) name.hour
      go true e =
          let same : given ≡ name = same_name-eq given name e in
          let last : given.number ≤ entered_in (and_then events event) given.hour =
          rw (entered_in-given given.hour, eq-eqb given.hour given.hour refl) (let n = number in omega arith) in
          subst (λ (n : OrderName). n.number ≤ entered_in (and_then events event) n.hour) same last
      go false e =
          let before : 1 ≤ times_entered events name = (let k = rw (times-given name, e) at some in omega arith) in
          let h = names.numbered name before in
          rw (entered_in-given name.hour) (omega arith)

  pub names-given : NamesOnce (and_then events event)
  names-given = record { once = once-given; numbered = numbered-given }

-- whatever fits keeps this
pub names-fit : (setup : Setup) (before : List Event) (event : Event) → NamesOnce before → Fits setup before event → NamesOnce (and_then before event)
names-fit setup before (event.Entered name caller order) names fits =
    let hour : name.hour ≡ order.contract.hour = ap (λ (n : OrderName). n.hour) fits.named in
    names-given before (event.Entered name caller order) name names (subst (λ h. name ≡ next_name before h) (sym hour) fits.named) (λ n. refl) (λ h. refl)
names-fit setup before (event.EnteredBlock name caller order) names fits =
    let hour : name.hour ≡ order.first = ap (λ (n : OrderName). n.hour) fits.named in
    names-given before (event.EnteredBlock name caller order) name names (subst (λ h. name ≡ next_name before h) (sym hour) fits.named) (λ n. refl) (λ h. refl)
names-fit setup before e names fits = names-kept before e names (λ n. refl) (λ h. refl)

nothing_entered : NamesOnce []
nothing_entered = record { once = λ name. omega arith; numbered = λ name some. absurd (omega arith) }

-- names are given once in every history whose events fit
pub names-once : (setup : Setup) (events : List Event) → FitAfter setup [] events → NamesOnce events
names-once setup events fit = grows setup NamesOnce (names-fit setup) [] events fit nothing_entered

-- the name that an order or a block gets is new
pub order_name-new : (setup : Setup) (before : List Event) (name : OrderName) (caller : ℕ) (order : Order) → NamesOnce before
    → Fits setup before (event.Entered name caller order) → times_entered before name ≡ 0
order_name-new setup before name caller order names fits =
    let hour : name.hour ≡ order.contract.hour = ap (λ (n : OrderName). n.hour) fits.named in
    is_new before (event.Entered name caller order) name names (subst (λ h. name ≡ next_name before h) (sym hour) fits.named) (λ n. refl) (λ h. refl)

pub block_name-new : (setup : Setup) (before : List Event) (name : OrderName) (caller : ℕ) (order : BlockOrder) → NamesOnce before
    → Fits setup before (event.EnteredBlock name caller order) → times_entered before name ≡ 0
block_name-new setup before name caller order names fits =
    let hour : name.hour ≡ order.first = ap (λ (n : OrderName). n.hour) fits.named in
    is_new before (event.EnteredBlock name caller order) name names (subst (λ h. name ≡ next_name before h) (sym hour) fits.named) (λ n. refl) (λ h. refl)

-- no more enter by one hour than enter
enters-some : (hour : ℕ) (e : Event) → cond (enters_in hour e) 1 0 ≤ cond (enters e) 1 0
enters-some hour (event.Entered given caller order) = one (enters_in hour (event.Entered given caller order))
  where
    one : (b : Bool) → cond b 1 0 ≤ 1
    one true = omega arith
    one false = omega arith
enters-some hour (event.EnteredBlock given caller order) = one (enters_in hour (event.EnteredBlock given caller order))
  where
    one : (b : Bool) → cond b 1 0 ≤ 1
    one true = omega arith
    one false = omega arith
enters-some hour _ = omega arith

pub entered_in-few : (events : List Event) (hour : ℕ) → entered_in events hour ≤ entered_count events
entered_in-few events hour = sum_by-le-sum_by (λ e. cond (enters_in hour e) 1 0) (λ e. cond (enters e) 1 0) events (enters-some hour)

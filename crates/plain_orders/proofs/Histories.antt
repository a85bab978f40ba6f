-- What is known of an event of a history, and of what is left before and after it.
use Rattle.std.proofs.Common.{◌≡◌, ◌∙◌, ◌⊎◌, inl, inr, ℕ, ◌+◌, ◌-◌, ◌<◌, ◌≤◌, List, [], ◌∷◌, ◌++◌, drop, get_or, length, take, refl, sym, ap, subst, arith}
use Rattle.std.proofs.lemmas.List.{take_more, take-append-drop}
use Rattle.order_kinds.specs.declared.order.OrderName.{OrderName}
use Rattle.market_model.specs.declared.event.Event.{Event}
use Rattle.market_model.specs.declared.event.Event.TheVariants as event
use Rattle.market_model.specs.declared.setup.Setup.{Setup}
use Rattle.market_model.specs.History.{and_then}
use Rattle.market_model.specs.Orders.{entered_by, filled_by, left, taken_off_by}
use Rattle.market_model.specs.WellFormed.{FitAfter, Fits}
use Rattle.laws_of_market.proofs.Balances.{covered, takes-le-left}
use Rattle.laws_of_market.proofs.Growing.{fit-back, fit-front}
use Rattle.laws_of_market.proofs.States.{entered-more, filled-more, taken_off-more}
use Rattle.laws_of_market.proofs.Lefts.{left-most}
use Rattle.plain_orders.specs.Histories.{IsSomeHistory}

-- the events up to a place of a history, and the event there
pub record IsAt (events : List Event) (place : ℕ) (e : Event) : Type 0 where
  pub setup : Setup
  pub fit : FitAfter setup [] (take place events)
  pub fits : Fits setup (take place events) e
  pub fit_more : FitAfter setup [] (and_then (take place events) e)
  pub more : take (place + 1) events ≡ and_then (take place events) e

pub at_place : (events : List Event) (place : ℕ) (e : Event) → IsSomeHistory events → place < length events → e ≡ get_or events place e → IsAt events place e
at_place events place e history within is =
    let more : take (place + 1) events ≡ and_then (take place events) e =
    take_more events place e within ∙ ap (λ x. take place events ++ x ∷ []) (sym is) in
    let split : and_then (take place events) e ++ drop (place + 1) events ≡ events =
    ap (λ xs. xs ++ drop (place + 1) events) (sym more) ∙ take-append-drop (place + 1) events in
    let all = subst (FitAfter history.setup []) (sym split) history.fit in
    let front = fit-front history.setup [] (and_then (take place events) e) (drop (place + 1) events) all in
    record {
      setup = history.setup;
      fit = fit-front history.setup [] (take place events) (e ∷ []) front;
      fits = (fit-back history.setup [] (take place events) (e ∷ []) front).0;
      fit_more = front;
      more = more;
    }

-- no event both enters lots of a name and takes some of it
one_way : (name : OrderName) (e : Event) → (entered_by name e ≡ 0) ⊎ (filled_by name e + taken_off_by name e ≡ 0)
one_way name (event.Entered given caller order) = inr refl
one_way name (event.EnteredBlock given caller order) = inr refl
one_way name (event.Leg contract leg) = inl refl
one_way name (event.BlockLeg first last leg) = inl refl
one_way name (event.Granted arc first last lots) = inl refl
one_way name (event.Offered arc first last lots) = inl refl
one_way name (event.Halted border first last) = inl refl
one_way name (event.Resumed border first last) = inl refl
one_way name (event.Gated hour phase) = inl refl
one_way name (event.Withdrawn given lots) = inl refl
one_way name (event.Reduced given by) = inl refl

-- what is left after one more event, without a fall below nothing, and no sum above the greatest
-- quantity
pub record LeftIs (before : List Event) (e : Event) (name : OrderName) : Type 0 where
  pub is : left (and_then before e) name ≡ left before name + entered_by name e - (filled_by name e + taken_off_by name e)
  pub has : filled_by name e + taken_off_by name e ≤ left before name
  pub most : left before name + entered_by name e ≤ 9990

pub left-is : (setup : Setup) (before : List Event) (e : Event) (name : OrderName) → FitAfter setup [] before → Fits setup before e
    → FitAfter setup [] (and_then before e) → LeftIs before e name
left-is setup before e name fit fits fit_more = record {
  is = is;
  has = has;
  most = elim (one_way name e) [
    | inl none ↦ omega (arith, none, left-most setup before fit name)
    | inr none ↦ omega (arith, none, is, left-most setup (and_then before e) fit_more name)
  ];
}
  where
    has : filled_by name e + taken_off_by name e ≤ left before name
    has = takes-le-left setup before e fits name

    is : left (and_then before e) name ≡ left before name + entered_by name e - (filled_by name e + taken_off_by name e)
    is = omega (arith, covered setup before fit name, entered-more before e name, filled-more before e name, taken_off-more before e name)

-- so at each place of a history
pub left-at : (events : List Event) (place : ℕ) (e : Event) (name : OrderName) → IsSomeHistory events → place < length events → e ≡ get_or events place e
    → LeftIs (take place events) e name × (left (take (place + 1) events) name ≡ left (and_then (take place events) e) name)
left-at events place e name history within is =
    let at = at_place events place e history within is in
    (left-is at.setup (take place events) e name at.fit at.fits at.fit_more, ap (λ es. left es name) at.more)

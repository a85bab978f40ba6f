-- Histories in which a taker of any quantity takes of a line: what they keep, leg by leg. They are
-- not legal ones, since what the icebergs hide was withdrawn in part, and the quantity is no order's.
use Rattle.std.proofs.Common.{◌≡◌, ◌∙◌, inl, inr, ℕ, ◌+◌, ◌-◌, ◌<◌, ◌≤◌, Bool, true, false, ◌&&◌, ◌||◌, List, [], ◌∷◌, ◌++◌, length, eq-eqb, refl, sym, ap, subst, if◌then◌else◌, arith}
use Rattle.order_kinds.specs.declared.contract.Contract.{Contract}
use Rattle.order_kinds.specs.declared.order.OrderName.{OrderName}
use Rattle.order_kinds.specs.declared.side.Side.{Side}
use Rattle.order_kinds.specs.Period.{contract_quarters}
use Rattle.order_kinds.specs.Same.{same_name}
use Rattle.zone_graph.specs.declared.route.Arc.{Arc}
use Rattle.zone_graph.specs.Pour.{lots_if}
use Rattle.zone_graph.specs.Route.{IsIn}
use Rattle.zone_graph.proofs.Membership.{from_filter}
use Rattle.market_model.specs.declared.event.Event.{Event}
use Rattle.market_model.specs.declared.event.Event.TheVariants as event
use Rattle.market_model.specs.declared.event.Leg.{Leg}
use Rattle.market_model.specs.History.{and_then, of_hour, touches}
use Rattle.market_model.specs.Lines.{line}
use Rattle.market_model.specs.Orders.{Placed, Standing, ends_peak, filled, gives_moment, left, moment, names, placed, placed_by, price_now, shown_lots, standing}
use Rattle.market_model.specs.Room.{room}
use Rattle.laws_of_market.proofs.Placed.{picked-same}
use Rattle.laws_of_market.proofs.States.{filled-more, left-more}
use Rattle.laws_of_market.proofs.Tests.{same_name-eq}
use Rattle.laws_of_market.proofs.Trades.{from_line}
use Rattle.laws_of_market.proofs.Uses.{IsWithinOffers}
use Rattle.laws_of_market.proofs.NamedByHour.{AreNamedByHour, IsNamedByHour, named-more}
use Rattle.laws_of_market.proofs.Restrict.{filter-filter}
use Rattle.laws_of_market.proofs.LocalStates.{Agree, agree-more, filled-agree}
use Rattle.laws_of_market.proofs.LocalMoments.{moment-more}
use Rattle.laws_of_rows.proofs.Peaks.{peak-open, price-stays, rest-shows}
use Rattle.laws_of_rows.proofs.RowLemmas.{same_name-sym}
use Rattle.laws_of_market.proofs.Rooms.{within-leg}

-- an order as it was placed, from it as it stands
abbrev pub placed_as : Standing → Placed
placed_as s = record { name = s.name; caller = s.caller; order = s.order }

-- an order of a line of which lots were taken, no more than it showed: it is left with the rest of
-- these, and while something is left it keeps its moment
pub record IsKept (V : List Event) (s : Standing) : Type 0 where
  pub taken : ℕ
  pub filled_is : filled V s.name ≡ s.filled + taken
  pub left_is : left V s.name + taken ≡ s.shown
  pub moment_is : 0 < left V s.name → moment V (placed_as s) ≡ s.moment

-- an order of a line shows what its kind shows, at its price
pub record IsOfKind (s : Standing) : Type 0 where
  pub shown_is : s.shown ≡ shown_lots s.order.kind s.filled s.left
  pub price_is : s.price ≡ price_now s.order s.filled

pub line-of_kind : (events : List Event) (contract : Contract) (side : Side) (s : Standing) → IsIn s (line events contract side) → IsOfKind s
line-of_kind events contract side s i =
    subst IsOfKind (sym (from_line events contract side s i).is) (record { shown_is = refl; price_is = refl })

-- the order as it then stands
abbrev pub now : List Event → Standing → Standing
now V s = standing V (placed_as s)

module _ (V : List Event) (s : Standing) (kept : IsKept V s) (of_kind : IsOfKind s) (some : 0 < left V s.name) where
  fewer : kept.taken < shown_lots s.order.kind s.filled s.left
  fewer = subst (λ n. kept.taken < n) of_kind.shown_is (let all = kept.left_is in omega (arith, all, some))

  pub now-price : (now V s).price ≡ s.price
  now-price =
      ap (price_now s.order) kept.filled_is ∙ price-stays s.order s.filled s.left kept.taken fewer ∙ sym of_kind.price_is

  pub now-shown : (now V s).shown ≡ left V s.name
  now-shown =
      ap (λ n. shown_lots s.order.kind n (left V s.name)) kept.filled_is
      ∙ rest-shows s.order.kind s.filled s.left kept.taken (left V s.name) some (kept.left_is ∙ of_kind.shown_is)

-- the events of an hour fill of an order what all events fill, where names are of their hours
pub filled-hour : (V : List Event) (e : Event) (hour : ℕ) (name : OrderName) → AreNamedByHour V → IsNamedByHour e → name.hour ≡ hour
    → filled (and_then (of_hour hour V) e) name ≡ filled (and_then V e) name
filled-hour V e hour name named own same =
    filled-agree (hour ∷ []) (and_then (of_hour hour V) e) (and_then V e) (agree-more (hour ∷ []) (of_hour hour V) V e agree own) name (inl same)
  where
    agree : Agree (hour ∷ []) (of_hour hour V) V
    agree = record {
      named_a = λ f i. named f (from_filter (touches hour) f V i).0;
      named_b = named;
      same = λ other i. elim i [
        | inl s ↦ subst (λ h. of_hour h (of_hour hour V) ≡ of_hour h V) (sym s) (filter-filter (touches hour) (touches hour) V (λ f j t. t))
        | inr j ↦ absurd j
      ];
    }

-- what the history of a taker keeps
pub record IsAfter (events : List Event) (contract : Contract) (side : Side) (taker : Placed) (V : List Event) : Type 0 where
  pub within : IsWithinOffers V
  pub named : AreNamedByHour V
  pub placed_are : placed V ≡ placed events ++ taker ∷ []
  pub fresh : (p : Placed) → IsIn p (placed events) → same_name p.name taker.name ≡ false
  pub in_hour : taker.name.hour ≡ contract.hour
  pub closed : (p : Placed) → IsIn p (placed events) → left V p.name ≤ left events p.name
  pub orders : (s : Standing) → IsIn s (line events contract side) → IsKept V s
  pub line_hour : (s : Standing) → IsIn s (line events contract side) → s.name.hour ≡ contract.hour

-- a leg of the taker with an order of the line
module _ (events : List Event) (contract : Contract) (side : Side) (taker : Placed) (V : List Event) (after : IsAfter events contract side taker V)
    (leg : Leg) (own : leg.taker ≡ taker.name) (other : Standing) (in_line : IsIn other (line events contract side)) (with : leg.maker ≡ other.name)
    (some : 1 ≤ leg.lots) (enough : leg.lots ≤ left V other.name)
    (has : (arc : Arc) → IsIn arc leg.route → leg.lots ≤ room V (contract_quarters contract) arc) where
  abbrev traded : Event
  traded = event.Leg contract leg

  own_named : IsNamedByHour (event.Leg contract leg)
  own_named = (ap (λ (n : OrderName). n.hour) own ∙ after.in_hour, ap (λ (n : OrderName). n.hour) with ∙ after.line_hour other in_line)

  not_taker : (s : Standing) → IsIn s (line events contract side) → same_name leg.taker s.name ≡ false
  not_taker s i =
      let found = from_line events contract side s i in
      ap (λ n. same_name n s.name) own ∙ same_name-sym taker.name s.name
      ∙ ap (λ (x : Standing). same_name x.name taker.name) found.is ∙ after.fresh found.order found.is_open.is_placed

  names-is : (s : Standing) → IsIn s (line events contract side) → names leg s.name ≡ same_name leg.maker s.name
  names-is s i = ap (λ b. b || same_name leg.maker s.name) (not_taker s i)

  filled-leg : (s : Standing) → IsIn s (line events contract side) → filled (and_then V traded) s.name ≡ filled V s.name + lots_if (same_name leg.maker s.name) leg.lots
  filled-leg s i = filled-more V traded s.name ∙ ap (λ b. filled V s.name + lots_if b leg.lots) (names-is s i)

  pub left-leg : (s : Standing) → IsIn s (line events contract side) → left (and_then V traded) s.name ≡ left V s.name - lots_if (same_name leg.maker s.name) leg.lots
  left-leg s i =
      let less = left-more V traded s.name refl in
      less ∙ ap (λ b. left V s.name - (lots_if b leg.lots + 0)) (names-is s i) ∙ omega arith

  covered-leg : (s : Standing) → lots_if (same_name leg.maker s.name) leg.lots ≤ left V s.name
  covered-leg s = go (same_name leg.maker s.name) refl
    where
      go : (b : Bool) → same_name leg.maker s.name ≡ b → lots_if b leg.lots ≤ left V s.name
      go true e = subst (λ n. leg.lots ≤ left V n) (sym with ∙ same_name-eq leg.maker s.name e) enough
      go false e = omega arith

  kept-leg : (s : Standing) → IsIn s (line events contract side) → IsKept (and_then V traded) s
  kept-leg s i =
      let kept = after.orders s i in
      let more = filled-leg s i in
      let less = left-leg s i in
      let most = covered-leg s in
      let had = kept.filled_is in
      let all = kept.left_is in
      record {
        taken = kept.taken + lots_if (same_name leg.maker s.name) leg.lots;
        filled_is = omega (arith, more, had);
        left_is = omega (arith, less, most, all);
        moment_is = λ some_left. moment-leg some_left;
      }
    where
      open_then : 0 < left (and_then V traded) s.name → 0 < left V s.name
      open_then some_left = let less = left-leg s i in omega (arith, less, some_left)

      no_end : 0 < left (and_then V traded) s.name → (b : Bool) → same_name leg.maker s.name ≡ b
          → (b && ends_peak s.order.kind (filled (and_then (of_hour contract.hour V) traded) s.name)) ≡ false
      no_end some_left false e = refl
      no_end some_left true e =
          let kept = after.orders s i in
          let kind = line-of_kind events contract side s i in
          let more : filled (and_then V traded) s.name ≡ filled V s.name + leg.lots = filled-leg s i ∙ ap (λ b. filled V s.name + lots_if b leg.lots) e in
          let less : left (and_then V traded) s.name ≡ left V s.name - leg.lots = left-leg s i ∙ ap (λ b. left V s.name - lots_if b leg.lots) e in
          let had = kept.filled_is in
          let all = kept.left_is in
          let total : filled (and_then V traded) s.name ≡ s.filled + (kept.taken + leg.lots) = omega (arith, more, had) in
          let fewer : kept.taken + leg.lots < shown_lots s.order.kind s.filled s.left =
          subst (λ n. kept.taken + leg.lots < n) kind.shown_is (omega (arith, less, all, some_left)) in
          ap (ends_peak s.order.kind) (filled-hour V traded contract.hour s.name after.named own_named (after.line_hour s i) ∙ total)
          ∙ peak-open s.order.kind s.filled s.left (kept.taken + leg.lots) (omega (arith, some)) fewer

      moment-leg : 0 < left (and_then V traded) s.name → moment (and_then V traded) (placed_as s) ≡ s.moment
      moment-leg some_left =
          let none : gives_moment (placed_as s) (of_hour contract.hour V) traded ≡ false =
          ap (λ b. b && ends_peak s.order.kind (filled (and_then (of_hour contract.hour V) traded) s.name)) (names-is s i) ∙ no_end some_left (same_name leg.maker s.name) refl in
          moment-more contract.hour V traded (placed_as s) (eq-eqb contract.hour contract.hour refl) (after.line_hour s i)
          ∙ ap (λ b. if b then length (of_hour contract.hour V) + 1 else moment V (placed_as s)) none
          ∙ (after.orders s i).moment_is (open_then some_left)

  pub after-leg : IsAfter events contract side taker (and_then V traded)
  after-leg = record {
    within = within-leg V contract leg after.within some has;
    named = named-more V traded after.named own_named;
    placed_are = picked-same placed_by V traded refl ∙ after.placed_are;
    fresh = after.fresh;
    in_hour = after.in_hour;
    closed = λ p i. let had = after.closed p i in let less = left-more V traded p.name refl in omega (arith, had, less);
    orders = kept-leg;
    line_hour = after.line_hour;
  }

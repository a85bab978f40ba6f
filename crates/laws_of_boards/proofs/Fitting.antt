-- An event of one hour alone fits what agrees with the events that it fits.
use Rattle.std.proofs.Common.{◌≡◌, ◌∙◌, inl, inr, ℕ, ◌<◌, ◌≤◌, ◌&&◌, true, cond, List, [], ◌∷◌, ◌++◌, append_assoc, nat_le, eq-eqb, refl, sym, ap, subst, arith, pos, ◌≤ℤ◌}
use Rattle.std.proofs.lemmas.Bool.{le-leb, and_from, and_parts}
use Rattle.std.proofs.lemmas.List.Elements.{filter-append}
use Rattle.order_kinds.specs.declared.contract.Quarter.{Quarter}
use Rattle.order_kinds.specs.declared.order.OrderName.{OrderName}
use Rattle.order_kinds.specs.Period.{block_quarters, is_not_after, is_within, range_quarters}
use Rattle.order_kinds.specs.Phase.{is_later}
use Rattle.quarter_capacity.specs.Capacity.{flow_of}
use Rattle.zone_graph.specs.declared.route.Arc.{Arc}
use Rattle.zone_graph.specs.Pour.{opposite_arc}
use Rattle.zone_graph.specs.Route.{IsIn}
use Rattle.zone_graph.proofs.Membership.{from_filter}
use Rattle.market_model.specs.declared.event.Event.{Event}
use Rattle.market_model.specs.declared.event.Event.TheVariants as event
use Rattle.market_model.specs.declared.setup.Setup.{Setup}
use Rattle.market_model.specs.Capacity.{allocated, flow}
use Rattle.market_model.specs.History.{of_hour, touches}
use Rattle.market_model.specs.WellFormed.{FitAfter, Fits}
use Rattle.laws_of_market.proofs.Repeats.{fit-more}
use Rattle.laws_of_market.proofs.Uses.{not_after-hours}
use Rattle.laws_of_market.proofs.LocalStates.{Agree, allocated-agree, is_open-agree, left-agree, next_name-agree, phase-agree, quarter_room-agree}
use Rattle.laws_of_market.proofs.OfHours.{one-agrees}
use Rattle.laws_of_boards.proofs.Shared.{leg-shared, placed-shared}
use Rattle.laws_of_boards.specs.Hours.{FitsInItsHour, GoesOn, IsHourIn, IsOfHour}

-- ---- what fits the one of two histories that agree on an hour fits the other

-- the quarters of a range within one hour are of it
range-hour : (hour : ℕ) (first last quarter : Quarter) → first.hour ≡ hour → last.hour ≡ hour → IsIn quarter (range_quarters first last) → quarter.hour ≡ hour
range-hour hour first last quarter from to i =
    let found = from_filter (λ (q : Quarter). is_not_after first q && is_not_after q last) quarter (block_quarters first.hour last.hour) i in
    let both = and_parts (is_not_after first quarter) (is_not_after quarter last) found.1 in
    let low = not_after-hours first quarter both.0 in
    let high = not_after-hours quarter last both.1 in
    omega (arith, low, high)

module _ (hour : ℕ) (a b : List Event) (agree : Agree (hour ∷ []) a b) (setup : Setup) where
  flow-agree : (quarter : Quarter) (arc : Arc) → quarter.hour ≡ hour → flow a quarter arc ≡ flow b quarter arc
  flow-agree quarter arc in_hour =
      ap (λ n. flow_of n (allocated a quarter (opposite_arc arc))) (allocated-agree (hour ∷ []) a b agree quarter arc (inl in_hour))
      ∙ ap (flow_of (allocated b quarter arc)) (allocated-agree (hour ∷ []) a b agree quarter (opposite_arc arc) (inl in_hour))

  pub fits-shared : (e : Event) → IsOfHour hour e → Fits setup a e → Fits setup b e
  fits-shared (event.Entered name caller order) own fits = record {
    named = fits.named ∙ next_name-agree (hour ∷ []) a b agree order.contract.hour (inl own);
    of_caller = fits.of_caller;
    in_hour = fits.in_hour;
    in_part = fits.in_part;
    in_zone = fits.in_zone;
    sound = fits.sound;
  }
  fits-shared (event.EnteredBlock name caller order) own fits = record {
    named = fits.named ∙ next_name-agree (hour ∷ []) a b agree order.first (inl own);
    of_caller = fits.of_caller;
    from_hour = fits.from_hour;
    to_hour = fits.to_hour;
    of_period = fits.of_period;
    in_zone = fits.in_zone;
    sound = fits.sound;
  }
  fits-shared (event.Leg contract leg) own fits = leg-shared hour a b agree setup setup contract leg refl own fits
  fits-shared (event.BlockLeg first last leg) own fits = absurd own
  fits-shared (event.Granted arc first last lots) own fits = record {
    range = fits.range;
    some = fits.some;
    has_room = λ quarter i. subst (λ n. lots ≤ n)
        (quarter_room-agree (hour ∷ []) a b agree arc quarter (inl (range-hour hour first last quarter own.0 own.1 i))) (fits.has_room quarter i);
  }
  fits-shared (event.Offered arc first last lots) own fits = record {
    range = fits.range;
    most = fits.most;
    covers_flow = λ quarter i. subst (λ n. n ≤ℤ pos lots)
        (flow-agree quarter arc (range-hour hour first last quarter own.0 own.1 i)) (fits.covers_flow quarter i);
  }
  fits-shared (event.Halted border first last) own fits = fits
  fits-shared (event.Resumed border first last) own fits = fits
  fits-shared (event.Gated gated phase) own fits = record {
    in_hour = fits.in_hour;
    later = ap (is_later phase) (sym (phase-agree (hour ∷ []) a b agree gated (inl own))) ∙ fits.later;
  }
  fits-shared (event.Withdrawn name lots) own fits = record {
    some = fits.some;
    all_left = fits.all_left ∙ left-agree (hour ∷ []) a b agree name (inl own);
  }
  fits-shared (event.Reduced name by) own fits =
      let its_hour : fits.order.name.hour ≡ hour = ap (λ (n : OrderName). n.hour) fits.order_open.is_named ∙ own in
      record {
        order = fits.order;
        order_open = record {
          is_placed = placed-shared hour a b agree fits.order its_hour fits.order_open.is_placed;
          is_named = fits.order_open.is_named;
          is_left = sym (is_open-agree (hour ∷ []) a b agree name (inl own)) ∙ fits.order_open.is_left;
        };
        is_limit = fits.is_limit;
        some = fits.some;
        less = subst (λ n. by < n) (left-agree (hour ∷ []) a b agree name (inl own)) fits.less;
      }

-- ---- an event of one hour touches it

one-within : (first last hour : ℕ) → first ≡ hour → last ≡ hour → is_within first last hour ≡ true
one-within first last hour from to =
    and_from (nat_le first hour) (nat_le hour last) (le-leb first hour (omega (arith, from))) (le-leb hour last (omega (arith, to)))

pub touches-own : (setup : Setup) (hour : ℕ) (before : List Event) (e : Event) → IsOfHour hour e → Fits setup before e → touches hour e ≡ true
touches-own setup hour before (event.Entered name caller order) own fits = eq-eqb name.hour hour (ap (λ (n : OrderName). n.hour) fits.named ∙ own)
touches-own setup hour before (event.EnteredBlock name caller order) own fits = eq-eqb name.hour hour (ap (λ (n : OrderName). n.hour) fits.named ∙ own)
touches-own setup hour before (event.Leg contract leg) own fits = eq-eqb contract.hour hour own
touches-own setup hour before (event.BlockLeg first last leg) own fits = absurd own
touches-own setup hour before (event.Granted arc first last lots) own fits = one-within first.hour last.hour hour own.0 own.1
touches-own setup hour before (event.Offered arc first last lots) own fits = one-within first.hour last.hour hour own.0 own.1
touches-own setup hour before (event.Halted border first last) own fits = one-within first last hour own.0 own.1
touches-own setup hour before (event.Resumed border first last) own fits = one-within first last hour own.0 own.1
touches-own setup hour before (event.Gated gated phase) own fits = eq-eqb gated hour own
touches-own setup hour before (event.Withdrawn name lots) own fits = eq-eqb name.hour hour own
touches-own setup hour before (event.Reduced name by) own fits = eq-eqb name.hour hour own

-- ---- a history that goes on

-- events that all touch an hour are the hour's
all-of_hour : (hour : ℕ) (more : List Event) → ((e : Event) → IsIn e more → touches hour e ≡ true) → of_hour hour more ≡ more
all-of_hour hour [] all = refl
all-of_hour hour (e ∷ more) all =
    ap (λ t. cond t (e ∷ of_hour hour more) (of_hour hour more)) (all e (inl refl)) ∙ ap (λ xs. e ∷ xs) (all-of_hour hour more (λ f i. all f (inr i)))

module _ (setup : Setup) (hour : ℕ) (history before : List Event) (is : IsHourIn setup hour history before) where
  -- the events of the hour agree with the history
  pub hour-in-agrees : Agree (hour ∷ []) before history
  hour-in-agrees = subst (λ es. Agree (hour ∷ []) es history) is.in_hour (one-agrees setup history is.fit hour)

  -- it goes on with events that fit and are its events of the hour
  going : (more : List Event) → FitAfter setup [] (history ++ more) → of_hour hour (history ++ more) ≡ before ++ more → GoesOn setup hour history before more
  going more fit same = record {
    fit = fit;
    in_hour = same;
    stands = record {
      setup = setup;
      history = history ++ more;
      over_grid = refl;
      is_setup = is.is_setup;
      fit = fit;
      in_hour = same;
    };
  }

  -- so with events that fit and all touch the hour
  pub goes-on : (more : List Event) → FitAfter setup [] (history ++ more) → ((e : Event) → IsIn e more → touches hour e ≡ true)
      → GoesOn setup hour history before more
  goes-on more fit all =
      going more fit (filter-append (touches hour) history more ∙ ap (λ es. es ++ of_hour hour more) is.in_hour
      ∙ ap (λ es. before ++ es) (all-of_hour hour more all))

  -- and then the events are those of the hour again
  pub hour-goes-on : (more : List Event) → GoesOn setup hour history before more → IsHourIn setup hour (history ++ more) (before ++ more)
  hour-goes-on more on = record { is_setup = is.is_setup; fit = on.fit; in_hour = on.in_hour }

  -- so it goes on step by step
  pub go-on-again : (xs ys : List Event) → GoesOn setup hour (history ++ xs) (before ++ xs) ys → GoesOn setup hour history before (xs ++ ys)
  go-on-again xs ys on =
      going (xs ++ ys) (subst (FitAfter setup []) (append_assoc history xs ys) on.fit)
      (ap (of_hour hour) (sym (append_assoc history xs ys)) ∙ on.in_hour ∙ append_assoc before xs ys)

  -- with an event of the hour alone that fits the hour's events
  pub event-goes-on : (e : Event) → IsOfHour hour e → Fits setup before e → Fits setup history e × GoesOn setup hour history before (e ∷ [])
  event-goes-on e own fits =
      let there : Fits setup history e = fits-shared hour before history hour-in-agrees setup e own fits in (
        there,
        goes-on (e ∷ []) (fit-more setup history e is.fit there)
            (λ f i. elim i [ inl same ↦ ap (touches hour) same ∙ touches-own setup hour before e own fits | inr j ↦ absurd j ]),
      )

pub fits_in : FitsInItsHour
fits_in setup hour history before e is own fits = event-goes-on setup hour history before is e own fits

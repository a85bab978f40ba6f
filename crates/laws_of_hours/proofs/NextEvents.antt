-- The last event of an hour fits a history whose hour the events before it are.
use Rattle.std.proofs.Common.{◌≡◌, ◌∙◌, inl, ℕ, ◌+◌, Bool, List, [], ◌∷◌, ◌++◌, length, nat_eq, eq-eqb, append_assoc, refl, sym, ap, subst}
use Rattle.std.proofs.lemmas.List.{append-nil}
use Rattle.zone_graph.specs.Graph.{Graph}
use Rattle.zone_graph.specs.Route.{IsIn}
use Rattle.zone_graph.proofs.Membership.{IsIn-filter, IsIn-right, from_filter}
use Rattle.flow_netting.specs.Flows.{Flows}
use Rattle.market_model.specs.declared.event.Event.{Event}
use Rattle.market_model.specs.Board.{IsHourOf}
use Rattle.market_model.specs.History.{and_then, touches}
use Rattle.market_model.specs.Orders.{Placed, placed}
use Rattle.laws_of_market.proofs.LastOfHour.{before-last}
use Rattle.laws_of_market.proofs.Repeats.{fit-more}
use Rattle.laws_of_market.proofs.LocalMoments.{hour-more}
use Rattle.laws_of_market.proofs.LocalStates.{Agree, placed-agree}
use Rattle.laws_of_market.proofs.OfHours.{one-agrees}
use Rattle.laws_of_books.specs.BookOf.{book_of, next_moment}
use Rattle.laws_of_books.proofs.FoundOrders as books
use Rattle.laws_of_books.specs.BlocksOf.{blocks_of}
use Rattle.laws_of_books.proofs.WholeBlockBooks as blocks
use Rattle.laws_of_hours.specs.Standing.{Stands}
use Rattle.laws_of_hours.proofs.OtherEvents.{hours_have}
use Rattle.laws_of_hours.specs.NextEvents.{FirstOfManyAreHours, FirstPartsAreHours, HoursBeginEmpty, IsNext, NextEventsFit}

pub next : NextEventsFit
next graph hour events e stands =
    let last = before-last stands.setup hour stands.history events e stands.fit stands.in_hour in
    record {
      setup = stands.setup;
      history = last.history;
      over_grid = stands.over_grid;
      is_setup = stands.is_setup;
      fit = last.fit;
      in_hour = last.in_hour;
      fits = last.fits;
      touched = (from_filter (touches hour) e stands.history (subst (IsIn e) (sym stands.in_hour) (IsIn-right e events (e ∷ []) (inl refl)))).1;
    }

pub first_part : FirstPartsAreHours
first_part graph hour events e stands =
    let own = next graph hour events e stands in
    record {
      setup = own.setup;
      history = own.history;
      over_grid = own.over_grid;
      is_setup = own.is_setup;
      fit = own.fit;
      in_hour = own.in_hour;
    }

pub first_of_many : FirstOfManyAreHours
first_of_many graph hour events [] stands = subst (IsHourOf graph hour) (append-nil events) stands
first_of_many graph hour events (e ∷ more) stands =
    first_part graph hour events e
    (first_of_many graph hour (and_then events e) more (subst (IsHourOf graph hour) (sym (append_assoc events (e ∷ []) more)) stands))

pub empty : HoursBeginEmpty
empty graph hour is_graph = record {
  setup = record { hours = 24; zones = graph.zones; borders = graph.borders; callers = [] };
  history = [];
  over_grid = refl;
  is_setup = is_graph;
  fit = tt;
  in_hour = refl;
}

-- what the events of an hour say is what the history says whose hour they are
module _ (graph : Graph) (hour : ℕ) (events : List Event) (stands : IsHourOf graph hour events) where
  pub agrees : Agree (hour ∷ []) events stands.history
  agrees = subst (λ es. Agree (hour ∷ []) es stands.history) stands.in_hour (one-agrees stands.setup stands.history stands.fit hour)

  pub book-is : book_of events hour ≡ book_of stands.history hour
  book-is = ap (λ es. book_of es hour) (sym stands.in_hour) ∙ books.hour-book stands.setup stands.history stands.fit hour

  pub blocks-are : blocks_of events hour ≡ blocks_of stands.history hour
  blocks-are = ap (λ es. blocks_of es hour) (sym stands.in_hour) ∙ blocks.hour-book stands.setup stands.history stands.fit hour

  pub moment-is : next_moment stands.history hour ≡ length events + 1
  moment-is = ap (λ es. length es + 1) stands.in_hour

  pub flows-to : (flows : Flows) → Stands graph events hour flows → Stands graph stands.history hour flows
  flows-to flows is = (hours_have stands.setup graph stands.history hour flows stands.fit).0 (subst (λ es. Stands graph es hour flows) (sym stands.in_hour) is)

  pub flows-from : (flows : Flows) → Stands graph stands.history hour flows → Stands graph events hour flows
  flows-from flows is = subst (λ es. Stands graph es hour flows) stands.in_hour ((hours_have stands.setup graph stands.history hour flows stands.fit).1 is)

  -- an order of the hour that entered by the events entered by the history
  pub placed-too : (order : Placed) → order.name.hour ≡ hour → IsIn order (placed events) → IsIn order (placed stands.history)
  placed-too order same there =
      let in_hour : Placed → Bool = λ o. nat_eq o.name.hour hour in
      let own = IsIn-filter in_hour order (placed events) there (eq-eqb order.name.hour hour same) in
      (from_filter in_hour order (placed stands.history) (subst (IsIn order) (placed-agree (hour ∷ []) events stands.history agrees hour (inl refl)) own)).0

-- the history with the next event has the hour's events with it
module _ (graph : Graph) (hour : ℕ) (events : List Event) (e : Event) (own : IsNext graph hour events e) where
  abbrev pub before : IsHourOf graph hour events
  before = record {
    setup = own.setup;
    history = own.history;
    over_grid = own.over_grid;
    is_setup = own.is_setup;
    fit = own.fit;
    in_hour = own.in_hour;
  }

  abbrev pub after : IsHourOf graph hour (and_then events e)
  after = record {
    setup = own.setup;
    history = and_then own.history e;
    over_grid = own.over_grid;
    is_setup = own.is_setup;
    fit = fit-more own.setup own.history e own.fit own.fits;
    in_hour = hour-more hour own.history e own.touched ∙ ap (λ es. es ++ e ∷ []) own.in_hour;
  }

-- An order that can be the next one of an hour enters the history whose hour it is.
use Rattle.std.proofs.Common.{◌≡◌, ◌∙◌, inl, ℕ, ◌≤◌, List, [], ◌∷◌, ◌++◌, append_assoc, refl, sym, ap, subst}
use Rattle.std.proofs.lemmas.List.{append-nil}
use Rattle.order_kinds.specs.declared.order.Order.{Order}
use Rattle.order_kinds.specs.declared.order.OrderName.{OrderName}
use Rattle.zone_graph.specs.Graph.{Graph, HasZone}
use Rattle.zone_graph.specs.Route.{IsIn}
use Rattle.market_model.specs.declared.event.Event.{Event}
use Rattle.market_model.specs.declared.event.Event.TheVariants as event
use Rattle.market_model.specs.declared.setup.Setup.{Setup}
use Rattle.market_model.specs.Board.{IsHourOf}
use Rattle.market_model.specs.Entering.{after_taking, legs_taken, name_of_next, rest_of, with_order}
use Rattle.market_model.specs.Grid.{graph_of}
use Rattle.market_model.specs.History.{and_then}
use Rattle.market_model.specs.Orders.{left, next_name}
use Rattle.market_model.specs.WellFormed.{OrderEnters}
use Rattle.laws_of_market.proofs.LocalStates.{Agree, next_name-agree}
use Rattle.laws_of_boards.specs.Hours.{IsHourIn}
use Rattle.laws_of_boards.proofs.Fitting.{hour-in-agrees}
use Rattle.laws_of_boards.proofs.Stepping.{withdrawn}
use Rattle.laws_of_hours.specs.NextEvents.{IsNext}
use Rattle.laws_of_hours.proofs.NextEvents.{first_part, next}
use Rattle.kept_hour.specs.State.{CanBeNext, HourState, entry_of}
use Rattle.desk_entering.specs.Entries.{Enters}

module _ (graph : Graph) (hour : ℕ) (events : List Event) (caller : ℕ) (order : Order) (can : Enters graph hour events caller order) where
  abbrev pub name : OrderName
  name = name_of_next events order

  abbrev pub entry : Event
  entry = event.Entered name caller order

  pub next_event : IsNext graph hour events entry
  next_event = next graph hour events entry can.next

  abbrev pub setup : Setup
  setup = next_event.setup

  abbrev pub history : List Event
  history = next_event.history

  -- the events are the hour's of that history
  pub is_in : IsHourIn setup hour history events
  is_in = record { is_setup = next_event.is_setup; fit = next_event.fit; in_hour = next_event.in_hour }

  pub stands : IsHourOf graph hour events
  stands = first_part graph hour events entry can.next

  pub agree : Agree (hour ∷ []) events history
  agree = hour-in-agrees setup hour history events is_in

  pub in_hours : IsIn order.contract.hour (hour ∷ [])
  in_hours = inl can.in_hour

  pub same_name : name ≡ name_of_next history order
  same_name = next_name-agree (hour ∷ []) events history agree order.contract.hour in_hours

  -- the order enters it, and would enter the hour's events alone
  pub enters_history : OrderEnters setup history (name_of_next history order) caller order
  enters_history = subst (λ n. OrderEnters setup history n caller order) same_name next_event.fits

  pub enters_here : OrderEnters setup events name caller order
  enters_here = record {
    named = refl;
    of_caller = next_event.fits.of_caller;
    in_hour = next_event.fits.in_hour;
    in_part = next_event.fits.in_part;
    in_zone = next_event.fits.in_zone;
    sound = next_event.fits.sound;
  }

  pub in_zone : HasZone graph order.zone
  in_zone = subst (λ g. HasZone g order.zone) next_event.over_grid enters_here.in_zone

  -- the hour goes on with the withdrawal of what is left of it
  pub withdrawal_follows : (lots : ℕ) → lots ≡ rest_of graph events caller order → 1 ≤ lots
      → IsHourOf graph hour (and_then (after_taking graph events caller order) (event.Withdrawn name lots))
  withdrawal_follows lots all_left least =
      subst (λ g. lots ≡ rest_of g events caller order → IsHourOf g hour (and_then (after_taking g events caller order) (event.Withdrawn name lots))) next_event.over_grid
      go all_left
    where
      go : lots ≡ rest_of (graph_of setup) events caller order
          → IsHourOf (graph_of setup) hour (and_then (after_taking (graph_of setup) events caller order) (event.Withdrawn name lots))
      go left_is =
          let legs : List Event = legs_taken (graph_of setup) events caller order in
          let gone : Event = event.Withdrawn name lots in
          let front : after_taking (graph_of setup) events caller order ≡ events ++ (entry ∷ legs) = append_assoc events (entry ∷ []) legs in
          let whole = withdrawn setup hour history events caller order legs [] lots is_in can.in_hour enters_here (sym (append-nil legs))
          (left_is ∙ ap (λ es. left es name) front) least in
          subst (IsHourOf (graph_of setup) hour) (sym (append_assoc events (entry ∷ legs) (gone ∷ [])) ∙ ap (λ es. and_then es gone) (sym front)) whole.stands

-- what can be the next entry of an hour without planned events
pub can-enter : (hour : HourState) (caller : ℕ) (order : Order) → hour.board.events ≡ hour.settled → order.contract.hour ≡ hour.board.hour
    → CanBeNext hour (entry_of hour caller order) → Enters hour.board.grid hour.board.hour hour.settled caller order
can-enter hour caller order unplanned in_hour next = record {
  in_hour = in_hour;
  next = subst (λ es. IsHourOf hour.board.grid hour.board.hour (with_order es caller order)) unplanned
      (subst (λ h. IsHourOf hour.board.grid hour.board.hour (and_then hour.board.events (event.Entered (next_name hour.board.events h) caller order))) (sym in_hour) next);
}

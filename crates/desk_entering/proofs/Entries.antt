-- The entry of an order leaves the opposite line and the rooms, and so the bound.
use Rattle.std.proofs.Common.{◌≡◌, ◌≢◌, ◌∙◌, ℕ, ◌+◌, ◌&&◌, false, not, List, [], map, sym, ap, ap₂, arith, if◌then◌else◌}
use Rattle.std.proofs.Math.Path.{fun_ext}
use Rattle.std.proofs.lemmas.List.{get_or-set_other}
use Rattle.order_kinds.specs.declared.contract.Part.{Part}
use Rattle.order_kinds.specs.declared.contract.Quarter.{Quarter}
use Rattle.order_kinds.specs.declared.order.Order.{Order}
use Rattle.order_kinds.specs.declared.phase.Phase.TheVariants as phase
use Rattle.order_kinds.specs.declared.side.Side.{Side}
use Rattle.order_kinds.specs.declared.side.Side.TheVariants.{Buy, Sell}
use Rattle.order_kinds.specs.Contract.{part_number}
use Rattle.order_kinds.specs.Period.{contract_quarters}
use Rattle.order_kinds.specs.Side.{opposite}
use Rattle.zone_graph.specs.declared.route.Arc.{Arc}
use Rattle.zone_graph.specs.InOrder.{put_in_order}
use Rattle.zone_graph.specs.Pour.{opposite_arc}
use Rattle.contract_book.specs.declared.resting.Resting.{Resting}
use Rattle.contract_book.specs.Book.{line_number, line_of, with_order}
use Rattle.contract_book.specs.Resting.{resting_cmp}
use Rattle.market_model.specs.declared.event.Event.{Event}
use Rattle.market_model.specs.declared.event.Event.TheVariants as event
use Rattle.market_model.specs.declared.setup.Setup.{Setup}
use Rattle.market_model.specs.Capacity.{allocated, offered, remaining}
use Rattle.market_model.specs.Certificate.{bound_of, room_across}
use Rattle.market_model.specs.Entering.{name_of_next}
use Rattle.market_model.specs.Grid.{graph_of}
use Rattle.market_model.specs.History.{and_then}
use Rattle.market_model.specs.Room.{halt_by, is_halted, is_open_phase, least, lots_of, phase_by, phase_of, quarter_room, room}
use Rattle.market_model.specs.WellFormed.{FitAfter, OrderEnters}
use Rattle.laws_of_market.proofs.Capacities.{allocated-more, last_said-more, offered-more}
use Rattle.laws_of_books.specs.BookOf.{book_of, entered_resting, next_moment, resting_line}
use Rattle.laws_of_books.proofs.ComesToRest.{book-entered}
use Rattle.laws_of_books.proofs.PartLines.{line_of-book}
use Rattle.quarter_capacity.specs.Capacity.{flow_of, remaining_of}
use Rattle.desk_entering.specs.CertificateLaws.{EntriesLeaveTheBound}
use Rattle.desk_entering.specs.Crossing.{crossing_in}
use Rattle.desk_entering.proofs.Records.{records-tell}

opposite-apart : (part : ℕ) (side : Side) → line_number part (opposite side) ≢ line_number part side
opposite-apart part Buy e = absurd (omega (arith, e))
opposite-apart part Sell e = absurd (omega (arith, e))

-- an order that comes to rest leaves the line of the other side
other-side : (book : List (List Resting)) (part : ℕ) (order : Resting)
    → line_of (with_order book part order) part (opposite order.side) ≡ line_of book part (opposite order.side)
other-side book part order =
    get_or-set_other book (line_number part order.side) (line_number part (opposite order.side))
    (put_in_order (resting_cmp order.side) (line_of book part order.side) order) [] (opposite-apart part order.side)

module _ (setup : Setup) (events : List Event) (caller : ℕ) (order : Order) (fit : FitAfter setup [] events)
    (enters : OrderEnters setup events (name_of_next events order) caller order) where
  abbrev entry : Event
  entry = event.Entered (name_of_next events order) caller order

  abbrev after : List Event
  after = and_then events entry

  -- the opposite line stays
  opposite-line : resting_line after order.contract (opposite order.side) ≡ resting_line events order.contract (opposite order.side)
  opposite-line =
      let hour : ℕ = order.contract.hour in
      let part : Part = order.contract.part in
      let at_rest : Resting = entered_resting (name_of_next events order) caller order (next_moment events hour) in
      sym (line_of-book after hour part (opposite order.side) enters.in_part)
      ∙ ap (λ book. line_of book (part_number part) (opposite order.side)) (book-entered setup events fit (name_of_next events order) caller order enters)
      ∙ other-side (book_of events hour) (part_number part) at_rest
      ∙ line_of-book events hour part (opposite order.side) enters.in_part

  remaining-same : (quarter : Quarter) (arc : Arc) → remaining after quarter arc ≡ remaining events quarter arc
  remaining-same quarter arc =
      let own : allocated after quarter arc ≡ allocated events quarter arc = omega (arith, allocated-more events entry quarter arc) in
      let back : allocated after quarter (opposite_arc arc) ≡ allocated events quarter (opposite_arc arc) =
      omega (arith, allocated-more events entry quarter (opposite_arc arc)) in
      let offer : offered after quarter arc ≡ offered events quarter arc = offered-more events entry quarter arc in
      ap₂ (λ o f. remaining_of o f) offer (ap₂ flow_of own back)

  quarter-same : (arc : Arc) (quarter : Quarter) → quarter_room after arc quarter ≡ quarter_room events arc quarter
  quarter-same arc quarter =
      ap (λ p. if is_open_phase p && not (is_halted after arc.border quarter.hour) then lots_of (remaining after quarter arc) else 0)
      (last_said-more (phase_by quarter.hour) phase.Open events entry)
      ∙ ap (λ h. if is_open_phase (phase_of events quarter.hour) && not h then lots_of (remaining after quarter arc) else 0)
      (last_said-more (halt_by arc.border quarter.hour) false events entry)
      ∙ ap (λ z. if is_open_phase (phase_of events quarter.hour) && not (is_halted events arc.border quarter.hour) then lots_of z else 0)
      (remaining-same quarter arc)

  -- so do the rooms
  rooms-same : room after (contract_quarters order.contract) ≡ room events (contract_quarters order.contract)
  rooms-same = fun_ext (λ (arc : Arc). ap (λ (f : Quarter → ℕ). least (map f (contract_quarters order.contract))) (fun_ext (λ (quarter : Quarter). quarter-same arc quarter)))

pub entries-leave : EntriesLeaveTheBound
unfolding bound_of
entries-leave setup events caller order zones fit enters =
    ap₂ (λ inside across. inside + across)
    (sym (records-tell events order zones)
    ∙ ap (crossing_in order zones) (sym (opposite-line setup events caller order fit enters))
    ∙ records-tell (and_then events (event.Entered (name_of_next events order) caller order)) order zones)
    (ap (λ (rooms : Arc → ℕ). room_across (graph_of setup) rooms order.side zones) (sym (rooms-same setup events caller order fit enters)))

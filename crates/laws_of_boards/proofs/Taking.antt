-- A contract is quiet again when an order of it has taken what it could.
use Rattle.std.proofs.Common.{◌≡◌, inl, None, List, [], ◌∷◌, ◌++◌, refl, sym, subst}
use Rattle.std.proofs.Math.Seq.{append_snoc}
use Rattle.std.proofs.lemmas.List.{append-nil}
use Rattle.zone_graph.specs.Route.{IsIn}
use Rattle.zone_graph.specs.Steps.{IsRun}
use Rattle.zone_graph.proofs.Membership.{IsIn-right}
use Rattle.market_model.specs.declared.event.Event.{Event}
use Rattle.market_model.specs.declared.event.Event.TheVariants as event
use Rattle.market_model.specs.declared.setup.Setup.{Setup}
use Rattle.market_model.specs.Grid.{graph_of}
use Rattle.market_model.specs.History.{and_then}
use Rattle.market_model.specs.Orders.{Placed, placed, placed_by}
use Rattle.market_model.specs.Sweep.{leg_in}
use Rattle.market_model.specs.Taking.{next_leg}
use Rattle.market_model.specs.WellFormed.{FitAfter, IsMarketSetup}
use Rattle.laws_of_market.proofs.Growing.{fit-append}
use Rattle.laws_of_market.proofs.Legs.{next_leg-fits}
use Rattle.laws_of_market.proofs.Members.{IsIn-filter_map}
use Rattle.laws_of_market.proofs.Placed.{picked-stays}
use Rattle.laws_of_market.proofs.Repeats.{fit-more}
use Rattle.laws_of_boards.specs.Quiet.{TakersLeaveTheirContractQuiet, WithdrawnTakersLeaveTheirContractQuiet}
use Rattle.laws_of_boards.proofs.Stays.{never-quiet}
use Rattle.laws_of_boards.proofs.QuietTakers.{OthersAreQuiet, quiet-ended, quiet-entered, quiet-next}

-- the legs of a taking, from events after which the others are quiet
run-quiet : (setup : Setup) (is_setup : IsMarketSetup setup) (taker : Placed) (events : List Event) → FitAfter setup [] events → IsIn taker (placed events)
    → (legs : List Event) → IsRun (next_leg (graph_of setup) taker.name) and_then events legs
    → OthersAreQuiet (graph_of setup) taker.order.contract taker.name events → leg_in (graph_of setup) (events ++ legs) taker.order.contract ≡ None
run-quiet setup is_setup taker events fit there [] run others =
    subst (λ es. leg_in (graph_of setup) es taker.order.contract ≡ None) (sym (append-nil events)) (quiet-ended setup is_setup events fit taker there run others)
run-quiet setup is_setup taker events fit there (e ∷ legs) run others =
    subst (λ es. leg_in (graph_of setup) es taker.order.contract ≡ None) (append_snoc events e legs)
    (run-quiet setup is_setup taker (and_then events e) (fit-more setup events e fit (next_leg-fits setup is_setup events fit taker.name e run.0))
    (picked-stays placed_by taker events (e ∷ []) there) legs run.1 (quiet-next setup is_setup events fit taker there e run.0 others))

-- they fit
run-fits : (setup : Setup) (is_setup : IsMarketSetup setup) (taker : Placed) (events : List Event) → FitAfter setup [] events
    → (legs : List Event) → IsRun (next_leg (graph_of setup) taker.name) and_then events legs → FitAfter setup events legs
run-fits setup is_setup taker events fit [] run = tt
run-fits setup is_setup taker events fit (e ∷ legs) run =
    let fits = next_leg-fits setup is_setup events fit taker.name e run.0 in
    (fits, run-fits setup is_setup taker (and_then events e) (fit-more setup events e fit fits) legs run.1)

pub taker-quiet : TakersLeaveTheirContractQuiet
taker-quiet setup before name caller order legs is_setup fit fits run quiet =
    let e : Event = event.Entered name caller order in
    let taker : Placed = record { name = name; caller = caller; order = order } in
    run-quiet setup is_setup taker (and_then before e) (fit-more setup before e fit fits)
    (IsIn-filter_map placed_by e taker (and_then before e) (IsIn-right e before (e ∷ []) (inl refl)) refl) legs run
    (quiet-entered setup is_setup before fit name caller order quiet)

pub withdrawn-quiet : WithdrawnTakersLeaveTheirContractQuiet
withdrawn-quiet setup before name caller order legs lots is_setup fit fits run withdrawn quiet =
    let e : Event = event.Entered name caller order in
    let taker : Placed = record { name = name; caller = caller; order = order } in
    let fit_entered = fit-more setup before e fit fits in
    let fit_taken = fit-append setup [] (and_then before e) legs fit_entered (run-fits setup is_setup taker (and_then before e) fit_entered legs run) in
    never-quiet setup (and_then before e ++ legs) (event.Withdrawn name lots) order.contract tt (λ quarter arc. refl) is_setup fit_taken withdrawn
    (taker-quiet setup before name caller order legs is_setup fit fits run quiet)

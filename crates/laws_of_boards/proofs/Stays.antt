-- Contracts that stay quiet after one event.
use Rattle.std.proofs.Common.{◌≡◌, ◌∙◌, inl, ℕ, ◌<◌, true, false, List, [], ◌∷◌, nat_eq, eqb-true, refl, sym, ap, subst, arith}
use Rattle.std.proofs.lemmas.Bool.{and_parts, true≢false}
use Rattle.order_kinds.specs.declared.contract.Contract.{Contract}
use Rattle.order_kinds.specs.declared.contract.Quarter.{Quarter}
use Rattle.order_kinds.specs.declared.side.Side.{Side}
use Rattle.order_kinds.specs.declared.side.Side.TheVariants.{Buy, Sell}
use Rattle.order_kinds.specs.Period.{block_has, block_quarters, contract_has, contract_quarters, is_within, range_has}
use Rattle.zone_graph.specs.declared.route.Arc.{Arc}
use Rattle.zone_graph.specs.Pour.{opposite_arc, same_arc, uses}
use Rattle.zone_graph.specs.Route.{IsIn}
use Rattle.zone_graph.proofs.Arcs.{IsIn-uses, opposite-twice, same_arc-is}
use Rattle.market_model.specs.declared.event.Event.{Event}
use Rattle.market_model.specs.declared.event.Event.TheVariants as event
use Rattle.market_model.specs.declared.setup.Setup.{Setup}
use Rattle.market_model.specs.Grid.{graph_of}
use Rattle.market_model.specs.History.{and_then}
use Rattle.market_model.specs.Lines.{line}
use Rattle.market_model.specs.Orders.{Standing}
use Rattle.market_model.specs.Room.{quarter_room, room}
use Rattle.laws_of_market.proofs.Repeats.{fit-more}
use Rattle.laws_of_market.proofs.Uses.{block_has-is, contract_has-is, room-le}
use Rattle.laws_of_market.proofs.LocalLines.{contract-hours, line-agree}
use Rattle.laws_of_market.proofs.LocalMoments.{agree-elsewhere}
use Rattle.laws_of_market.proofs.LocalStates.{Agree, room-agree}
use Rattle.laws_of_boards.specs.Fronts.{StandInFor}
use Rattle.laws_of_boards.proofs.Unopened.{unopened}
use Rattle.laws_of_boards.specs.Quiet.{BlockLegsStayQuiet, EventsStayQuietWhereThereWasRoom, GrantsStayQuiet, IsAside, LegsStayQuiet, LegsStayQuietApart, OffersStayQuiet, OtherHoursStayQuiet, ResumptionsStayQuiet, StaysQuiet, UnopenedContractsStayQuiet, raises}
use Rattle.laws_of_boards.proofs.Aside.{no_better, stand_as_before}
use Rattle.laws_of_boards.proofs.Rises.{none_opened}

pub unopened-quiet : UnopenedContractsStayQuiet
unopened-quiet setup before e contract aside opens is_setup fit fits quiet =
    unopened (graph_of setup) before (and_then before e) contract is_setup
    (stand_as_before setup before fit contract e fits aside Buy) (stand_as_before setup before fit contract e fits aside Sell) opens quiet

pub roomy-quiet : EventsStayQuietWhereThereWasRoom
roomy-quiet setup before e contract aside had is_setup fit fits quiet =
    unopened-quiet setup before e contract aside (none_opened setup before e contract fits had) is_setup fit fits quiet

-- a line stands in for itself
stand-same : (side : Side) (former now : List Standing) → now ≡ former → StandInFor side former now
stand-same side former now same order i = (order, subst (IsIn order) same i, refl, no_better side order)

pub elsewhere-quiet : OtherHoursStayQuiet
elsewhere-quiet setup before e contract untouched is_setup fit fits quiet =
    unopened (graph_of setup) before (and_then before e) contract is_setup (stands Buy) (stands Sell)
    (λ arc has some. subst (λ (rooms : Arc → ℕ). 0 < rooms arc)
    (room-agree (contract.hour ∷ []) (and_then before e) before agree (contract_quarters contract) (contract-hours (contract.hour ∷ []) contract (inl refl))) some) quiet
  where
    agree : Agree (contract.hour ∷ []) (and_then before e) before
    agree = agree-elsewhere setup contract.hour before e fit (fit-more setup before e fit fits) untouched

    stands : (side : Side) → StandInFor side (line before contract side) (line (and_then before e) contract side)
    stands side = stand-same side (line before contract side) (line (and_then before e) contract side)
        (line-agree (contract.hour ∷ []) (and_then before e) before agree contract side (inl refl))

-- an arc opposite to one that a route uses had room where that had
back-room : (before : List Event) (quarters : List Quarter) (quarter : Quarter) (route : List Arc) (arc : Arc) → IsIn quarter quarters → uses route (opposite_arc arc) ≡ true
    → ((other : Arc) → IsIn other route → 0 < room before quarters (opposite_arc other)) → 0 < quarter_room before arc quarter
back-room before quarters quarter route arc i used had =
    let some : 0 < room before quarters arc = subst (λ a. 0 < room before quarters a) (opposite-twice arc) (had (opposite_arc arc) (IsIn-uses route (opposite_arc arc) used)) in
    let most = room-le before quarters arc quarter i in
    omega (arith, some, most)

pub legs-quiet : LegsStayQuiet
legs-quiet setup before traded leg contract apart had =
    roomy-quiet setup before (event.Leg traded leg) contract apart (λ arc has quarter i is.
    let both = and_parts (contract_has traded quarter) (uses leg.route (opposite_arc arc)) is in
    back-room before (contract_quarters traded) quarter leg.route arc (contract_has-is traded quarter both.0) both.1 had)

pub apart-quiet : LegsStayQuietApart
apart-quiet setup before traded leg contract apart never =
    roomy-quiet setup before (event.Leg traded leg) contract apart (λ arc has quarter i is.
    let both = and_parts (contract_has traded quarter) (uses leg.route (opposite_arc arc)) is in
    absurd (true≢false (sym both.0 ∙ never quarter i)))

pub block_legs-quiet : BlockLegsStayQuiet
block_legs-quiet setup before first last leg contract had =
    roomy-quiet setup before (event.BlockLeg first last leg) contract tt (λ arc has quarter i is.
    let both = and_parts (block_has first last quarter) (uses leg.route (opposite_arc arc)) is in
    back-room before (block_quarters first last) quarter leg.route arc (block_has-is first last quarter both.0) both.1 had)

pub offers-quiet : OffersStayQuiet
offers-quiet setup before given first last lots contract had =
    roomy-quiet setup before (event.Offered given first last lots) contract tt (λ arc has quarter i is.
    let both = and_parts (range_has first last quarter) (same_arc given arc) is in
    subst (λ a. 0 < quarter_room before a quarter) (same_arc-is given arc both.1) (had quarter i both.0))

pub grants-quiet : GrantsStayQuiet
grants-quiet setup before granted first last lots contract had =
    roomy-quiet setup before (event.Granted granted first last lots) contract tt (λ arc has quarter i is.
    let both = and_parts (range_has first last quarter) (same_arc granted (opposite_arc arc)) is in
    subst (λ a. 0 < quarter_room before a quarter) (ap opposite_arc (same_arc-is granted (opposite_arc arc) both.1) ∙ opposite-twice arc) (had quarter i both.0))

pub resumptions-quiet : ResumptionsStayQuiet
resumptions-quiet setup before border first last contract had =
    roomy-quiet setup before (event.Resumed border first last) contract tt (λ arc has quarter i is.
    let both = and_parts (nat_eq border arc.border) (is_within first last quarter.hour) is in
    had arc (sym (eqb-true border arc.border both.0)) quarter i both.1)

-- what can raise no room leaves each contract quiet
pub never-quiet : (setup : Setup) (before : List Event) (e : Event) (contract : Contract) → IsAside contract e → ((quarter : Quarter) (arc : Arc) → raises e quarter arc ≡ false)
    → StaysQuiet setup before e contract
never-quiet setup before e contract aside never =
    roomy-quiet setup before e contract aside (λ arc has quarter i is. absurd (true≢false (sym is ∙ never quarter arc)))

-- A contract without a leg has none after many events, where no arc gets its first room.
use Rattle.std.proofs.Common.{◌≡◌, inl, inr, ◌<◌, Bool, true, false, List, [], ◌∷◌, ◌++◌, refl, sym, subst, arith}
use Rattle.std.proofs.Math.Seq.{append_snoc}
use Rattle.std.proofs.lemmas.List.{append-nil}
use Rattle.order_kinds.specs.declared.contract.Contract.{Contract}
use Rattle.order_kinds.specs.declared.contract.Quarter.{Quarter}
use Rattle.order_kinds.specs.declared.side.Side.{Side}
use Rattle.order_kinds.specs.declared.side.Side.TheVariants.{Buy, Sell}
use Rattle.order_kinds.specs.Period.{contract_quarters}
use Rattle.zone_graph.specs.declared.route.Arc.{Arc}
use Rattle.zone_graph.specs.Graph.{HasArc}
use Rattle.zone_graph.specs.Route.{IsIn}
use Rattle.market_model.specs.declared.event.Event.{Event}
use Rattle.market_model.specs.declared.setup.Setup.{Setup}
use Rattle.market_model.specs.Grid.{graph_of}
use Rattle.market_model.specs.History.{and_then}
use Rattle.market_model.specs.Lines.{line}
use Rattle.market_model.specs.Room.{quarter_room}
use Rattle.market_model.specs.WellFormed.{FitAfter, Fits, IsMarketSetup}
use Rattle.laws_of_market.proofs.Repeats.{fit-more}
use Rattle.laws_of_boards.specs.Fronts.{StandInFor}
use Rattle.laws_of_boards.proofs.Unopened.{unopened}
use Rattle.laws_of_boards.specs.Quiet.{IsAside, IsQuiet, raises}
use Rattle.laws_of_boards.proofs.Aside.{stand-on, stand-still, stand_as_before}
use Rattle.laws_of_boards.proofs.Rises.{least-follows, rise-alone}

-- each arc had room already in the quarters in which an event can raise it
abbrev pub HadRoom : Setup → (before : List Event) → Event → Type 0
HadRoom setup before e = (arc : Arc) (quarter : Quarter) → HasArc (graph_of setup) arc → raises e quarter arc ≡ true → 0 < quarter_room before arc quarter

module _ (setup : Setup) (before : List Event) (contract : Contract) where
  -- what holds after events that are aside of the contract and raise no arc from nothing
  record HasKept (now : List Event) : Type 0 where
    fit : FitAfter setup [] now
    stands : (side : Side) → StandInFor side (line before contract side) (line now contract side)
    rooms : (arc : Arc) (quarter : Quarter) → HasArc (graph_of setup) arc → 0 < quarter_room now arc quarter → 0 < quarter_room before arc quarter

  kept-more : (now : List Event) (e : Event) → HasKept now → Fits setup now e → IsAside contract e → HadRoom setup before e → HasKept (and_then now e)
  kept-more now e kept fits aside had = record {
    fit = fit-more setup now e kept.fit fits;
    stands = λ side.
        stand-on side (line before contract side) (line now contract side) (line (and_then now e) contract side)
        (kept.stands side) (stand_as_before setup now kept.fit contract e fits aside side);
    rooms = λ arc quarter has some. by arc quarter has some (raises e quarter arc) refl;
  }
    where
      by : (arc : Arc) (quarter : Quarter) → HasArc (graph_of setup) arc → 0 < quarter_room (and_then now e) arc quarter
          → (b : Bool) → raises e quarter arc ≡ b → 0 < quarter_room before arc quarter
      by arc quarter has some true is = had arc quarter has is
      by arc quarter has some false is =
          let falls = rise-alone setup now e quarter arc fits is in
          kept.rooms arc quarter has (omega (arith, falls, some))

  kept-all : (now more : List Event) → HasKept now → FitAfter setup now more → ((e : Event) → IsIn e more → IsAside contract e)
      → ((e : Event) → IsIn e more → HadRoom setup before e) → HasKept (now ++ more)
  kept-all now [] kept fit aside had = subst HasKept (sym (append-nil now)) kept
  kept-all now (e ∷ more) kept fit aside had =
      subst HasKept (append_snoc now e more)
      (kept-all (and_then now e) more (kept-more now e kept fit.0 (aside e (inl refl)) (had e (inl refl))) fit.1
      (λ x i. aside x (inr i)) (λ x i. had x (inr i)))

  -- so it is quiet after them, if it was
  pub stays-quiet : IsMarketSetup setup → FitAfter setup [] before → (more : List Event) → FitAfter setup before more
      → ((e : Event) → IsIn e more → IsAside contract e) → ((e : Event) → IsIn e more → HadRoom setup before e)
      → IsQuiet setup before contract → IsQuiet setup (before ++ more) contract
  stays-quiet is_setup fit more fits aside had quiet =
      let none : HasKept before = record {
        fit = fit;
        stands = λ side. stand-still side (line before contract side);
        rooms = λ arc quarter has some. some;
      } in
      let kept = kept-all before more none fits aside had in
      unopened (graph_of setup) before (before ++ more) contract is_setup (kept.stands Buy) (kept.stands Sell)
      (λ arc has some. least-follows (quarter_room before arc) (quarter_room (before ++ more) arc) (contract_quarters contract) (λ q i s. kept.rooms arc q has s) some)
      quiet

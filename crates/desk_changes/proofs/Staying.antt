-- A part of an hour without a leg has none after many events of the hour, where no arc gets its first room.
use Rattle.std.proofs.Common.{◌≡◌, ◌∙◌, inl, inr, ℕ, ◌<◌, Bool, true, false, List, [], ◌∷◌, ◌++◌, None, refl, sym, ap, subst, arith}
use Rattle.std.proofs.Math.Seq.{append_snoc}
use Rattle.std.proofs.lemmas.List.{append-nil}
use Rattle.order_kinds.specs.declared.contract.Contract.{Contract}
use Rattle.order_kinds.specs.declared.contract.Part.{Part}
use Rattle.order_kinds.specs.declared.contract.Quarter.{Quarter}
use Rattle.order_kinds.specs.declared.side.Side.{Side}
use Rattle.order_kinds.specs.declared.side.Side.TheVariants.{Buy, Sell}
use Rattle.order_kinds.specs.Contract.{quarters}
use Rattle.order_kinds.specs.Period.{contract_quarters, quarter_of}
use Rattle.zone_graph.specs.declared.route.Arc.{Arc}
use Rattle.zone_graph.specs.Graph.{Graph, HasArc, IsGraph}
use Rattle.zone_graph.specs.Route.{IsIn}
use Rattle.zone_graph.proofs.Membership.{from_map}
use Rattle.market_model.specs.declared.event.Event.{Event}
use Rattle.market_model.specs.Board.{IsHourOf}
use Rattle.market_model.specs.History.{and_then}
use Rattle.market_model.specs.Lines.{line}
use Rattle.market_model.specs.Room.{quarter_room}
use Rattle.market_model.specs.Sweep.{leg_in}
use Rattle.laws_of_market.proofs.LocalLines.{line-agree}
use Rattle.laws_of_market.proofs.LocalStates.{Agree, room-agree}
use Rattle.laws_of_boards.specs.Fronts.{StandInFor}
use Rattle.laws_of_boards.proofs.Unopened.{unopened}
use Rattle.laws_of_boards.specs.Quiet.{IsAside, raises}
use Rattle.laws_of_boards.proofs.Aside.{stand-on, stand-still, stand_as_before}
use Rattle.laws_of_boards.proofs.Rises.{least-follows, rise-alone}
use Rattle.laws_of_hours.specs.NextEvents.{IsNext}
use Rattle.laws_of_hours.proofs.NextEvents.{after, agrees, before as before_it, next}
use Rattle.desk_changes.proofs.Hours.{first-follows, others-follow}

-- each arc had room already in those quarters of the hour in which an event can raise it
abbrev pub HadRoom : Graph → (hour : ℕ) → (before : List Event) → Event → Type 0
HadRoom graph hour before e =
    (arc : Arc) (quarter : Quarter) → HasArc graph arc → quarter.hour ≡ hour → raises e quarter arc ≡ true → 0 < quarter_room before arc quarter

module _ (graph : Graph) (hour : ℕ) (before : List Event) (part : Part) where
  abbrev contract : Contract
  contract = record { hour = hour; part = part }

  -- what holds after events that are aside of the part and raise no arc from nothing
  record HasKept (now : List Event) : Type 0 where
    stands : (side : Side) → StandInFor side (line before contract side) (line now contract side)
    rooms : (arc : Arc) (quarter : Quarter) → HasArc graph arc → quarter.hour ≡ hour → 0 < quarter_room now arc quarter → 0 < quarter_room before arc quarter

  module _ (now : List Event) (e : Event) (follows : IsHourOf graph hour (and_then now e)) where
    own : IsNext graph hour now e
    own = next graph hour now e follows

    agree_old : Agree (hour ∷ []) now own.history
    agree_old = agrees graph hour now (before_it graph hour now e own)

    agree_new : Agree (hour ∷ []) (and_then now e) (and_then own.history e)
    agree_new = agrees graph hour (and_then now e) (after graph hour now e own)

    line-on : IsAside contract e → (side : Side) → StandInFor side (line now contract side) (line (and_then now e) contract side)
    line-on aside side =
        subst (λ l. StandInFor side l (line (and_then now e) contract side)) (sym (line-agree (hour ∷ []) now own.history agree_old contract side (inl refl)))
        (subst (StandInFor side (line own.history contract side))
        (sym (line-agree (hour ∷ []) (and_then now e) (and_then own.history e) agree_new contract side (inl refl)))
        (stand_as_before own.setup own.history own.fit contract e own.fits aside side))

    -- the room of a quarter of the hour, by the hour's events
    room-here : (some history : List Event) → Agree (hour ∷ []) some history → (arc : Arc) (quarter : Quarter) → quarter.hour ≡ hour
        → quarter_room some arc quarter ≡ quarter_room history arc quarter
    room-here some history agree arc quarter in_hour =
        ap (λ (rooms : Arc → ℕ). rooms arc) (room-agree (hour ∷ []) some history agree (quarter ∷ []) (λ q i. elim i [
          | inl same ↦ inl (ap (λ (x : Quarter). x.hour) same ∙ in_hour)
          | inr never ↦ absurd never
        ]))

    kept-more : HasKept now → IsAside contract e → HadRoom graph hour before e → HasKept (and_then now e)
    kept-more kept aside had = record {
      stands = λ side.
          stand-on side (line before contract side) (line now contract side) (line (and_then now e) contract side) (kept.stands side) (line-on aside side);
      rooms = λ arc quarter has in_hour some. by arc quarter has in_hour some (raises e quarter arc) refl;
    }
      where
        by : (arc : Arc) (quarter : Quarter) → HasArc graph arc → quarter.hour ≡ hour → 0 < quarter_room (and_then now e) arc quarter
            → (b : Bool) → raises e quarter arc ≡ b → 0 < quarter_room before arc quarter
        by arc quarter has in_hour some true is = had arc quarter has in_hour is
        by arc quarter has in_hour some false is =
            let falls = rise-alone own.setup own.history e quarter arc own.fits is in
            let was = room-here now own.history agree_old arc quarter in_hour in
            let then = room-here (and_then now e) (and_then own.history e) agree_new arc quarter in_hour in
            kept.rooms arc quarter has in_hour (omega (arith, falls, some, was, then))

  kept-all : (now more : List Event) → IsHourOf graph hour (now ++ more) → HasKept now → ((e : Event) → IsIn e more → IsAside contract e)
      → ((e : Event) → IsIn e more → HadRoom graph hour before e) → HasKept (now ++ more)
  kept-all now [] follows kept aside had = subst HasKept (sym (append-nil now)) kept
  kept-all now (e ∷ more) follows kept aside had =
      subst HasKept (append_snoc now e more)
      (kept-all (and_then now e) more (others-follow graph hour now e more follows)
      (kept-more now e (first-follows graph hour now e more follows) kept (aside e (inl refl)) (had e (inl refl)))
      (λ x i. aside x (inr i)) (λ x i. had x (inr i)))

  -- it has no leg after them, if it had none
  pub stays-quiet : IsGraph graph → (more : List Event) → IsHourOf graph hour (before ++ more) → ((e : Event) → IsIn e more → IsAside contract e)
      → ((e : Event) → IsIn e more → HadRoom graph hour before e) → leg_in graph before contract ≡ None → leg_in graph (before ++ more) contract ≡ None
  stays-quiet is more follows aside had quiet =
      let none : HasKept before = record {
        stands = λ side. stand-still side (line before contract side);
        rooms = λ arc quarter has in_hour some. some;
      } in
      let kept = kept-all before more follows none aside had in
      unopened graph before (before ++ more) contract is (kept.stands Buy) (kept.stands Sell)
      (λ arc has some. least-follows (quarter_room before arc) (quarter_room (before ++ more) arc) (contract_quarters contract)
      (λ q i s. kept.rooms arc q has (ap (λ (x : Quarter). x.hour) (from_map (quarter_of hour) q (quarters part) i).2) s) some)
      quiet

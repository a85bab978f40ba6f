-- Legs that were made one after the other are the first of a taking, and all of it where there is no next.
use Rattle.std.proofs.Common.{◌≡◌, ◌∙◌, ℕ, ◌<◌, List, [], ◌∷◌, ◌++◌, append_assoc, append-nil, length, Some, None, Result, Ok, Err, OnErr, sym, ap, subst, arith}
use Rattle.std.proofs.Math.Seq.{take-append_seam}
use Rattle.std.specs.Prelude.{take as first}
use Rattle.order_kinds.specs.declared.order.OrderName.{OrderName}
use Rattle.order_kinds.specs.Contract.{contract_at}
use Rattle.zone_graph.specs.Graph.{Graph}
use Rattle.zone_graph.specs.Route.{IsIn}
use Rattle.market_model.specs.declared.event.Event.{Event}
use Rattle.market_model.specs.declared.event.Event.TheVariants as event
use Rattle.market_model.specs.Board.{BoardState, IsBoard, with_events}
use Rattle.market_model.specs.History.{and_then}
use Rattle.market_model.specs.Orders.{Placed, left, placed, placed_by}
use Rattle.market_model.specs.Taking.{IsTaking, next_leg, take}
use Rattle.laws_of_market.proofs.Placed.{picked-stays}
use Rattle.laws_of_market.proofs.Repeats.{run-kept}
use Rattle.laws_of_boards.proofs.Legs.{next_legs}
use Rattle.laws_of_boards.proofs.Runs.{takings}
use Rattle.match_core.specs.declared.taker.Taker.{Taker}
use Rattle.match_core.specs.declared.walk.Walk.{Walk}
use Rattle.match_core.specs.Takers.{taker_of}
use Rattle.match_core.specs.Takings.{HasBegun, HasEntered, after_taking}
use Rattle.match_core.specs.Walks.{IsNextMade, Stands, TakesOn}
use Rattle.match_core.proofs.Legs.{leg-some, leg-within, left-then, takes-after}
use Rattle.match_core.proofs.Orders.{its-hour, one-name, takes-start}

-- legs were made on a board: what is a taking behind them is one with them
pub record HasMade (start now : BoardState) (name : OrderName) : Type 0 where
  pub legs : List Event
  pub is : now ≡ with_events start (start.events ++ legs)
  pub onward : (more : List Event) → IsTaking start.grid now.events name more → IsTaking start.grid start.events name (legs ++ more)

-- none yet
pub made-none : (start : BoardState) (name : OrderName) → HasMade start start name
made-none start name = record {
  legs = [];
  is = ap (with_events start) (sym (append-nil start.events));
  onward = λ more run. run;
}

-- and one more
pub made-more : (start before now : BoardState) (name : OrderName) (part : ℕ) → HasMade start before name → IsNextMade before now part name → HasMade start now name
made-more start before now name part made next =
    let leg : Event = event.Leg (contract_at before.hour part) next.leg in
    let grid_is : before.grid ≡ start.grid = ap (λ (b : BoardState). b.grid) made.is in
    let events_are : now.events ≡ and_then before.events leg = ap (λ (b : BoardState). b.events) next.is in
    let before_are : before.events ≡ start.events ++ made.legs = ap (λ (b : BoardState). b.events) made.is in
    record {
      legs = made.legs ++ (leg ∷ []);
      is = next.is
          ∙ ap (λ (b : BoardState). with_events b (and_then before.events leg)) made.is
          ∙ ap (with_events start) (ap (λ es. es ++ (leg ∷ [])) before_are ∙ append_assoc start.events made.legs (leg ∷ []));
      onward = λ more run.
          subst (IsTaking start.grid start.events name) (sym (append_assoc made.legs (leg ∷ []) more))
          (made.onward (leg ∷ more) (
            subst (λ (g : Graph). next_leg g name before.events ≡ Some leg) grid_is next.next,
            subst (λ es. IsTaking start.grid es name more) events_are run,
          ));
    }

-- ---- the whole taking

-- an order in hand after more events
abbrev KeptOn : BoardState → (part : ℕ) → Placed → List Event → Type 0
KeptOn board part order events = TakesOn (with_events board events) part order

kept-on : (board : BoardState) (part : ℕ) (order : Placed) (events : List Event) (e : Event) → KeptOn board part order events
    → next_leg board.grid order.name events ≡ Some e → KeptOn board part order (and_then events e) × (left (and_then events e) order.name < left events order.name)
kept-on board part order events e takes is =
    let made = next_legs (with_events board events) part order e takes.is_board takes.there takes.of_part is in
    let next : next_leg board.grid order.name events ≡ Some (event.Leg (contract_at board.hour part) made.leg) = is ∙ ap Some made.is in
    let on = takes-after (with_events board events) part order takes made.leg next in
    let lower = left-then (with_events board events) part order takes made.leg next in
    let some = leg-some (with_events board events) part order takes made.leg next in
    let most = leg-within (with_events board events) part order takes made.leg next in
    let less : left (and_then events (event.Leg (contract_at board.hour part) made.leg)) order.name < left events order.name = omega (arith, lower, some, most) in (
      subst (λ x. KeptOn board part order (and_then events x)) (sym made.is) on,
      subst (λ x. left (and_then events x) order.name < left events order.name) (sym made.is) less,
    )

-- the legs that are computed are the run to the end
pub board-run : (board : BoardState) (part : ℕ) (order : Placed) → TakesOn board part order → IsTaking board.grid board.events order.name (take board.grid board.events order.name)
unfolding take
board-run board part order takes =
    run-kept (left board.events order.name) (next_leg board.grid order.name) and_then (λ events. left events order.name) (KeptOn board part order)
    (λ events e kept is. kept-on board part order events e kept is)
    board.events takes (omega arith)

module _ (start now : BoardState) (order : Placed) (is_board : IsBoard start) (named : order.name.hour ≡ start.hour) (made : HasMade start now order.name) where
  -- where there is no next leg all of it was made
  pub made-all : next_leg now.grid order.name now.events ≡ None → now ≡ after_taking start order.name
  made-all none =
      let grid_is : now.grid ≡ start.grid = ap (λ (b : BoardState). b.grid) made.is in
      let run : IsTaking start.grid start.events order.name (made.legs ++ []) =
      made.onward [] (subst (λ (g : Graph). next_leg g order.name now.events ≡ None) grid_is none) in
      let whole = takings start order.name made.legs is_board named (subst (IsTaking start.grid start.events order.name) (append-nil made.legs) run) in
      made.is ∙ ap (λ legs. with_events start (start.events ++ legs)) whole

  -- else the first of it
  pub made-first : (part : ℕ) → TakesOn now part order → HasBegun start now order.name
  made-first part takes =
      let grid_is : now.grid ≡ start.grid = ap (λ (b : BoardState). b.grid) made.is in
      let rest : List Event = take now.grid now.events order.name in
      let run = subst (λ (g : Graph). IsTaking g now.events order.name rest) grid_is (board-run now part order takes) in
      let whole = takings start order.name (made.legs ++ rest) is_board named (made.onward rest run) in
      record {
        count = length made.legs;
        is = made.is ∙ ap (λ legs. with_events start (start.events ++ legs)) (sym (take-append_seam made.legs rest) ∙ ap (first (length made.legs)) whole);
      }

-- before the first leg none was made
pub begun-none : (start : BoardState) (name : OrderName) → HasBegun start start name
begun-none start name = record { count = 0; is = ap (with_events start) (sym (append-nil start.events)) }

-- an order of the board stands as the taker that has its name
pub stands-as : (start now : BoardState) (part : ℕ) (own order : Placed) (name : OrderName) → TakesOn now part own → HasMade start now name
    → IsIn order (placed start.events) → order.name ≡ own.name → order ≡ own
stands-as start now part own order name takes made there same =
    one-name now part own takes order
    (subst (λ es. IsIn order (placed es)) (sym (ap (λ (b : BoardState). b.events) made.is)) (picked-stays placed_by order start.events made.legs there)) same

-- ---- what a walk that has made some legs answers

module _ (start now : BoardState) (walk : Walk) (name : OrderName) (is_board : IsBoard start) (stands : Stands now walk) (made : HasMade start now name)
    (named : walk.taker.name ≡ name) where
  order_name : stands.order.name ≡ name
  order_name = sym (ap (λ (t : Taker). t.name) stands.is) ∙ named

  own-made : HasMade start now stands.order.name
  own-made = subst (HasMade start now) (sym order_name) made

  own-hour : stands.order.name.hour ≡ start.hour
  own-hour = its-hour now walk.part stands.order stands.takes ∙ ap (λ (b : BoardState). b.hour) made.is

  pub has-begun : HasBegun start now name
  has-begun = subst (HasBegun start now) order_name (made-first start now stands.order is_board own-hour own-made walk.part stands.takes)

  pub has-ended : next_leg now.grid walk.taker.name now.events ≡ None → now ≡ after_taking start name
  has-ended none =
      subst (λ n. now ≡ after_taking start n) order_name
      (made-all start now stands.order is_board own-hour own-made (ap (λ n. next_leg now.grid n now.events) (order_name ∙ sym named) ∙ none))

  pub stands-for : (order : Placed) → IsIn order (placed start.events) → order.name ≡ name → walk.taker ≡ taker_of now.events order
  stands-for order there same =
      stands.is
      ∙ ap (taker_of now.events) (sym (stands-as start now walk.part stands.order order name stands.takes made there (same ∙ sym order_name)))

-- ---- an order that takes nothing

module _ (board : BoardState) (part : ℕ) (taker : Taker) (in_part : part < board.parts) (in_hand : board.hand ≡ Some taker.name.number)
    (entered : HasEntered board part taker) (is_board : IsBoard board) where
  takes : TakesOn board part entered.order
  takes = takes-start board part taker in_part in_hand entered is_board

  its_name : taker.name ≡ entered.order.name
  its_name = ap (λ (t : Taker). t.name) entered.is

  pub takes-nothing : next_leg board.grid taker.name board.events ≡ None → board ≡ after_taking board taker.name
  takes-nothing none =
      subst (λ n. board ≡ after_taking board n) (sym its_name)
      (made-all board board entered.order is_board (its-hour board part entered.order takes) (made-none board entered.order.name)
      (ap (λ n. next_leg board.grid n board.events) (sym its_name) ∙ none))

  pub stands-unmoved : (order : Placed) → IsIn order (placed board.events) → order.name ≡ taker.name → taker ≡ taker_of board.events order
  stands-unmoved order there same =
      entered.is ∙ ap (taker_of board.events) (sym (one-name board part entered.order takes order there (same ∙ its_name)))

-- what is given where memory runs out
pub on_err : {T E : Type 0} (result : Result T E) (P : Type 0) → P → OnErr result P
on_err (Ok x) P p = tt
on_err (Err e) P p = p

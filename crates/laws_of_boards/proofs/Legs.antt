-- The next legs of the market can be made on a board, and what is made leaves a board.
use Rattle.std.proofs.Common.{◌≡◌, ◌∙◌, inl, ℕ, ◌≤◌, Bool, true, false, cond, not, List, [], ◌∷◌, ◌++◌, filter, length, Option, Some, None, eq-eqb, refl, sym, ap, subst, arith}
use Rattle.std.proofs.lemmas.Bool.{lt-ltb, ltb-true}
use Rattle.std.specs.List.{filter_map}
use Rattle.order_kinds.specs.declared.contract.Contract.{Contract}
use Rattle.order_kinds.specs.declared.contract.Part.{Part}
use Rattle.order_kinds.specs.declared.order.OrderName.{OrderName}
use Rattle.order_kinds.specs.declared.side.Side.TheVariants.{Buy}
use Rattle.order_kinds.specs.Contract.{contract_at, part_at}
use Rattle.zone_graph.specs.Graph.{Graph}
use Rattle.zone_graph.proofs.Membership.{IsIn-right}
use Rattle.market_model.specs.declared.event.Event.{Event}
use Rattle.market_model.specs.declared.event.Event.TheVariants as event
use Rattle.market_model.specs.declared.event.Leg.{Leg}
use Rattle.market_model.specs.Board.{BoardState, CanBeMade, IsBoard, after_leg, is_in_hand, resting_names}
use Rattle.market_model.specs.Grid.{graph_of}
use Rattle.market_model.specs.History.{and_then, touches}
use Rattle.market_model.specs.Lines.{line}
use Rattle.market_model.specs.Orders.{is_open, left, name_given}
use Rattle.market_model.specs.Sweep.{leg_in, leg_of_buy, or_else, sweep_leg}
use Rattle.market_model.specs.Taking.{next_leg}
use Rattle.market_model.specs.WellFormed.{Fits, LegFits}
use Rattle.laws_of_market.proofs.Falls.{IsLegIn, leg-lowers, leg_of_buy-contract, lowers-hour}
use Rattle.laws_of_market.proofs.Legs.{next_leg-fits, sweep_leg-fits}
use Rattle.laws_of_market.proofs.Members.{from_first_answer}
use Rattle.laws_of_market.proofs.Placed.{picked-same}
use Rattle.laws_of_market.proofs.Repeats.{fit-more}
use Rattle.laws_of_market.proofs.Trades.{from_line}
use Rattle.laws_of_market.proofs.LocalLines.{left_in_hour-agree, next_leg-agree, placed-named, sweep_leg-agree}
use Rattle.laws_of_market.proofs.LocalMoments.{hour-more}
use Rattle.laws_of_market.proofs.NamedByHour.{history-named}
use Rattle.laws_of_market.proofs.LocalStates.{Agree, agree-more}
use Rattle.laws_of_maximum.proofs.Obtained.{fit-can_take}
use Rattle.laws_of_maximum.proofs.Takers.{takers-leg}
use Rattle.laws_of_boards.specs.Boards.{IsLegOf, LegsLeaveABoard, LegsLowerTheHour, NextLegsCanBeMade, SweepLegsCanBeMade}
use Rattle.laws_of_boards.proofs.Shared.{agree-turned, board-agrees, leg-shared, placed-shared}

-- ---- legs that can be made

-- over the history whose hour a board stands for a leg of a part fits, so it can be made
leg-made : (board : BoardState) (is_board : IsBoard board) (part : ℕ) (given : Event) → IsLegIn (contract_at board.hour part) given
    → Fits is_board.stands.setup is_board.stands.history given → IsLegOf board part given
leg-made board is_board part given made fits =
    let whole = is_board.stands in
    let own : LegFits whole.setup whole.history (contract_at board.hour part) made.leg = subst (Fits whole.setup whole.history) (sym made.is) fits in
    let turned = agree-turned (board.hour ∷ []) board.events whole.history (board-agrees board is_board) in
    record {
      leg = made.leg;
      is = sym made.is;
      can_be_made = (whole.setup, whole.over_grid, leg-shared board.hour whole.history board.events turned whole.setup whole.setup (contract_at board.hour part) made.leg refl refl own);
    }

-- and a leg that can be made fits that history
pub made-fits : (board : BoardState) (is_board : IsBoard board) (part : ℕ) (leg : Leg) → CanBeMade board part leg
    → LegFits is_board.stands.setup is_board.stands.history (contract_at board.hour part) leg
made-fits board is_board part leg can =
    leg-shared board.hour board.events is_board.stands.history (board-agrees board is_board) can.0 is_board.stands.setup (contract_at board.hour part) leg
    (can.1 ∙ sym is_board.stands.over_grid) refl can.2

pub next_legs : NextLegsCanBeMade
next_legs board part taker given is_board there of_part is =
    let whole = is_board.stands in
    let agree = board-agrees board is_board in
    let its_hour : taker.name.hour ≡ board.hour = placed-named board.events agree.named_a taker there ∙ ap (λ (c : Contract). c.hour) of_part in
    let next : next_leg board.grid taker.name whole.history ≡ Some given =
    sym (next_leg-agree (board.hour ∷ []) board.events whole.history agree board.grid taker.name (inl its_hour)) ∙ is in
    let over : next_leg (graph_of whole.setup) taker.name whole.history ≡ Some given = subst (λ g. next_leg g taker.name whole.history ≡ Some given) (sym whole.over_grid) next in
    let leg = takers-leg (graph_of whole.setup) whole.is_setup whole.history (fit-can_take whole.setup whole.history whole.fit) taker given
    (placed-shared board.hour board.events whole.history agree taker its_hour there) over in
    leg-made board is_board part given (record { leg = leg.leg; is = subst (λ c. event.Leg c leg.leg ≡ given) of_part leg.is })
    (next_leg-fits whole.setup whole.is_setup whole.history whole.fit taker.name given over)

-- the leg of a sweep of one part is the part's
one_part : (part : Part) (graph : Graph) (hour : ℕ) (events : List Event)
    → sweep_leg (part ∷ []) graph hour events ≡ leg_in graph events (record { hour = hour; part = part })
unfolding sweep_leg
one_part part graph hour events = alone (leg_in graph events (record { hour = hour; part = part }))
  where
    alone : (o : Option Event) → or_else o (λ _. None) ≡ o
    alone None = refl
    alone (Some e) = refl

pub sweep_legs : SweepLegsCanBeMade
sweep_legs board part given is_board is =
    let whole = is_board.stands in
    let contract : Contract = contract_at board.hour part in
    let parts : List Part = part_at part ∷ [] in
    let next : sweep_leg parts board.grid board.hour whole.history ≡ Some given =
    sym (sweep_leg-agree (board.hour ∷ []) board.events whole.history (board-agrees board is_board) parts board.grid board.hour (inl refl))
    ∙ one_part (part_at part) board.grid board.hour board.events ∙ is in
    let over : sweep_leg parts (graph_of whole.setup) board.hour whole.history ≡ Some given =
    subst (λ g. sweep_leg parts g board.hour whole.history ≡ Some given) (sym whole.over_grid) next in
    let buy = from_first_answer (leg_of_buy (graph_of whole.setup) whole.history) given (line whole.history contract Buy)
    (sym (one_part (part_at part) (graph_of whole.setup) board.hour whole.history) ∙ over) in
    leg-made board is_board part given
    (leg_of_buy-contract (graph_of whole.setup) whole.history contract buy.0 given (from_line whole.history contract Buy buy.0 buy.1) buy.2)
    (sweep_leg-fits whole.setup whole.is_setup whole.history whole.fit parts board.hour given over)

-- ---- what is made leaves a board

-- of those that pass a test no more pass another where none passes it that did not
fewer-rest : {X : Type 0} (r p q : X → Bool) (xs : List X) → ((x : X) → p x ≡ true → q x ≡ true) → length (filter r (filter p xs)) ≤ length (filter r (filter q xs))
fewer-rest r p q [] stricter = omega arith
fewer-rest {X} r p q (x ∷ xs) stricter = go (fewer-rest r p q xs stricter) (p x) (q x) (r x) refl refl refl
  where
    go : length (filter r (filter p xs)) ≤ length (filter r (filter q xs)) → (a b c : Bool) → p x ≡ a → q x ≡ b → r x ≡ c
        → length (filter r (cond a (x ∷ filter p xs) (filter p xs))) ≤ length (filter r (cond b (x ∷ filter q xs) (filter q xs)))
    go rest true true true i j k = rw k (omega arith)
    go rest true true false i j k = rw k rest
    go rest true false c i j k = absurd (let now : false ≡ true = sym j ∙ stricter x i in cc)
    go rest false true true i j k = rw k (omega arith)
    go rest false true false i j k = rw k rest
    go rest false false c i j k = rest

-- a leg leaves open what was open, or less
opens-before : (events : List Event) (contract : Contract) (leg : Leg) (name : OrderName) → is_open (and_then events (event.Leg contract leg)) name ≡ true
    → is_open events name ≡ true
opens-before events contract leg name opened =
    let some = ltb-true 0 (left (and_then events (event.Leg contract leg)) name) opened in
    let lower = leg-lowers events contract leg name in
    lt-ltb 0 (left events name) (omega (arith, some, lower))

pub leaves : LegsLeaveABoard
leaves board part leg is_board can =
    let whole = is_board.stands in
    let contract : Contract = contract_at board.hour part in
    let made : Event = event.Leg contract leg in
    let touched : touches board.hour made ≡ true = eq-eqb board.hour board.hour refl in
    let names : filter_map (name_given board.hour) (and_then board.events made) ≡ filter_map (name_given board.hour) board.events =
    picked-same (name_given board.hour) board.events made refl in
    let rests : OrderName → Bool = λ name. not (is_in_hand board.hand name) in
    let fewer = fewer-rest rests (is_open (and_then board.events made)) (is_open board.events) (filter_map (name_given board.hour) board.events)
    (opens-before board.events contract leg) in
    let fewer_rest : length (resting_names (after_leg board part leg)) ≤ length (resting_names board) =
    subst (λ xs. length (filter rests (filter (is_open (and_then board.events made)) xs)) ≤ length (resting_names board)) (sym names) fewer in
    let few = is_board.few in
    record {
      stands = record {
        setup = whole.setup;
        history = and_then whole.history made;
        over_grid = whole.over_grid;
        is_setup = whole.is_setup;
        fit = fit-more whole.setup whole.history made whole.fit (made-fits board is_board part leg can);
        in_hour = hour-more board.hour whole.history made touched ∙ ap (λ es. es ++ made ∷ []) whole.in_hour;
      };
      few = omega (arith, fewer_rest, few);
    }

-- the events with a leg that is made agree with the history with it
pub made-agrees : (board : BoardState) (is_board : IsBoard board) (part : ℕ) (leg : Leg) → CanBeMade board part leg
    → let made = event.Leg (contract_at board.hour part) leg in
    Agree (board.hour ∷ []) (and_then board.events made) (and_then is_board.stands.history made)
made-agrees board is_board part leg can =
    let whole = is_board.stands in
    let made : Event = event.Leg (contract_at board.hour part) leg in
    let fit = fit-more whole.setup whole.history made whole.fit (made-fits board is_board part leg can) in
    agree-more (board.hour ∷ []) board.events whole.history made (board-agrees board is_board)
    (history-named whole.setup (and_then whole.history made) fit made (IsIn-right made whole.history (made ∷ []) (inl refl)))

-- and the leg lowers what is left in the hour
pub lower : LegsLowerTheHour
lower board part leg is_board can =
    let whole = is_board.stands in
    let made : Event = event.Leg (contract_at board.hour part) leg in
    let falls = lowers-hour whole.setup whole.history (contract_at board.hour part) leg whole.fit (made-fits board is_board part leg can) in
    let before = left_in_hour-agree (board.hour ∷ []) board.events whole.history board.hour (board-agrees board is_board) (inl refl) in
    let after = left_in_hour-agree (board.hour ∷ []) (and_then board.events made) (and_then whole.history made) board.hour (made-agrees board is_board part leg can) (inl refl) in
    omega (arith, falls, before, after)

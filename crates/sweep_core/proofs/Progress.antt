-- A sweep under way: the legs so far are its first ones, and where none is next nothing is left to trade.
use Rattle.std.proofs.Common.{◌≡◌, ◌∙◌, inl, inr, ℕ, zero, suc, ◌<◌, ◌≤◌, List, [], ◌∷◌, ◌++◌, append_assoc, length, take, Option, Some, None, refl, sym, ap, subst, arith}
use Rattle.std.proofs.lemmas.List.{append-nil}
use Rattle.std.proofs.Math.Seq.{take-append_seam}
use Rattle.order_kinds.specs.declared.contract.Contract.{Contract}
use Rattle.order_kinds.specs.declared.side.Side.TheVariants.{Buy}
use Rattle.order_kinds.specs.Contract.{contract_at}
use Rattle.zone_graph.specs.Route.{IsIn}
use Rattle.zone_graph.specs.Steps.{step_and_onward, steps}
use Rattle.market_model.specs.declared.event.Event.{Event}
use Rattle.market_model.specs.declared.event.Event.TheVariants as event
use Rattle.market_model.specs.declared.event.Leg.{Leg}
use Rattle.market_model.specs.Board.{BoardState, CanBeMade, IsBoard, after_leg, with_events}
use Rattle.market_model.specs.History.{and_then}
use Rattle.market_model.specs.Lines.{line}
use Rattle.market_model.specs.Sweep.{all_parts, left_in_hour, leg_of_buy, sweep, sweep_leg}
use Rattle.laws_of_market.proofs.Members.{first_answer-none}
use Rattle.laws_of_boards.proofs.Worse.{trades-none}
use Rattle.laws_of_boards.proofs.Legs.{lower as lowers, sweep_legs}
use Rattle.sweep_core.specs.Sweeping.{IsSweptInPart, NothingTrades, event_in, first_leg, hour_sweep, next_event, order_numbers, part_leg, swept}

-- the parts are tried in the order of their numbers
pub next-is : (board : BoardState) → next_event board ≡ first_leg board order_numbers
unfolding sweep_leg
next-is board = refl

in_order : (part : ℕ) → part < 7 → IsIn part order_numbers
in_order zero less = inl refl
in_order (suc zero) less = inr (inr (inr (inl refl)))
in_order (suc (suc zero)) less = inr (inr (inr (inr (inl refl))))
in_order (suc (suc (suc zero))) less = inr (inr (inr (inr (inr (inl refl)))))
in_order (suc (suc (suc (suc zero)))) less = inr (inr (inr (inr (inr (inr (inl refl))))))
in_order (suc (suc (suc (suc (suc zero))))) less = inr (inl refl)
in_order (suc (suc (suc (suc (suc (suc zero)))))) less = inr (inr (inl refl))
in_order (suc (suc (suc (suc (suc (suc (suc n))))))) less = absurd (omega (arith, less))

-- where no leg is next, no part has one and nothing is left to trade
pub nothing-trades : (board : BoardState) → next_event board ≡ None → NothingTrades board
nothing-trades board none = record {
  no_leg = quiet;
  no_pair = λ part buy sell less i j.
      trades-none board.grid board.events (contract_at board.hour part) buy i
      (first_answer-none (leg_of_buy board.grid board.events) (line board.events (contract_at board.hour part) Buy) (quiet part less) buy i) sell j;
}
  where
    quiet : (part : ℕ) → part < 7 → part_leg board part ≡ None
    quiet part less = first_answer-none (part_leg board) order_numbers (sym (next-is board) ∙ none) part (in_order part less)

one-leg : (contract : Contract) (a b : Leg) → event.Leg contract a ≡ event.Leg contract b → a ≡ b
one-leg contract a b same = cc

-- a leg that was found can be made
pub can-be-made : (board : BoardState) (part : ℕ) (leg : Leg) → IsBoard board → part_leg board part ≡ Some (event_in board part leg) → CanBeMade board part leg
can-be-made board part leg is_board is =
    let made = sweep_legs board part (event_in board part leg) is_board is in
    subst (CanBeMade board part) (one-leg (contract_at board.hour part) made.leg leg (sym made.is)) made.can_be_made

-- ---- steps

steps-next : {S X : Type 0} (most : ℕ) (step : S → Option X) (after : S → X → S) (state : S) (x : X) → step state ≡ Some x
    → steps (suc most) step after state ≡ x ∷ steps most step after (after state x)
unfolding steps
steps-next most step after state x e = ap (λ o. step_and_onward o (λ y. steps most step after (after state y))) e

steps-end : {S X : Type 0} (most : ℕ) (step : S → Option X) (after : S → X → S) (state : S) → step state ≡ None → steps most step after state ≡ []
unfolding steps
steps-end zero step after state e = refl
steps-end (suc most) step after state e = ap (λ o. step_and_onward o (λ y. steps most step after (after state y))) e

-- the legs that led from a board to another one are the first of its sweep, and so many more at the most
-- are left
pub record IsUnderWay (before now : BoardState) : Type 0 where
  pub legs : List Event
  pub most : ℕ
  pub is : now ≡ with_events before (before.events ++ legs)
  pub more : hour_sweep before ≡ legs ++ steps most (sweep_leg all_parts now.grid now.hour) and_then now.events
  pub enough : left_in_hour now.events now.hour ≤ most

pub begun : (board : BoardState) → IsUnderWay board board
unfolding sweep
begun board = record {
  legs = [];
  most = left_in_hour board.events board.hour;
  is = ap (with_events board) (sym (append-nil board.events));
  more = refl;
  enough = omega arith;
}

pub one_more : (before now : BoardState) (part : ℕ) (leg : Leg) → IsBoard now → CanBeMade now part leg → next_event now ≡ Some (event_in now part leg)
    → IsUnderWay before now → IsUnderWay before (after_leg now part leg)
one_more before now part leg is_board can next way = go way.most way.more way.enough
  where
    made : Event
    made = event_in now part leg

    lower : left_in_hour (after_leg now part leg).events now.hour < left_in_hour now.events now.hour
    lower = lowers now part leg is_board can

    go : (most : ℕ) → hour_sweep before ≡ way.legs ++ steps most (sweep_leg all_parts now.grid now.hour) and_then now.events
        → left_in_hour now.events now.hour ≤ most → IsUnderWay before (after_leg now part leg)
    go zero more enough = absurd (omega (arith, lower, enough))
    go (suc most) more enough =
        let onward = steps most (sweep_leg all_parts now.grid now.hour) and_then (and_then now.events made) in
        record {
          legs = way.legs ++ made ∷ [];
          most = most;
          is = ap (λ (s : BoardState). with_events s (and_then s.events made)) way.is ∙ ap (with_events before) (append_assoc before.events way.legs (made ∷ []));
          more = more ∙ ap (λ (xs : List Event). way.legs ++ xs) (steps-next most (sweep_leg all_parts now.grid now.hour) and_then now.events made next)
              ∙ sym (append_assoc way.legs (made ∷ []) onward);
          enough = omega (arith, lower, enough);
        }

-- where none is next, the board is swept
pub ended : (before now : BoardState) → next_event now ≡ None → IsUnderWay before now → now ≡ swept before
ended before now none way =
    let all : hour_sweep before ≡ way.legs =
    way.more ∙ ap (λ (xs : List Event). way.legs ++ xs) (steps-end way.most (sweep_leg all_parts now.grid now.hour) and_then now.events none) ∙ append-nil way.legs in
    way.is ∙ ap (λ (xs : List Event). with_events before (before.events ++ xs)) (sym all)

-- and else it is in part
pub in-part : (before now : BoardState) → IsUnderWay before now → IsSweptInPart before now
in-part before now way =
    let rest = steps way.most (sweep_leg all_parts now.grid now.hour) and_then now.events in (
      length way.legs,
      way.is ∙ ap (λ (xs : List Event). with_events before (before.events ++ xs)) (sym (ap (take (length way.legs)) way.more ∙ take-append_seam way.legs rest)),
    )

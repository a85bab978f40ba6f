-- What an hour has planned after some events and the sweep behind them.
use Rattle.std.proofs.Common.{◌≡◌, ◌∙◌, ℕ, [], ◌∷◌, ◌++◌, append_assoc, None, refl, sym, ap, subst}
use Rattle.std.proofs.lemmas.List.{append-nil}
use Rattle.market_model.specs.declared.event.Event.{Event}
use Rattle.market_model.specs.Board.{with_events}
use Rattle.laws_of_boards.specs.Settled.{IsSettled}
use Rattle.sweep_core.specs.Sweeping.{swept}
use Rattle.block_match.specs.declared.deal.BlockDeal.{BlockDeal}
use Rattle.block_match.specs.Market.{deal_events}
use Rattle.laws_of_joint_commands.specs.EnteringBlocks.{AreClosed}
use Rattle.kept_hour.specs.Deals.{ClosesBoth, with_entry}
use Rattle.kept_hour.specs.Planned.{CanFollow, IsUnplanned, with_planned}
use Rattle.kept_hour.specs.State.{HourState, after_event, block_entry_of, with_board, with_hand}
use Rattle.order_kinds.specs.declared.order.BlockOrder.{BlockOrder}
use Rattle.desk_changes.specs.Quiet.{HasNoLeg}
use Rattle.desk_changes.proofs.Planning.{settled-quiet}
use Rattle.desk_changes.proofs.Quiet.{no-sweep, still-quiet}
use Rattle.desk_changes.specs.Plans.{IsEntryDeal, entry_events, then_sweep_all}

-- an hour in which nothing trades is swept as it is
pub swept-still : (hour : HourState) → hour.board.hand ≡ None → HasNoLeg hour.board.grid hour.board.hour hour.board.events → hour ≡ with_board hour (swept hour.board)
swept-still hour free quiet =
    ap (λ es. with_board hour (with_events hour.board es))
    (sym (append-nil hour.board.events) ∙ ap (λ legs. hour.board.events ++ legs) (sym (no-sweep hour.board.grid hour.board.hour hour.board.events quiet)))

-- the entry of a block that rests, behind which nothing is swept
pub rest-planned : (old new : HourState) (caller : ℕ) (order : BlockOrder) → IsUnplanned old → CanFollow old (entry_events old caller order None)
    → IsSettled old.board.grid old.board.hour old.settled → new ≡ after_event old (block_entry_of old caller order) None
    → new ≡ with_planned old (then_sweep_all old.board.grid old (entry_events old caller order None))
rest-planned old new caller order unplanned follows settled is =
    is ∙ ap (λ es. with_board old (with_hand (with_events old.board (es ++ entry ∷ [])) None)) unplanned.events
    ∙ ap (λ legs. with_planned old (entry ∷ legs)) (sym (no-sweep old.board.grid old.board.hour (old.settled ++ entry ∷ [])
    (subst (λ es. HasNoLeg old.board.grid old.board.hour (es ++ entry ∷ [])) unplanned.events
    (still-quiet old.board.grid old.board.hour old.board.events entry follows (λ c. tt) (λ quarter arc. refl)
    (settled-quiet old old.board.grid refl unplanned settled)))))
  where
    entry : Event
    entry = block_entry_of old caller order

-- the deal of a block that enters closes both, after the entry
pub entry-closes : (hour : HourState) (caller : ℕ) (order : BlockOrder) (deal : BlockDeal) → IsEntryDeal hour caller order deal
    → ClosesBoth (with_entry hour caller order) order.first order.last deal
entry-closes hour caller order deal is =
    let same = append_assoc hour.board.events (block_entry_of hour caller order ∷ []) (deal_events order.first order.last deal) in
    let closed : AreClosed order.first deal ((hour.board.events ++ block_entry_of hour caller order ∷ []) ++ deal_events order.first order.last deal) =
    subst (AreClosed order.first deal) (sym same) is.closes in
    record { taker = closed.taker; maker = closed.maker }

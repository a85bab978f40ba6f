-- Deals are made one after the other.
use Rattle.std.proofs.Common.{◌≡◌, ◌∙◌, ℕ, suc, ◌+◌, ◌<◌, List, [], ◌∷◌, ◌++◌, add-one, append_assoc, drop, get_or, length, None, sym, ap, subst}
use Rattle.std.proofs.Math.Seq.{drop-cons}
use Rattle.block_match.specs.declared.deal.BlockDeal.{BlockDeal}
use Rattle.block_match.specs.Market.{deal_events}
use Rattle.market_model.specs.declared.event.Event.{Event}
use Rattle.market_model.specs.Board.{IsHourOf, with_events}
use Rattle.laws_of_hours.proofs.NextEvents.{first_of_many}
use Rattle.laws_of_joint_commands.specs.EnteringBlocks.{AreClosed}
use Rattle.laws_of_joint_commands.specs.MatchingBlocks.{legs_of}
use Rattle.kept_hour.specs.Planned.{CanFollow, after_events}
use Rattle.kept_hour.specs.State.{HourState, with_board, with_hand}
use Rattle.desk_changes.specs.Plans.{CloseInTurn}

-- some events, and then others
pub after-both : (old now new : HourState) (events more : List Event) → now ≡ after_events old events → new ≡ after_events now more
    → new ≡ after_events old (events ++ more)
after-both old now new events more now_is new_is =
    new_is ∙ ap (λ (h : HourState). after_events h more) now_is
    ∙ ap (λ es. with_board old (with_hand (with_events old.board es) None)) (append_assoc old.board.events events more)

module _ (first last : ℕ) (deals : List BlockDeal) (place : ℕ) (low : place < length deals) (deal default : BlockDeal) (is : deal ≡ get_or deals place default) where
  -- the deals from a place on are the one there and those behind it
  from-place : drop place deals ≡ deal ∷ drop (place + 1) deals
  from-place = drop-cons deals place default low ∙ ap (λ d. d ∷ drop (suc place) deals) (sym is) ∙ ap (λ n. deal ∷ drop n deals) (sym (add-one place))

  module _ (now : HourState) (follows : CanFollow now (legs_of first last (drop place deals))) where
    rest-follows : IsHourOf now.board.grid now.board.hour ((now.board.events ++ deal_events first last deal) ++ legs_of first last (drop (place + 1) deals))
    rest-follows =
        subst (IsHourOf now.board.grid now.board.hour) (sym (append_assoc now.board.events (deal_events first last deal) (legs_of first last (drop (place + 1) deals))))
        (subst (λ ds. CanFollow now (legs_of first last ds)) from-place follows)

    pub deal-follows : CanFollow now (deal_events first last deal)
    deal-follows =
        first_of_many now.board.grid now.board.hour (now.board.events ++ deal_events first last deal) (legs_of first last (drop (place + 1) deals)) rest-follows

  module _ (events : List Event) (whole : CloseInTurn first last events (drop place deals)) where
    pub deal-closes : AreClosed first deal (events ++ deal_events first last deal)
    deal-closes = (subst (CloseInTurn first last events) from-place whole).0

-- The next deal of a period, in a kept hour in which some deals were found and made.
use Rattle.std.proofs.Common.{◌≡◌, ◌∙◌, ℕ, ◌<◌, List, [], ◌∷◌, ◌++◌, length, Some, None, sym, ap, subst}
use Rattle.zone_graph.specs.declared.route.Arc.{Arc}
use Rattle.zone_graph.specs.Graph.{Graph, border_count}
use Rattle.zone_graph.specs.Rooms.{room_of}
use Rattle.cut_proof.specs.Carrying.{FitTogether}
use Rattle.route_choice.specs.Poured.{rooms_after}
use Rattle.laws_of_books.specs.BlocksOf.{blocks_of}
use Rattle.block_match.specs.declared.deal.BlockDeal.{BlockDeal}
use Rattle.block_match.specs.Deals.{deal_of_period}
use Rattle.block_match.specs.Market.{deal_events}
use Rattle.block_match.specs.Meeting.{HaveZones}
use Rattle.market_model.specs.declared.event.Event.{Event}
use Rattle.market_model.specs.declared.setup.Setup.{Setup}
use Rattle.market_model.specs.Board.{IsHourOf}
use Rattle.laws_of_joint_commands.specs.EnteringBlocks.{AreClosed}
use Rattle.laws_of_joint_commands.specs.MatchingBlocks.{legs_of}
use Rattle.kept_hour.specs.Planned.{CanFollow, after_events}
use Rattle.kept_hour.specs.State.{HourState}
use Rattle.desk_changes.specs.Periods.{AreDealsOf, IsFirstOfPeriod, IsPeriodOf}
use Rattle.desk_changes.specs.Rooms.{CanCarryEach}
use Rattle.desk_changes.proofs.Fewer.{fewer-blocks}
use Rattle.desk_changes.proofs.Making.{after-both}
use Rattle.desk_changes.proofs.Periods.{FoundSoFar, all-found, deal-can, deal-closes, deal-follows, legs-more, one-so-far, rooms-fit, zones-known}

module _ (graph : Graph) (old now : HourState) (first last : ℕ) (start rooms : List (ℕ × ℕ)) (deals : List BlockDeal) (over : graph ≡ old.board.grid) (first_is : first ≡ old.board.hour)
    (made : now ≡ after_events old (legs_of first last deals)) (so_far : FoundSoFar graph first last old.board.events start deals rooms) where
  abbrev legs : List Event
  legs = legs_of first last deals

  events-are : now.board.events ≡ old.board.events ++ legs
  events-are = ap (λ (h : HourState). h.board.events) made

  hour-is : now.board.hour ≡ first
  hour-is = ap (λ (h : HourState). h.board.hour) made ∙ sym first_is

  -- the blocks of the hour are those after the events and the legs
  blocks-here : blocks_of now.board.events now.board.hour ≡ blocks_of (old.board.events ++ legs) first
  blocks-here = ap (λ es. blocks_of es now.board.hour) events-are ∙ ap (blocks_of (old.board.events ++ legs)) hour-is

  pub all-here : None ≡ deal_of_period graph (room_of rooms) (blocks_of now.board.events now.board.hour) last
      → AreDealsOf graph old.board.hour last old.board.events start deals
  all-here none =
      subst (λ f. AreDealsOf graph f last old.board.events start deals) first_is
      (all-found graph first last old.board.events start deals rooms so_far (none ∙ ap (λ b. deal_of_period graph (room_of rooms) b last) blocks-here))

  module _ (premise : IsFirstOfPeriod graph old.board.hour last old.board.events start) where
    abbrev setup : Setup
    setup = premise.0

    abbrev history : List Event
    history = premise.1 ++ legs

    period : IsPeriodOf graph setup history first last (old.board.events ++ legs) rooms
    period = (so_far premise.0 premise.1 (subst (λ f. IsPeriodOf graph premise.0 premise.1 f last old.board.events start) (sym first_is) premise.2)).period

    pub zones-here : HaveZones graph (blocks_of now.board.events now.board.hour)
    zones-here = subst (HaveZones graph) (sym blocks-here) (zones-known graph setup history first last (old.board.events ++ legs) rooms period)

    pub fit-here : FitTogether graph (room_of rooms)
    fit-here = rooms-fit graph setup history first last (old.board.events ++ legs) rooms period

    module _ (deal : BlockDeal) (found : Some deal ≡ deal_of_period graph (room_of rooms) (blocks_of now.board.events now.board.hour) last) where
      found-here : Some deal ≡ deal_of_period graph (room_of rooms) (blocks_of (old.board.events ++ legs) first) last
      found-here = found ∙ ap (λ b. deal_of_period graph (room_of rooms) b last) blocks-here

      abbrev mine : List Event
      mine = deal_events first last deal

      behind : IsHourOf graph first ((old.board.events ++ legs) ++ mine)
      behind = deal-follows graph setup history first last (old.board.events ++ legs) rooms period deal found-here

      pub follows : CanFollow now (deal_events first last deal)
      follows =
          subst (λ (h : HourState). CanFollow h (deal_events first last deal)) (sym made)
          (subst (λ g. IsHourOf g old.board.hour ((old.board.events ++ legs) ++ mine)) over
          (subst (λ f. IsHourOf graph f ((old.board.events ++ legs) ++ mine)) first_is behind))

      closed : AreClosed first deal ((old.board.events ++ legs) ++ mine)
      closed = deal-closes graph setup history first last (old.board.events ++ legs) rooms period deal found-here

      pub closes : AreClosed first deal (now.board.events ++ deal_events first last deal)
      closes = subst (λ es. AreClosed first deal (es ++ deal_events first last deal)) (sym events-are) closed

      pub can : CanCarryEach (border_count graph) (room_of rooms) deal.legs
      can = deal-can graph setup history first last (old.board.events ++ legs) rooms period deal found-here

      pub so-far-on : (new : List (ℕ × ℕ)) → ((arc : Arc) → room_of new arc ≡ rooms_after (room_of rooms) deal.legs arc)
          → FoundSoFar graph first last old.board.events start (deals ++ deal ∷ []) new
      so-far-on new lower = one-so-far graph first last old.board.events start deals rooms new deal so_far found-here lower

      module _ (new : HourState) (new_is : new ≡ after_events now (deal_events first last deal)) where
        pub made-on : new ≡ after_events old (legs_of first last (deals ++ deal ∷ []))
        made-on = after-both old now new legs (deal_events first last deal) made new_is ∙ ap (after_events old) (sym (legs-more first last deals deal))

        pub fewer : length (blocks_of new.board.events new.board.hour) < length (blocks_of now.board.events now.board.hour)
        fewer =
            let after : blocks_of new.board.events new.board.hour ≡ blocks_of ((old.board.events ++ legs) ++ mine) first =
            ap (λ (h : HourState). blocks_of h.board.events h.board.hour) new_is ∙ ap (λ es. blocks_of (es ++ mine) now.board.hour) events-are
            ∙ ap (blocks_of ((old.board.events ++ legs) ++ mine)) hour-is in
            subst (λ b. length b < length (blocks_of now.board.events now.board.hour)) (sym after)
            (subst (λ b. length (blocks_of ((old.board.events ++ legs) ++ mine) first) < length b) (sym blocks-here)
            (fewer-blocks graph (room_of rooms) first last (old.board.events ++ legs) deal found-here behind closed))

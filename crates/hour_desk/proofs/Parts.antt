-- One hour's part of what happens in several hours: a block that enters takes in the deal that it finds.
use Rattle.std.proofs.Common.{◌≡◌, ◌∙◌, ℕ, false, List, [], ◌∷◌, ◌++◌, append_assoc, Option, Some, IfSome, refl, sym, ap, subst}
use Rattle.std.specs.List.{slice_get}
use Rattle.block_match.specs.declared.deal.BlockDeal.{BlockDeal}
use Rattle.block_match.specs.Market.{deal_events}
use Rattle.market_model.specs.declared.event.Event.TheVariants as event
use Rattle.market_model.specs.Orders.{next_name}
use Rattle.desk_changes.specs.Planned.{IsUnplanned}
use Rattle.desk_changes.specs.State.{HourState, block_entry_of}
use Rattle.laws_of_joint_commands.specs.EnteringBlocks.{AreClosed, block_entry}
use Rattle.desk_changes.specs.Plans as plans
use Rattle.hour_desk.specs.declared.part_work.BlockEntry.{BlockEntry}
use Rattle.hour_desk.specs.Insides.{desk_of}
use Rattle.hour_desk.specs.Shared.{EntersFirst, TakesOrRests, TradesBlocks}

-- a block enters the hour, with the deal that it finds, if there is one
module _ (hour : HourState) (first last : ℕ) (entry : BlockEntry) (deals : List BlockDeal) (unplanned : IsUnplanned hour)
    (trades : TradesBlocks (desk_of hour false) first last (Some entry) deals) (found : Option BlockDeal) (is : found ≡ slice_get deals 0) where
  its : EntersFirst (desk_of hour false) first last entry deals
  its = trades.enters entry refl

  same-entry : block_entry_of hour entry.caller entry.order ≡ block_entry hour.settled entry.caller entry.order
  same-entry =
      ap (λ es. event.EnteredBlock (next_name es hour.board.hour) entry.caller entry.order) unplanned.events
      ∙ ap (λ h. event.EnteredBlock (next_name hour.settled h) entry.caller entry.order) (sym (its.from_hour ∙ its.here))

  pub entry-deal : IfSome found (plans.IsEntryDeal hour entry.caller entry.order)
  entry-deal = subst (λ o. IfSome o (plans.IsEntryDeal hour entry.caller entry.order)) (sym is) (go deals its.trades (trades.closes its.here))
    where
      go : (ds : List BlockDeal) → TakesOrRests hour.board.hour hour.settled ds
          → plans.CloseInTurn first last (hour.settled ++ block_entry hour.settled entry.caller entry.order ∷ []) ds
          → IfSome (slice_get ds 0) (plans.IsEntryDeal hour entry.caller entry.order)
      go [] rests closes = tt
      go (deal ∷ []) takes closes = record {
        takes = takes ∙ ap (λ es. (next_name es hour.board.hour).number) (sym unplanned.events);
        closes =
            subst (λ e. AreClosed entry.order.first deal (hour.board.events ++ (e ∷ deal_events entry.order.first entry.order.last deal))) (sym same-entry)
            (subst (λ es. AreClosed entry.order.first deal (es ++ (block_entry hour.settled entry.caller entry.order ∷ deal_events entry.order.first entry.order.last deal))) (sym unplanned.events)
            (subst (λ h. AreClosed entry.order.first deal (hour.settled ++ (block_entry hour.settled entry.caller entry.order ∷ deal_events entry.order.first h deal))) (sym its.to_hour)
            (subst (λ h. AreClosed h deal (hour.settled ++ (block_entry hour.settled entry.caller entry.order ∷ deal_events h last deal))) (sym its.from_hour)
            (subst (AreClosed first deal) (append_assoc hour.settled (block_entry hour.settled entry.caller entry.order ∷ []) (deal_events first last deal)) closes.0))));
      }
      go (deal ∷ other ∷ more) none closes = absurd none

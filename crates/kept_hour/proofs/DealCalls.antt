-- A deal of two blocks, as the fields of a kept hour have it.
use Rattle.std.proofs.Common.{◌≡◌, ℕ, ◌==◌, List, ◌++◌, length-append, Option, None, sym, subst, arith}
use Rattle.zone_graph.specs.Graph.{Graph}
use Rattle.block_match.specs.declared.deal.BlockDeal.{BlockDeal}
use Rattle.block_match.specs.Market.{deal_events}
use Rattle.market_model.specs.declared.event.Event.{Event}
use Rattle.hour_store.specs.Contents.{Contents}
use Rattle.hour_store.specs.Store.{StillLeadsBack, Store}
use Rattle.kept_hour.specs.Deals.{CanCarryAll, ClosesBoth, IsDealtIn, NotesDeal}
use Rattle.kept_hour.specs.Kept.{IsKept, hour_of}
use Rattle.kept_hour.specs.Planned.{CanFollow}
use Rattle.kept_hour.specs.State.{HourState}
use Rattle.kept_hour.proofs.BoardCalls.{leads-through, same-leads}
use Rattle.kept_hour.proofs.MadeDeals.{can-carry-all, dealt-keeps}
use Rattle.kept_hour.proofs.Keeping.{own}
use Rattle.kept_hour.proofs.Wrapped.{after-many, to-own}

module _ (grid : Graph) (number : ℕ) (events : List Event) (settled : ℕ) (hand : Option ℕ) (numbers settled_numbers : ℕ) (store : Store)
    (kept : IsKept (own grid number events settled hand) settled numbers settled_numbers store)
    (seen : HourState) (view_is : own grid number events settled hand ≡ seen) (free : seen.board.hand ≡ None)
    (reserved : Store) (same_contents : reserved.contents ≡ store.contents) (same_changes : reserved.changes ≡ store.changes)
    (first last : ℕ) (deal : BlockDeal) (next : CanFollow seen (deal_events first last deal)) where
  abbrev mine : HourState
  mine = own grid number events settled hand

  here : (P : HourState → Type 0) → P seen → P mine
  here P holds = to-own grid number events settled hand numbers settled_numbers store kept seen view_is P holds

  free_own : hand ≡ None
  free_own = here (λ h. h.board.hand ≡ None) free

  next_own : CanFollow mine (deal_events first last deal)
  next_own = here (λ h. CanFollow h (deal_events first last deal)) next

  pub can-carry-deal : CanCarryAll reserved.contents.flows deal.legs
  can-carry-deal =
      subst (λ (c : Contents). CanCarryAll c.flows deal.legs) (sym same_contents)
      (can-carry-all mine numbers settled_numbers store kept.keeps free_own first last deal next_own)

  pub dealt-kept : (seen.board.hour ≡ first → ClosesBoth seen first last deal) → (after : List Event) → after ≡ events ++ deal_events first last deal
      → (new : Store) → IsDealtIn (number == first) deal reserved.contents new.contents → StillLeadsBack reserved new
      → NotesDeal deal reserved.changes new.changes → IsKept (hour_of grid number after settled hand) settled numbers settled_numbers new
  dealt-kept whole after is new made back noted =
      let whole_own : number ≡ first → ClosesBoth mine first last deal = here (λ h. h.board.hour ≡ first → ClosesBoth h first last deal) whole in
      let long = length-append events (deal_events first last deal) in
      subst (λ es. IsKept (hour_of grid number es settled hand) settled numbers settled_numbers new) (sym is)
      (subst (λ h. IsKept h settled numbers settled_numbers new) (sym (after-many grid number events settled hand numbers settled_numbers store kept seen view_is free_own (deal_events first last deal)))
      (record {
        first_part = (let few = kept.first_part in omega (arith, few, long));
        keeps = dealt-keeps mine numbers settled_numbers store kept.keeps free_own first last deal next_own whole_own new
            (subst (λ c. IsDealtIn (number == first) deal c new.contents) same_contents made)
            (leads-through store reserved new (same-leads store reserved same_contents same_changes) back)
            (subst (λ cs. NotesDeal deal cs new.changes) same_changes noted);
      }))

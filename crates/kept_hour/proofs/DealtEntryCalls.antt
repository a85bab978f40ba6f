-- A block enters and trades at once, as the fields of a kept hour have it.
use Rattle.std.proofs.Common.{◌≡◌, ◌∙◌, ℕ, ◌+◌, true, List, ◌∷◌, ◌++◌, length-append, Option, None, sym, ap, subst, arith}
use Rattle.order_kinds.specs.declared.order.BlockOrder.{BlockOrder}
use Rattle.zone_graph.specs.Graph.{Graph}
use Rattle.block_match.specs.declared.deal.BlockDeal.{BlockDeal}
use Rattle.block_match.specs.Market.{deal_events}
use Rattle.market_model.specs.declared.event.Event.{Event}
use Rattle.market_model.specs.declared.event.Event.TheVariants as event
use Rattle.market_model.specs.Orders.{next_name}
use Rattle.hour_store.specs.Contents.{Contents}
use Rattle.hour_store.specs.Store.{StillLeadsBack, Store}
use Rattle.kept_hour.specs.Deals.{CanCarryAll, ClosesBoth, IsDealtIn, NotesDeal, dealt_entry, with_entry}
use Rattle.kept_hour.specs.Kept.{IsKept, hour_of}
use Rattle.kept_hour.specs.Planned.{CanFollow}
use Rattle.kept_hour.specs.State.{HourState}
use Rattle.kept_hour.proofs.BoardCalls.{leads-through, same-leads}
use Rattle.kept_hour.proofs.DealtEntries.{can-carry-all, entry-keeps, number-is}
use Rattle.kept_hour.proofs.Keeping.{own}
use Rattle.kept_hour.proofs.Wrapped.{after-many, to-own}

module _ (grid : Graph) (number : ℕ) (events : List Event) (settled : ℕ) (hand : Option ℕ) (numbers settled_numbers : ℕ) (store : Store)
    (kept : IsKept (own grid number events settled hand) settled numbers settled_numbers store)
    (seen : HourState) (view_is : own grid number events settled hand ≡ seen) (free : seen.board.hand ≡ None)
    (reserved : Store) (same_contents : reserved.contents ≡ store.contents) (same_changes : reserved.changes ≡ store.changes)
    (caller : ℕ) (order : BlockOrder) (deal : BlockDeal) (next : CanFollow seen (dealt_entry seen caller order deal)) where
  abbrev mine : HourState
  mine = own grid number events settled hand

  here : (P : HourState → Type 0) → P seen → P mine
  here P holds = to-own grid number events settled hand numbers settled_numbers store kept seen view_is P holds

  free_own : hand ≡ None
  free_own = here (λ h. h.board.hand ≡ None) free

  next_own : CanFollow mine (dealt_entry mine caller order deal)
  next_own = here (λ h. CanFollow h (dealt_entry h caller order deal)) next

  pub can-carry-entry : CanCarryAll reserved.contents.flows deal.legs
  can-carry-entry =
      subst (λ (c : Contents). CanCarryAll c.flows deal.legs) (sym same_contents)
      (can-carry-all mine numbers settled_numbers store kept.keeps free_own caller order deal next_own)

  pub entry-kept : deal.taker ≡ (next_name seen.board.events seen.board.hour).number → ClosesBoth (with_entry seen caller order) order.first order.last deal
      → (after : List Event)
      → after ≡ events ++ event.EnteredBlock (record { hour = number; number = numbers + 1 }) caller order ∷ deal_events order.first order.last deal
      → (new : Store) → IsDealtIn true deal reserved.contents new.contents → StillLeadsBack reserved new
      → NotesDeal deal reserved.changes new.changes → IsKept (hour_of grid number after settled hand) settled (numbers + 1) settled_numbers new
  entry-kept takes whole after after_is new made back noted =
      let takes_own : deal.taker ≡ (next_name events number).number = here (λ h. deal.taker ≡ (next_name h.board.events h.board.hour).number) takes in
      let whole_own : ClosesBoth (with_entry mine caller order) order.first order.last deal =
      here (λ h. ClosesBoth (with_entry h caller order) order.first order.last deal) whole in
      let more : List Event = dealt_entry mine caller order deal in
      let as_named : after ≡ events ++ more =
      after_is ∙ ap (λ n. events ++ event.EnteredBlock (record { hour = number; number = n }) caller order ∷ deal_events order.first order.last deal)
      (number-is mine numbers settled_numbers store kept.keeps free_own caller order deal next_own) in
      let long = length-append events more in
      subst (λ es. IsKept (hour_of grid number es settled hand) settled (numbers + 1) settled_numbers new) (sym as_named)
      (subst (λ h. IsKept h settled (numbers + 1) settled_numbers new)
      (sym (after-many grid number events settled hand numbers settled_numbers store kept seen view_is free_own more))
      (record {
        first_part = (let few = kept.first_part in omega (arith, few, long));
        keeps = entry-keeps mine numbers settled_numbers store kept.keeps free_own caller order deal next_own takes_own whole_own new
            (subst (λ c. IsDealtIn true deal c new.contents) same_contents made)
            (leads-through store reserved new (same-leads store reserved same_contents same_changes) back)
            (subst (λ cs. NotesDeal deal cs new.changes) same_changes noted);
      }))

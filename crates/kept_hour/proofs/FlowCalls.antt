-- Orders and blocks are withdrawn and reduced, and flows change, as the fields of a kept hour have it.
use Rattle.std.proofs.Common.{◌≡◌, ◌∙◌, ℕ, ◌<◌, ◌≤◌, Bool, true, false, List, [], ◌∷◌, ◌++◌, Option, None, IfSome, sym, ap, subst, arith}
use Rattle.std.specs.Option.{IsSomeAnd}
use Rattle.order_kinds.specs.declared.contract.Quarter.{Quarter}
use Rattle.order_kinds.specs.declared.phase.Phase.{Phase}
use Rattle.zone_graph.specs.declared.route.Arc.{Arc}
use Rattle.zone_graph.specs.Graph.{Graph, border_count}
use Rattle.zone_graph.specs.Pour.{same_arc}
use Rattle.contract_book.specs.Book.{order_of, reduced, without}
use Rattle.block_book.specs.Book as block_books
use Rattle.flow_netting.specs.Flows as flow
use Rattle.market_model.specs.declared.event.Event.{Event}
use Rattle.laws_of_books.specs.BookOf.{book_of}
use Rattle.laws_of_hours.specs.CallLaws.{CanGrant, CanOffer}
use Rattle.laws_of_hours.specs.FlowLaws.{IsRangeIn}
use Rattle.laws_of_hours.specs.Standing.{IsCarried, IsHaltSet, IsOffered, Stands}
use Rattle.laws_of_hours.specs.OrderEvents.{CanReduce}
use Rattle.laws_of_hours.proofs.FlowChanges.{grants_fit, halts_fit, offers_fit, resumptions_fit}
use Rattle.laws_of_hours.proofs.Reduced.{is_reduced}
use Rattle.hour_store.specs.Changed.{NotesNoOrder}
use Rattle.hour_store.specs.Contents.{Contents, IsOfPart}
use Rattle.hour_store.specs.Store.{StillLeadsBack, Store}
use Rattle.kept_hour.specs.Kept.{IsKept, hour_of}
use Rattle.kept_hour.specs.State.{CanBeNext, HourState, gate_of, grant_of, halt_of, name_in, offer_of, reduction_of, resumption_of, withdrawal_of}
use Rattle.kept_hour.proofs.BoardCalls.{from-reserved, leads-through, same-leads}
use Rattle.kept_hour.proofs.Changing.{bare-book, gated-next, granted-next, halted-next, offered-next, reduced-next, resumed-next, withdrawn-next}
use Rattle.kept_hour.proofs.Keeping.{KeepsNext, own}
use Rattle.kept_hour.proofs.NamedOrders.{IsFoundIn, NotesChanged}
use Rattle.kept_hour.proofs.Wrapped.{kept-by, to-own}

module _ (grid : Graph) (number : ℕ) (events : List Event) (settled : ℕ) (hand : Option ℕ) (numbers settled_numbers : ℕ) (store : Store)
    (kept : IsKept (own grid number events settled hand) settled numbers settled_numbers store)
    (seen : HourState) (view_is : own grid number events settled hand ≡ seen) (free : seen.board.hand ≡ None)
    (reserved : Store) (same_contents : reserved.contents ≡ store.contents) (same_changes : reserved.changes ≡ store.changes) where
  abbrev mine : HourState
  mine = own grid number events settled hand

  here : (P : HourState → Type 0) → P seen → P mine
  here P holds = to-own grid number events settled hand numbers settled_numbers store kept seen view_is P holds

  free_own : hand ≡ None
  free_own = here (λ h. h.board.hand ≡ None) free

  pub flows-are : Stands grid events number reserved.contents.flows
  flows-are = subst (λ (c : Contents). Stands grid events number c.flows) (sym same_contents) kept.keeps.contents.flows

  border-low : (border : ℕ) → border < border_count grid → border < flow.border_count reserved.contents.flows
  border-low border low = let size = flows-are.size in omega (arith, size, low)

  -- an event by which no order is in hand
  kept-bare : (e : Event) (after : List Event) → after ≡ events ++ e ∷ [] → (new : Store) → KeepsNext mine e None numbers store new
      → IsKept (hour_of grid number after settled hand) settled numbers settled_numbers new
  kept-bare e after is new next =
      subst (λ h. IsKept (hour_of grid number after settled h) settled numbers settled_numbers new) (sym free_own)
      (kept-by grid number events settled hand numbers settled_numbers store kept seen view_is e None numbers new after is next)

  module _ (after : List Event) (new : Store) (back : StillLeadsBack reserved new) where
    back_own : StillLeadsBack store new
    back_own = leads-through store reserved new (same-leads store reserved same_contents same_changes) back

    changed_own : (part changed : ℕ) → NotesChanged reserved.contents.book part changed reserved.changes new.changes
        → NotesChanged store.contents.book part changed store.changes new.changes
    changed_own part changed noted =
        from-reserved (λ c cs. NotesChanged c.book part changed cs new.changes) store reserved same_contents same_changes noted

    -- ---- orders and blocks

    pub withdrawn-kept : (withdrawn lots : ℕ) → CanBeNext seen (withdrawal_of seen withdrawn lots) → after ≡ events ++ withdrawal_of mine withdrawn lots ∷ []
        → new.contents.book ≡ without reserved.contents.book withdrawn → new.contents.blocks ≡ block_books.without reserved.contents.blocks withdrawn
        → new.contents.flows ≡ reserved.contents.flows → (part : ℕ) → IsFoundIn seen part withdrawn
        → NotesChanged reserved.contents.book part withdrawn reserved.changes new.changes
        → IsKept (hour_of grid number after settled hand) settled numbers settled_numbers new
    withdrawn-kept withdrawn lots next is book blocks flows part of_part noted =
        kept-bare (withdrawal_of mine withdrawn lots) after is new
        (withdrawn-next mine numbers settled_numbers store kept.keeps free_own withdrawn lots (here (λ h. CanBeNext h (withdrawal_of h withdrawn lots)) next) new
        (book ∙ ap (λ (c : Contents). without c.book withdrawn) same_contents) (blocks ∙ ap (λ (c : Contents). block_books.without c.blocks withdrawn) same_contents)
        (flows ∙ ap (λ (c : Contents). c.flows) same_contents) back_own part (here (λ h. IsFoundIn h part withdrawn) of_part) (changed_own part withdrawn noted))

    pub reduced-kept : (lessened by : ℕ) → CanBeNext seen (reduction_of seen lessened by) → after ≡ events ++ reduction_of mine lessened by ∷ []
        → new.contents ≡ record reserved.contents { book = reduced reserved.contents.book lessened by } → (part : ℕ) → IsFoundIn seen part lessened
        → NotesChanged reserved.contents.book part lessened reserved.changes new.changes
        → IsKept (hour_of grid number after settled hand) settled numbers settled_numbers new
    reduced-kept lessened by next is contents part of_part noted =
        kept-bare (reduction_of mine lessened by) after is new
        (reduced-next mine numbers settled_numbers store kept.keeps free_own lessened by (here (λ h. CanBeNext h (reduction_of h lessened by)) next) new
        (ap (λ (c : Contents). c.book) contents ∙ ap (λ (c : Contents). reduced c.book lessened by) same_contents)
        (ap (λ (c : Contents). c.blocks) contents ∙ ap (λ (c : Contents). c.blocks) same_contents)
        (ap (λ (c : Contents). c.flows) contents ∙ ap (λ (c : Contents). c.flows) same_contents) back_own part (here (λ h. IsFoundIn h part lessened) of_part)
        (changed_own part lessened noted))

    -- ---- flows

    module _ (book : new.contents.book ≡ reserved.contents.book) (blocks : new.contents.blocks ≡ reserved.contents.blocks)
        (noted : NotesNoOrder reserved.changes new.changes) where
      book_own : new.contents.book ≡ store.contents.book
      book_own = book ∙ ap (λ (c : Contents). c.book) same_contents

      blocks_own : new.contents.blocks ≡ store.contents.blocks
      blocks_own = blocks ∙ ap (λ (c : Contents). c.blocks) same_contents

      noted_own : NotesNoOrder store.changes new.changes
      noted_own = subst (λ cs. NotesNoOrder cs new.changes) same_changes noted

      pub halted-kept : (border first last : ℕ) → CanBeNext seen (halt_of border first last) → after ≡ events ++ halt_of border first last ∷ []
          → IsHaltSet border true reserved.contents.flows new.contents.flows → IsKept (hour_of grid number after settled hand) settled numbers settled_numbers new
      halted-kept border first last next is set =
          kept-bare (halt_of border first last) after is new
          (halted-next mine numbers settled_numbers store kept.keeps free_own new book_own blocks_own back_own noted_own border first last
          (here (λ h. CanBeNext h (halt_of border first last)) next)
          (subst (λ (c : Contents). IsHaltSet border true c.flows new.contents.flows) same_contents set))

      pub resumed-kept : (border first last : ℕ) → CanBeNext seen (resumption_of border first last) → after ≡ events ++ resumption_of border first last ∷ []
          → IsHaltSet border false reserved.contents.flows new.contents.flows → IsKept (hour_of grid number after settled hand) settled numbers settled_numbers new
      resumed-kept border first last next is set =
          kept-bare (resumption_of border first last) after is new
          (resumed-next mine numbers settled_numbers store kept.keeps free_own new book_own blocks_own back_own noted_own border first last
          (here (λ h. CanBeNext h (resumption_of border first last)) next)
          (subst (λ (c : Contents). IsHaltSet border false c.flows new.contents.flows) same_contents set))

      pub gated-kept : (phase : Phase) → CanBeNext seen (gate_of seen phase) → after ≡ events ++ gate_of mine phase ∷ []
          → new.contents.flows ≡ record reserved.contents.flows { phase = phase } → IsKept (hour_of grid number after settled hand) settled numbers settled_numbers new
      gated-kept phase next is set =
          kept-bare (gate_of mine phase) after is new
          (gated-next mine numbers settled_numbers store kept.keeps free_own new book_own blocks_own back_own noted_own phase
          (here (λ h. CanBeNext h (gate_of h phase)) next)
          (subst (λ (c : Contents). new.contents.flows ≡ record c.flows { phase = phase }) same_contents set))

      pub offered-kept : (arc : Arc) (first last : Quarter) (lots : ℕ) (counts : ℕ → Bool) → CanBeNext seen (offer_of arc first last lots)
          → after ≡ events ++ offer_of arc first last lots ∷ [] → IsRangeIn number first last counts
          → IsOffered arc counts lots reserved.contents.flows new.contents.flows → IsKept (hour_of grid number after settled hand) settled numbers settled_numbers new
      offered-kept arc first last lots counts next is in_range offered =
          kept-bare (offer_of arc first last lots) after is new
          (offered-next mine numbers settled_numbers store kept.keeps free_own new book_own blocks_own back_own noted_own arc first last lots counts
          (here (λ h. CanBeNext h (offer_of arc first last lots)) next) in_range
          (subst (λ (c : Contents). IsOffered arc counts lots c.flows new.contents.flows) same_contents offered))

      pub granted-kept : (arc : Arc) (first last : Quarter) (lots : ℕ) (counts : ℕ → Bool) → CanBeNext seen (grant_of arc first last lots)
          → after ≡ events ++ grant_of arc first last lots ∷ [] → IsRangeIn number first last counts
          → IsCarried (same_arc arc) counts lots reserved.contents.flows new.contents.flows → IsKept (hour_of grid number after settled hand) settled numbers settled_numbers new
      granted-kept arc first last lots counts next is in_range carried =
          kept-bare (grant_of arc first last lots) after is new
          (granted-next mine numbers settled_numbers store kept.keeps free_own new book_own blocks_own back_own noted_own arc first last lots counts
          (here (λ h. CanBeNext h (grant_of arc first last lots)) next) in_range
          (subst (λ (c : Contents). IsCarried (same_arc arc) counts lots c.flows new.contents.flows) same_contents carried))

  -- ---- what the calls of the flows ask

  pub can-halt : (border first last : ℕ) → CanBeNext seen (halt_of border first last) → border < flow.border_count reserved.contents.flows
  can-halt border first last next =
      border-low border (halts_fit grid number events border first last (here (λ h. CanBeNext h (halt_of border first last)) next))

  pub can-resume : (border first last : ℕ) → CanBeNext seen (resumption_of border first last) → border < flow.border_count reserved.contents.flows
  can-resume border first last next =
      border-low border (resumptions_fit grid number events border first last (here (λ h. CanBeNext h (resumption_of border first last)) next))

  pub can-offer : (arc : Arc) (first last : Quarter) (lots : ℕ) → CanBeNext seen (offer_of arc first last lots)
      → CanOffer reserved.contents.flows arc number first last lots
  can-offer arc first last lots next =
      offers_fit grid number events arc first last lots reserved.contents.flows (here (λ h. CanBeNext h (offer_of arc first last lots)) next) flows-are

  pub can-grant : (arc : Arc) (first last : Quarter) (lots : ℕ) → CanBeNext seen (grant_of arc first last lots)
      → CanGrant reserved.contents.flows arc number first last lots
  can-grant arc first last lots next =
      grants_fit grid number events arc first last lots reserved.contents.flows (here (λ h. CanBeNext h (grant_of arc first last lots)) next) flows-are

  pub can-reduce : (lessened by : ℕ) → CanBeNext seen (reduction_of seen lessened by) → CanReduce reserved.contents.book lessened by
  can-reduce lessened by next =
      subst (λ b. CanReduce b lessened by)
      (sym (ap (λ (c : Contents). c.book) same_contents ∙ bare-book mine numbers settled_numbers store kept.keeps free_own))
      (is_reduced grid number events (name_in mine lessened) by (here (λ h. CanBeNext h (reduction_of h lessened by)) next)).can

  pub reduce-order : (part lessened by : ℕ) → CanBeNext seen (reduction_of seen lessened by)
      → IfSome (order_of (book_of seen.board.events seen.board.hour) lessened) (λ order. IsOfPart (book_of seen.board.events seen.board.hour) part order)
      → IsSomeAnd (order_of reserved.contents.book lessened)
      (λ order. IsOfPart reserved.contents.book part order × (order.ice ≡ None) × (1 ≤ by) × (by < order.left))
  reduce-order part lessened by next of_part =
      let can = can-reduce lessened by next in
      let book : reserved.contents.book ≡ book_of events number =
      ap (λ (c : Contents). c.book) same_contents ∙ bare-book mine numbers settled_numbers store kept.keeps free_own in
      let own_part = here (λ h. IfSome (order_of (book_of h.board.events h.board.hour) lessened) (λ order. IsOfPart (book_of h.board.events h.board.hour) part order)) of_part in
      let reserved_part = subst (λ b. IfSome (order_of b lessened) (λ order. IsOfPart b part order)) (sym book) own_part in
      let in_line : IsOfPart reserved.contents.book part can.order = subst (λ o. IfSome o (λ order. IsOfPart reserved.contents.book part order)) can.found reserved_part in
      subst (λ o. IsSomeAnd o (λ order. IsOfPart reserved.contents.book part order × (order.ice ≡ None) × (1 ≤ by) × (by < order.left))) (sym can.found)
      (in_line, can.plain, can.some, can.less)

-- At most so many orders and blocks of an hour are open as there is room for on the desk.
use Rattle.std.proofs.Common.{◌≡◌, ◌∙◌, ◌≢◌, inl, inr, ℕ, zero, suc, ◌+◌, ◌-◌, ◌<◌, ◌≤◌, ◌&&◌, Bool, true, false, List, [], ◌∷◌, ◌++◌, length, map, Option, Some, None, nat_lt, append_assoc, eqb-true, refl, sym, ap, subst, if◌then◌else◌, arith}
use Rattle.std.proofs.lemmas.Bool.{lt-ltb, ltb-true, and_parts}
use Rattle.std.proofs.lemmas.List.{append-nil}
use Rattle.std.proofs.lemmas.List.Elements.{filter-append}
use Rattle.std.specs.List.{list_all}
use Rattle.order_kinds.specs.declared.contract.Part.{Part}
use Rattle.order_kinds.specs.declared.order.BlockOrder.{BlockOrder}
use Rattle.order_kinds.specs.declared.order.Kind.{Kind}
use Rattle.order_kinds.specs.declared.order.Kind.TheVariants as kind
use Rattle.order_kinds.specs.declared.order.Order.{Order}
use Rattle.order_kinds.specs.declared.order.OrderName.{OrderName}
use Rattle.order_kinds.specs.Period.{hours_from, is_within}
use Rattle.zone_graph.specs.Graph.{Graph}
use Rattle.zone_graph.specs.Grid.{arc_between}
use Rattle.zone_graph.specs.Route.{IsIn}
use Rattle.zone_graph.proofs.Membership.{IsIn-map, IsIn-right}
use Rattle.market_model.specs.declared.command.Command.{Command}
use Rattle.market_model.specs.declared.command.Command.TheVariants as command
use Rattle.market_model.specs.declared.event.Event.{Event}
use Rattle.market_model.specs.declared.event.Event.TheVariants as event
use Rattle.market_model.specs.declared.refusal.Refusal.{Refusal}
use Rattle.market_model.specs.declared.refusal.Refusal.TheVariants as refusal
use Rattle.market_model.specs.declared.setup.Setup.{Setup}
use Rattle.market_model.specs.Blocks.{StandingBlock, enter_block, entering_block, legs_with, partner_found, with_block}
use Rattle.market_model.specs.Entering.{after_taking, enter, enter_all, legs_taken, name_of_next, rest_of, rest_withdrawn, with_order}
use Rattle.market_model.specs.Grid.{graph_of}
use Rattle.market_model.specs.History.{and_then, events_of, journal_events, of_hour, touches}
use Rattle.market_model.specs.Market.{Turn, reply_let_in, events_done, refused_or, reply_by, run_by}
use Rattle.market_model.specs.Orders.{PlacedBlock, block_placed_by, is_open, left, next_name, open_names}
use Rattle.market_model.specs.Refusals.{basket_order_refusal, block_desk_refusal, can_rest, desk_room, has_desk_room, is_filled, order_desk_refusal, refusal_of_command}
use Rattle.market_model.specs.Certificate.{bound_of, unfilled_zones}
use Rattle.market_model.specs.Rules.{ascends, unless}
use Rattle.market_model.specs.Sweep.{sweep, sweeps}
use Rattle.market_model.specs.WellFormed.{BlockEnters, FitAfter, IsHistory, IsMarketSetup}
use Rattle.laws_of_market.proofs.Admitted.{IsAdmitted, refusal-none, unless-none}
use Rattle.laws_of_market.proofs.BlockDeals.{IsOpenNow, block_partner-is}
use Rattle.laws_of_market.proofs.BlockEntries.{partner_legs-close}
use Rattle.laws_of_market.proofs.Growing.{fit-back, fit-front}
use Rattle.laws_of_market.proofs.Journals.{run-keeps}
use Rattle.laws_of_market.proofs.Members.{first_answer-none, IsIn-filter_map}
use Rattle.laws_of_market.proofs.Replies.{reply-history}
use Rattle.laws_of_market.proofs.Soundness.{block_fault-none, lots_in_range-bounds}
use Rattle.laws_of_market.proofs.States.{left-more}
use Rattle.laws_of_market.proofs.Tests.{same_name-refl}
use Rattle.laws_of_market.proofs.Wholes.{history-more, new_block-whole}
use Rattle.laws_of_market.proofs.LocalEntries.{rest_of-agree}
use Rattle.laws_of_market.proofs.NamedByHour.{AreNamedByHour, history-named}
use Rattle.laws_of_market.proofs.LocalStates.{Agree}
use Rattle.laws_of_market.proofs.WithinHours.{AreWithinHours, enter-within}
use Rattle.laws_of_market.proofs.OpenNames.{IsEntry, block-entry, closed-after, few-rests, fewer-closed, fewer-quiet, order-entry}
use Rattle.laws_of_market.proofs.Closing.{AreQuiet, at_arc-quiet, gate-quiet, legs_with-quiet, match_blocks-quiet, quiet-append, quiet-one, rest-quiet, sweep-quiet, sweeps-quiet, take-quiet, then-quiet}
use Rattle.order_kinds.specs.Order.{is_fill_or_kill}

-- no hour has more open than there is room for
abbrev pub AreFew : List Event → Type 0
AreFew events = (hour : ℕ) → length (open_names events hour) ≤ desk_room

-- events by which nothing enters leave it so
few-quiet : (events more : List Event) → AreQuiet more → AreFew events → AreFew (events ++ more)
few-quiet events more quiet few hour = let own = few hour in let less = fewer-quiet hour events more quiet in omega (arith, own, less)

-- so does an entry behind which what entered is closed
few-closed : (events : List Event) (name : OrderName) (e : Event) (more : List Event) → IsEntry events name e → AreQuiet more
    → is_open ((and_then events e) ++ more) name ≡ false → AreFew events → AreFew ((and_then events e) ++ more)
few-closed events name e more entry quiet closed few hour =
    let own = few hour in let less = fewer-closed events name e entry hour more quiet closed in omega (arith, own, less)

-- each later hour of ascending ones is above the first
pub ascends-later : (first : ℕ) (hours : List ℕ) → ascends (first ∷ hours) ≡ true → (hour : ℕ) → IsIn hour hours → first < hour
ascends-later first [] up hour i = absurd i
ascends-later first (next ∷ hours) up hour i =
    let both = and_parts (nat_lt first next) (ascends (next ∷ hours)) up in
    let less = ltb-true first next both.0 in
    elim i [
      | inl s ↦ subst (λ n. first < n) (sym s) less
      | inr j ↦ let more = ascends-later next hours both.1 hour j in omega (arith, less, more)
    ]

pub ascends-rest : (first : ℕ) (hours : List ℕ) → ascends (first ∷ hours) ≡ true → ascends hours ≡ true
ascends-rest first [] up = refl
ascends-rest first (next ∷ hours) up = (and_parts (nat_lt first next) (ascends (next ∷ hours)) up).1

module _ (setup : Setup) (is_setup : IsMarketSetup setup) where
  abbrev graph : Graph
  graph = graph_of setup

  -- ---- orders

  module _ (parts : List Part) (caller : ℕ) (order : Order) (events : List Event) (fit : FitAfter setup [] (events ++ enter parts graph caller order events)) where
    abbrev name : OrderName
    name = name_of_next events order

    abbrev entered : Event
    entered = event.Entered name caller order

    abbrev mid : List Event
    mid = after_taking graph events caller order

    abbrev legs : List Event
    legs = legs_taken graph events caller order

    abbrev rest : List Event
    rest = rest_withdrawn order.kind name (rest_of graph events caller order)

    abbrev swept : List Event
    swept = sweep parts graph order.contract.hour (events ++ (((entered ∷ []) ++ legs) ++ rest))

    legs-quiet : AreQuiet legs
    legs-quiet = take-quiet graph (with_order events caller order) name

    tail-quiet : AreQuiet (rest ++ swept)
    tail-quiet = quiet-append rest swept (rest-quiet order.kind name (rest_of graph events caller order))
        (sweep-quiet parts graph order.contract.hour (events ++ (((entered ∷ []) ++ legs) ++ rest)))

    -- the events in parts
    parted : mid ++ (rest ++ swept) ≡ events ++ enter parts graph caller order events
    unfolding enter
    parted =
        sym (append_assoc mid rest swept)
        ∙ ap (λ es. (es ++ rest) ++ swept) (append_assoc events (entered ∷ []) legs)
        ∙ ap (λ es. es ++ swept) (append_assoc events ((entered ∷ []) ++ legs) rest)
        ∙ append_assoc events (((entered ∷ []) ++ legs) ++ rest) swept

    is_entry : IsEntry events name entered
    is_entry =
        let whole : FitAfter setup [] ((and_then events entered) ++ (legs ++ (rest ++ swept))) =
        subst (FitAfter setup []) (sym parted ∙ append_assoc (and_then events entered) legs (rest ++ swept)) fit in
        let front = fit-front setup [] (and_then events entered) (legs ++ (rest ++ swept)) whole in
        order-entry setup events (fit-front setup [] events (entered ∷ []) front) name caller order (fit-back setup [] events (entered ∷ []) front).0

    -- an order of which nothing rests
    few-filled : is_open (mid ++ (rest ++ swept)) name ≡ false → AreFew events → AreFew (events ++ enter parts graph caller order events)
    few-filled closed few =
        let whole = append_assoc (and_then events entered) legs (rest ++ swept) in
        subst AreFew (sym whole ∙ parted) (few-closed events name entered (legs ++ (rest ++ swept)) is_entry (quiet-append legs (rest ++ swept) legs-quiet tail-quiet)
        (subst (λ es. is_open es name ≡ false) whole closed) few)

    pub few-none_left : rest_of graph events caller order ≡ 0 → AreFew events → AreFew (events ++ enter parts graph caller order events)
    few-none_left none = few-filled (closed-after mid (rest ++ swept) tail-quiet name none)

    -- an order that has room on the desk
    few-resting : has_desk_room mid name ≡ true → AreFew events → AreFew (events ++ enter parts graph caller order events)
    few-resting has_room few =
        subst AreFew parted (λ hour. few-rests events name entered is_entry hour legs (rest ++ swept) legs-quiet tail-quiet has_room (few hour))

    -- an order whose rest is withdrawn
    few-withdrawn : rest ≡ event.Withdrawn name (left mid name) ∷ [] → AreFew events → AreFew (events ++ enter parts graph caller order events)
    few-withdrawn is =
        let gone : Event = event.Withdrawn name (left mid name) in
        let less = left-more mid gone name refl in
        let all : left (and_then mid gone) name ≡ left mid name - (0 + left mid name) = rw (same_name-refl name) at less in
        let none : left (mid ++ rest) name ≡ 0 = subst (λ r. left (mid ++ r) name ≡ 0) (sym is) (omega (arith, all)) in
        few-filled (subst (λ es. is_open es name ≡ false) (append_assoc mid rest swept)
        (closed-after (mid ++ rest) swept (sweep-quiet parts graph order.contract.hour (events ++ (((entered ∷ []) ++ legs) ++ rest))) name none))

    -- an order that no rule refuses
    pub few-entered : IsAdmitted setup events caller (command.Enter order) → AreFew events → AreFew (events ++ enter parts graph caller order events)
    few-entered may = by_rest (rest_of graph events caller order) refl
      where
        desk_of : ℕ → Option Refusal
        desk_of zero = None
        desk_of (suc more) = unless (has_desk_room mid name) refusal.DeskFull

        by_kind : (given : Kind) → order.kind ≡ given → (more : ℕ) → rest_of graph events caller order ≡ suc more
            → AreFew events → AreFew (events ++ enter parts graph caller order events)
        by_kind kind.Limit is more left_is =
            few-resting (unless-none (has_desk_room mid name) refusal.DeskFull
            (subst (λ n. desk_of n ≡ None) left_is (subst (λ k. (if can_rest k then order_desk_refusal graph events caller order else None) ≡ None) is may.desk)))
        by_kind (kind.Iceberg peak delta) is more left_is =
            few-resting (unless-none (has_desk_room mid name) refusal.DeskFull
            (subst (λ n. desk_of n ≡ None) left_is (subst (λ k. (if can_rest k then order_desk_refusal graph events caller order else None) ≡ None) is may.desk)))
        by_kind kind.Ioc is more left_is =
            few-withdrawn (ap (λ k. rest_withdrawn k name (rest_of graph events caller order)) is ∙ ap (rest_withdrawn kind.Ioc name) left_is
            ∙ ap (λ n. event.Withdrawn name n ∷ []) (sym left_is))
        by_kind kind.Fok is more left_is =
            let zones : List ℕ = unfilled_zones graph events caller order in
            let filled = unless-none (is_filled graph events caller order) (refusal.Unfilled zones (bound_of graph events caller order zones))
            (subst (λ k. (if is_fill_or_kill k then unless (is_filled graph events caller order) (refusal.Unfilled zones (bound_of graph events caller order zones)) else None) ≡ None) is may.filled) in
            few-none_left (eqb-true (rest_of graph events caller order) 0 filled)

        by_rest : (n : ℕ) → rest_of graph events caller order ≡ n → AreFew events → AreFew (events ++ enter parts graph caller order events)
        by_rest zero is = few-none_left is
        by_rest (suc more) is = by_kind order.kind refl more is

  -- ---- blocks

  module _ (parts : List Part) (caller : ℕ) (order : BlockOrder) (events : List Event) (history : IsHistory setup events)
      (fit : FitAfter setup [] (events ++ enter_block parts graph caller order events)) where
    abbrev block_name : OrderName
    block_name = next_name events order.first

    abbrev block_entered : Event
    block_entered = event.EnteredBlock block_name caller order

    abbrev start : List Event
    start = with_block events caller order

    abbrev found : Option StandingBlock
    found = partner_found graph events caller order

    abbrev block_legs_made : Option StandingBlock → List Event
    block_legs_made o = legs_with graph start (entering_block events caller order) o

    abbrev blocks_swept : List Event
    blocks_swept = sweeps parts graph (hours_from order.first order.last) (events ++ ((block_entered ∷ []) ++ block_legs_made found))

    swept-quiet : AreQuiet blocks_swept
    swept-quiet = sweeps-quiet parts graph (hours_from order.first order.last) (events ++ ((block_entered ∷ []) ++ block_legs_made found))

    legs_made-quiet : AreQuiet (block_legs_made found)
    legs_made-quiet = legs_with-quiet graph start (entering_block events caller order) found

    block_parted : (start ++ block_legs_made found) ++ blocks_swept ≡ events ++ enter_block parts graph caller order events
    unfolding enter_block
    block_parted =
        ap (λ es. es ++ blocks_swept) (append_assoc events (block_entered ∷ []) (block_legs_made found))
        ∙ append_assoc events ((block_entered ∷ []) ++ block_legs_made found) blocks_swept

    block_fits : BlockEnters setup events block_name caller order
    block_fits =
        let whole = subst (FitAfter setup []) (sym block_parted ∙ append_assoc start (block_legs_made found) blocks_swept) fit in
        (fit-back setup [] events (block_entered ∷ []) (fit-front setup [] start (block_legs_made found ++ blocks_swept) whole)).0

    block_is_entry : IsEntry events block_name block_entered
    block_is_entry = block-entry setup events history.fit block_name caller order block_fits

    -- the block as it entered
    abbrev own : PlacedBlock
    own = record { name = block_name; caller = caller; order = order }

    own_open : IsOpenNow start own
    own_open =
        let whole : left start block_name ≡ order.quantity.0 = new_block-whole setup events history.fit own block_entered block_fits refl in
        let some = (lots_in_range-bounds order.quantity (block_fault-none order block_fits.sound).quantity).0 in
        record {
          is_placed = IsIn-filter_map block_placed_by block_entered own start (IsIn-right block_entered events (block_entered ∷ []) (inl refl)) refl;
          is_left = lt-ltb 0 (left start block_name) (omega (arith, whole, some));
        }

    -- a block that finds a partner is closed, and one that finds none has room on the desk
    pub few-block_entered : block_desk_refusal graph events caller order ≡ None → AreFew events → AreFew (events ++ enter_block parts graph caller order events)
    few-block_entered may few = subst AreFew block_parted (by_partner found refl may)
      where
        rests : Option StandingBlock → Option Refusal
        rests None = unless (has_desk_room start block_name) refusal.DeskFull
        rests (Some maker) = None

        by_partner : (o : Option StandingBlock) → found ≡ o → block_desk_refusal graph events caller order ≡ None → AreFew ((start ++ block_legs_made found) ++ blocks_swept)
        by_partner None is none =
            let room = unless-none (has_desk_room start block_name) refusal.DeskFull (subst (λ o. rests o ≡ None) is none) in
            λ hour. few-rests events block_name block_entered block_is_entry hour (block_legs_made found) blocks_swept legs_made-quiet swept-quiet
            (subst (λ o. has_desk_room (start ++ block_legs_made o) block_name ≡ true) (sym is)
            (subst (λ es. has_desk_room es block_name ≡ true) (sym (append-nil start)) room)) (few hour)
        by_partner (Some maker) is none =
            let started = history-more setup events block_entered history block_fits tt in
            let closes = partner_legs-close setup is_setup start started own maker own_open
            (block_partner-is graph start (entering_block events caller order) maker is) in
            let none_left : left (start ++ block_legs_made found) block_name ≡ 0 = subst (λ o. left (start ++ block_legs_made o) block_name ≡ 0) (sym is) closes.closed in
            let whole = append_assoc start (block_legs_made found) blocks_swept in
            subst AreFew (sym whole) (few-closed events block_name block_entered (block_legs_made found ++ blocks_swept) block_is_entry
            (quiet-append (block_legs_made found) blocks_swept legs_made-quiet swept-quiet)
            (subst (λ es. is_open es block_name ≡ false) whole (closed-after (start ++ block_legs_made found) blocks_swept swept-quiet block_name none_left)) few)

  -- ---- baskets

  -- events of other hours change nothing in an hour
  elsewhere : (hour own : ℕ) (events more : List Event) → AreWithinHours (own ∷ []) more → own ≢ hour → of_hour hour events ≡ of_hour hour (events ++ more)
  elsewhere hour own events more within other =
      sym (filter-append (touches hour) events more ∙ ap (λ xs. of_hour hour events ++ xs) (nothing more within) ∙ append-nil (of_hour hour events))
    where
      nothing : (xs : List Event) → AreWithinHours (own ∷ []) xs → of_hour hour xs ≡ []
      nothing [] w = refl
      nothing (e ∷ xs) w = go (touches hour e) refl (nothing xs (λ f i. w f (inr i)))
        where
          go : (t : Bool) → touches hour e ≡ t → of_hour hour xs ≡ [] → of_hour hour (e ∷ xs) ≡ []
          go true is rest = elim (w e (inl refl) hour is) [ inl s ↦ absurd (other (sym s)) | inr i ↦ absurd i ]
          go false is rest = rw is rest

  few-basket : (parts : List Part) (caller : ℕ) (orders : List Order) (events : List Event) → FitAfter setup [] (events ++ enter_all parts graph caller orders events)
      → ascends (map (λ (o : Order). o.contract.hour) orders) ≡ true → ((order : Order) → IsIn order orders → rest_of graph events caller order ≡ 0)
      → AreFew events → AreFew (events ++ enter_all parts graph caller orders events)
  few-basket parts caller [] events fit up none few = subst AreFew (sym (append-nil events)) few
  few-basket parts caller (order ∷ orders) events fit up none few =
      subst AreFew whole (few-basket parts caller orders (events ++ done) (subst (FitAfter setup []) (sym whole) fit)
      (ascends-rest order.contract.hour (map (λ (o : Order). o.contract.hour) orders) up) later
      (few-none_left parts caller order events fit_done (none order (inl refl)) few))
    where
      done : List Event
      done = enter parts graph caller order events

      whole : (events ++ done) ++ enter_all parts graph caller orders (events ++ done) ≡ events ++ (done ++ enter_all parts graph caller orders (events ++ done))
      whole = append_assoc events done (enter_all parts graph caller orders (events ++ done))

      fit_done : FitAfter setup [] (events ++ done)
      fit_done = fit-front setup [] (events ++ done) (enter_all parts graph caller orders (events ++ done)) (subst (FitAfter setup []) (sym whole) fit)

      named : AreNamedByHour events
      named = history-named setup events (fit-front setup [] events done fit_done)

      -- the orders behind it are filled as before it, as they are of other hours
      later : (other : Order) → IsIn other orders → rest_of graph (events ++ done) caller other ≡ 0
      later other i =
          let hour : ℕ = other.contract.hour in
          let less = ascends-later order.contract.hour (map (λ (o : Order). o.contract.hour) orders) up hour (IsIn-map (λ (o : Order). o.contract.hour) other orders i) in
          let apart : order.contract.hour ≢ hour = λ same. omega (arith, less, same) in
          let within = enter-within (order.contract.hour ∷ []) parts graph caller order events (inl refl) named in
          let agree : Agree (hour ∷ []) events (events ++ done) = record {
            named_a = named;
            named_b = history-named setup (events ++ done) fit_done;
            same = λ own h. elim h [
              | inl s ↦ subst (λ n. of_hour n events ≡ of_hour n (events ++ done)) (sym s) (elsewhere hour order.contract.hour events done within apart)
              | inr j ↦ absurd j
            ];
          } in
          sym (rest_of-agree (hour ∷ []) events (events ++ done) agree graph caller other (inl refl)) ∙ none other (inr i)

  -- ---- replies

  few-done : (parts : List Part) (events : List Event) (caller : ℕ) (given : Command) → IsHistory setup events → IsAdmitted setup events caller given
      → FitAfter setup [] (events ++ events_done parts setup events caller given) → AreFew events → AreFew (events ++ events_done parts setup events caller given)
  unfolding events_done
  few-done parts events caller (command.Enter order) history may fit few = few-entered parts caller order events fit may few
  few-done parts events caller (command.EnterBlock order) history may fit few = few-block_entered parts caller order events history fit may.desk few
  few-done parts events caller (command.EnterBasket orders) history may fit few =
      let hours : List ℕ = map (λ (o : Order). o.contract.hour) orders in
      let front = and_parts (is_within 2 8 (length orders) && ascends hours) (list_all (λ (o : Order). is_fill_or_kill o.kind) orders) may.names.basket in
      let up = (and_parts (is_within 2 8 (length orders)) (ascends hours) front.0).1 in
      few-basket parts caller orders events fit up (λ order i.
      let zones : List ℕ = unfilled_zones graph events caller order in
      eqb-true (rest_of graph events caller order) 0 (unless-none (is_filled graph events caller order)
      (refusal.BasketUnfilled order.contract.hour zones (bound_of graph events caller order zones))
      (first_answer-none (basket_order_refusal graph events caller) orders may.basket order i))) few
  few-done parts events caller (command.Cancel name) history may fit few = few-quiet events _ (quiet-one (event.Withdrawn name (left events name)) refl) few
  few-done parts events caller (command.Reduce name to) history may fit few = few-quiet events _ (quiet-one (event.Reduced name (left events name - to)) refl) few
  few-done parts events caller (command.Blocks first last) history may fit few = few-quiet events _ (match_blocks-quiet parts graph first last events) few
  few-done parts events caller (command.Offer from to first last lots) history may fit few = few-quiet events _ (at_arc-quiet (arc_between graph from to) _ (λ arc.
      then-quiet parts graph (hours_from first.hour last.hour) events (event.Offered arc first last lots) refl)) few
  few-done parts events caller (command.Request from to first last lots) history may fit few = few-quiet events _ (at_arc-quiet (arc_between graph from to) _ (λ arc.
      then-quiet parts graph (hours_from first.hour last.hour) events (event.Granted arc first last lots) refl)) few
  few-done parts events caller (command.Halt from to first last) history may fit few = few-quiet events _ (at_arc-quiet (arc_between graph from to) _ (λ arc.
      then-quiet parts graph (hours_from first last) events (event.Halted arc.border first last) refl)) few
  few-done parts events caller (command.Resume from to first last) history may fit few = few-quiet events _ (at_arc-quiet (arc_between graph from to) _ (λ arc.
      then-quiet parts graph (hours_from first last) events (event.Resumed arc.border first last) refl)) few
  few-done parts events caller (command.Gate hour asked) history may fit few = few-quiet events _ (gate-quiet parts graph hour asked events) few
  few-done parts events caller (command.View contract side zone) history may fit few = subst AreFew (sym (append-nil events)) few

  few-answer : (parts : List Part) (events : List Event) (caller : ℕ) (given : Command) → IsHistory setup events → IsAdmitted setup events caller given
      → FitAfter setup [] (events ++ events_of (reply_let_in parts setup events caller given)) → AreFew events → AreFew (events ++ events_of (reply_let_in parts setup events caller given))
  few-answer parts events caller (command.View contract side zone) history may fit few = subst AreFew (sym (append-nil events)) few
  few-answer parts events caller given history may fit few = few-done parts events caller given history may fit few

  -- a reply leaves few open where few were
  pub few-reply : (parts : List Part) (events : List Event) (caller : ℕ) (given : Command) → IsHistory setup events → AreFew events
      → AreFew (events ++ events_of (reply_by parts setup events caller given))
  unfolding reply_by
  few-reply parts events caller given history few =
      go (refusal_of_command setup events caller given) refl (reply-history setup is_setup parts events caller history given).fit
    where
      go : (o : Option Refusal) → refusal_of_command setup events caller given ≡ o
          → FitAfter setup [] (events ++ events_of (refused_or o (λ _. reply_let_in parts setup events caller given)))
          → AreFew (events ++ events_of (refused_or o (λ _. reply_let_in parts setup events caller given)))
      go (Some broken) is fit = subst AreFew (sym (append-nil events)) few
      go None is fit = few-answer parts events caller given history (refusal-none setup events caller given is) fit few

  -- ---- journals

  pub few-open : (parts : List Part) (turns : List Turn) → AreFew (journal_events (run_by parts setup turns))
  few-open parts turns = run-keeps setup is_setup parts AreFew
      (λ events caller given history few. few-reply parts events caller given history few) (λ hour. omega arith) turns

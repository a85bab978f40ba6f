-- A block that enters, by the events of its first hour.
use Rattle.std.proofs.Common.{◌≡◌, ◌∙◌, ◌≢◌, inl, inr, ℕ, ◌+◌, ◌≤◌, Bool, true, false, not, List, [], ◌∷◌, ◌++◌, cond, filter, length, nat_lt, Some, None, refl, sym, ap, arith, if◌then◌else◌, subst}
use Rattle.std.specs.List.{cons_option, filter_map}
use Rattle.std.proofs.lemmas.List.{append-nil}
use Rattle.std.proofs.lemmas.List.Elements.{filter-append, filter_map-append}
use Rattle.std.proofs.lemmas.Bool.{eq-eqb}
use Rattle.order_kinds.specs.declared.order.BlockOrder.{BlockOrder}
use Rattle.order_kinds.specs.declared.order.OrderName.{OrderName}
use Rattle.order_kinds.specs.Same.{same_name}
use Rattle.zone_graph.specs.Route.{IsIn}
use Rattle.zone_graph.proofs.Membership.{from_filter}
use Rattle.laws_of_books.specs.BlocksOf.{entered_resting_block, resting_block}
use Rattle.block_match.specs.Market.{entered_block}
use Rattle.market_model.specs.declared.event.Event.{Event}
use Rattle.market_model.specs.declared.event.Event.TheVariants as event
use Rattle.market_model.specs.declared.setup.Setup.{Setup}
use Rattle.market_model.specs.Blocks.{with_block}
use Rattle.market_model.specs.History.{and_then, of_hour, touches}
use Rattle.market_model.specs.Orders.{block_moment, is_open, left, name_given, next_name, open_names}
use Rattle.market_model.specs.Refusals.{desk_room, has_desk_room}
use Rattle.market_model.specs.WellFormed.{BlockEnters, FitAfter}
use Rattle.laws_of_market.proofs.Members.{IsIn-filter_map, from_filter_map}
use Rattle.laws_of_market.proofs.States.{left-more}
use Rattle.laws_of_market.proofs.Tests.{same_name-refl}
use Rattle.laws_of_market.proofs.Wholes.{new_block-whole, other_name}
use Rattle.laws_of_market.proofs.LocalMoments.{block_moment-more}
use Rattle.laws_of_market.proofs.NamedByHour.{history-named}
use Rattle.laws_of_market.proofs.LocalStates.{Agree, agree-more, left-agree, next_name-agree}
use Rattle.laws_of_market.proofs.OpenNames.{IsEntry, block-entry}
use Rattle.laws_of_joint_commands.proofs.SweptHours.{own-agrees}

-- two tests, one after the other, of which the first passes all and the second is a third
filter-both : {X : Type 0} (p q r : X → Bool) (xs : List X) → ((x : X) → IsIn x xs → (p x ≡ true) × (q x ≡ r x)) → filter p (filter q xs) ≡ filter r xs
filter-both p q r [] same = refl
filter-both p q r (x ∷ xs) same =
    let more = filter-both p q r xs (λ y i. same y (inr i)) in
    let here = same x (inl refl) in
    go (r x) refl here.1 here.0 more
  where
    go : (t : Bool) → r x ≡ t → q x ≡ r x → p x ≡ true → filter p (filter q xs) ≡ filter r xs → filter p (filter q (x ∷ xs)) ≡ filter r (x ∷ xs)
    go true is alike passes more = rw (alike, is, passes) (ap (λ l. x ∷ l) more)
    go false is alike passes more = rw (alike, is) more

-- the own events of an hour are all of it
twice : {X : Type 0} (p : X → Bool) (xs : List X) → filter p (filter p xs) ≡ filter p xs
twice p [] = refl
twice p (x ∷ xs) = go (p x) refl (twice p xs)
  where
    go : (t : Bool) → p x ≡ t → filter p (filter p xs) ≡ filter p xs → filter p (filter p (x ∷ xs)) ≡ filter p (x ∷ xs)
    go true is more = rw (is, is) (ap (λ l. x ∷ l) more)
    go false is more = rw is more

module _ (setup : Setup) (history : List Event) (fit : FitAfter setup [] history) (caller : ℕ) (order : BlockOrder)
    (may : BlockEnters setup history (next_name history order.first) caller order) (in_order : order.first ≤ order.last) where
  abbrev own : List Event
  own = of_hour order.first history

  abbrev name : OrderName
  name = next_name own order.first

  abbrev entry : Event
  entry = event.EnteredBlock name caller order

  agree : Agree (order.first ∷ []) own history
  agree = own-agrees history (history-named setup history fit) order.first

  name-own : name ≡ next_name history order.first
  name-own = next_name-agree (order.first ∷ []) own history agree order.first (inl refl)

  entered-agree : Agree (order.first ∷ []) (and_then own entry) (and_then history entry)
  entered-agree = agree-more (order.first ∷ []) own history entry agree (refl, in_order)

  own-enters : BlockEnters setup history name caller order
  own-enters = subst (λ (n : OrderName). BlockEnters setup history n caller order) (sym name-own) may

  left-own : left (and_then own entry) name ≡ order.quantity.0
  left-own =
      left-agree (order.first ∷ []) (and_then own entry) (and_then history entry) entered-agree name (inl refl)
      ∙ new_block-whole setup history fit (record { name = name; caller = caller; order = order }) entry own-enters refl

  moment-own : block_moment (and_then own entry) (record { name = name; caller = caller; order = order }) ≡ length own + 1
  moment-own =
      block_moment-more order.first own entry (record { name = name; caller = caller; order = order }) (eq-eqb order.first order.first refl) refl
      ∙ ap (λ b. if b then length (of_hour order.first own) + 1 else block_moment own (record { name = name; caller = caller; order = order })) (same_name-refl name)
      ∙ ap (λ (es : List Event). length es + 1) (twice (touches order.first) history)

  -- its record
  pub entering-record : resting_block (with_block own caller order) (entered_block own caller order) ≡ entered_resting_block name caller order (length own + 1)
  entering-record =
      let lots = left-own in
      let moment = moment-own in
      λ i. record {
        number = name.number;
        caller = caller;
        zone = order.zone;
        side = order.side;
        price = order.price;
        quantity = lots i;
        last = order.last;
        moment = moment i;
      }

  abbrev given : List OrderName
  given = filter_map (name_given order.first) own

  is_entry : IsEntry history name entry
  is_entry = block-entry setup history fit name caller order own-enters

  -- the name is new
  new-name : (other : OrderName) → IsIn other given → other ≢ name
  new-name other i =
      let found = from_filter_map (name_given order.first) other own i in
      is_entry.new order.first other (IsIn-filter_map (name_given order.first) found.0 other history (from_filter (touches order.first) found.0 history found.1).0 found.2)

  open-same : (other : OrderName) → IsIn other given → (not (same_name other name) ≡ true) × (is_open (and_then own entry) other ≡ is_open own other)
  open-same other i =
      let apart = new-name other i in
      let none = is_entry.enters_it other (λ same. apart (sym same)) in
      let same : left (and_then own entry) other ≡ left own other = left-more own entry other none ∙ omega arith in
      (ap not (other_name other name apart), ap (nat_lt 0) same)

  named_own : filter (λ other. not (same_name other name)) (filter (is_open (and_then own entry)) (name ∷ [])) ≡ []
  named_own = go (is_open (and_then own entry) name)
    where
      go : (t : Bool) → filter (λ other. not (same_name other name)) (cond t (name ∷ []) []) ≡ []
      go true = ap (λ b. cond (not b) (name ∷ []) []) (same_name-refl name)
      go false = refl

  given-after : filter_map (name_given order.first) (and_then own entry) ≡ given ++ name ∷ []
  given-after =
      filter_map-append (name_given order.first) own (entry ∷ [])
      ∙ ap (λ b. given ++ cons_option (if b then Some name else None) []) (eq-eqb order.first order.first refl)

  others-are : filter (λ other. not (same_name other name)) (open_names (with_block own caller order) order.first) ≡ open_names own order.first
  others-are =
      ap (λ l. filter (λ other. not (same_name other name)) (filter (is_open (and_then own entry)) l)) given-after
      ∙ ap (filter (λ other. not (same_name other name))) (filter-append (is_open (and_then own entry)) given (name ∷ []))
      ∙ filter-append (λ other. not (same_name other name)) (filter (is_open (and_then own entry)) given) (filter (is_open (and_then own entry)) (name ∷ []))
      ∙ ap (λ l. filter (λ other. not (same_name other name)) (filter (is_open (and_then own entry)) given) ++ l) named_own
      ∙ append-nil (filter (λ other. not (same_name other name)) (filter (is_open (and_then own entry)) given))
      ∙ filter-both (λ other. not (same_name other name)) (is_open (and_then own entry)) (is_open own) given open-same

  -- whether it has room is whether one more can be open
  pub entering-room : has_desk_room (with_block own caller order) (next_name own order.first) ≡ nat_lt (length (open_names own order.first)) desk_room
  entering-room = ap (λ (l : List OrderName). nat_lt (length l) desk_room) others-are

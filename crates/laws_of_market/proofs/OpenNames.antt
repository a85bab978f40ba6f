-- How many orders and blocks of an hour are open, as events come behind a history.
use Rattle.std.proofs.Common.{◌≡◌, ◌∙◌, ◌≢◌, inl, inr, ℕ, ◌<◌, ◌≤◌, Bool, true, false, not, List, [], ◌∷◌, ◌++◌, cond, filter, length, length-append, Some, None, nat_eq, nat_lt, append_assoc, eqb-true, refl, sym, ap, subst, if◌then◌else◌, arith}
use Rattle.std.proofs.lemmas.Bool.{lt-ltb, le-ltb, ltb-true, true≢false}
use Rattle.std.proofs.Math.Seq.{append_snoc}
use Rattle.std.proofs.lemmas.List.{append-nil}
use Rattle.std.proofs.lemmas.List.Elements.{filter-append, filter_map-append}
use Rattle.std.specs.List.{cons_option, filter_map}
use Rattle.order_kinds.specs.declared.order.BlockOrder.{BlockOrder}
use Rattle.order_kinds.specs.declared.order.Order.{Order}
use Rattle.order_kinds.specs.declared.order.OrderName.{OrderName}
use Rattle.order_kinds.specs.Same.{same_name}
use Rattle.zone_graph.specs.Pour.{lots_if}
use Rattle.zone_graph.specs.Route.{IsIn}
use Rattle.market_model.specs.declared.event.Event.{Event}
use Rattle.market_model.specs.declared.event.Event.TheVariants as event
use Rattle.market_model.specs.declared.setup.Setup.{Setup}
use Rattle.market_model.specs.History.{and_then}
use Rattle.market_model.specs.Orders.{entered_by, is_open, left, name_given, open_names}
use Rattle.market_model.specs.Refusals.{desk_room, has_desk_room}
use Rattle.market_model.specs.WellFormed.{FitAfter, Fits}
use Rattle.laws_of_market.proofs.Members.{from_filter_map}
use Rattle.laws_of_market.proofs.Names.{block_name-new, enters_as, names-once, order_name-new, times_entered}
use Rattle.laws_of_market.proofs.States.{left-more}
use Rattle.laws_of_market.proofs.Tests.{same_name-refl}
use Rattle.laws_of_market.proofs.Unique.{times-some}
use Rattle.laws_of_market.proofs.Wholes.{other_name}
use Rattle.laws_of_market.proofs.Counts.{fewer-le}
use Rattle.laws_of_market.proofs.Closing.{AreQuiet, IsQuiet, quiet-append}

-- ---- lists

-- nor than pass two others, one after the other
fewer-both : {X : Type 0} (p q r : X → Bool) (xs : List X) → ((x : X) → IsIn x xs → p x ≡ true → (q x ≡ true) × (r x ≡ true))
    → length (filter p xs) ≤ length (filter r (filter q xs))
fewer-both p q r [] implies = omega arith
fewer-both p q r (x ∷ xs) implies = go (fewer-both p q r xs (λ y i. implies y (inr i))) (p x) refl (q x) refl
  where
    inner : length (filter p xs) ≤ length (filter r (filter q xs)) → (u : Bool) → r x ≡ u → (s : Bool) → p x ≡ s
        → length (cond s (x ∷ filter p xs) (filter p xs)) ≤ length (cond u (x ∷ filter r (filter q xs)) (filter r (filter q xs)))
    inner rest true c true a = omega (arith, rest)
    inner rest true c false a = omega (arith, rest)
    inner rest false c true a = absurd (true≢false (sym (implies x (inl refl) a).1 ∙ c))
    inner rest false c false a = rest

    go : length (filter p xs) ≤ length (filter r (filter q xs)) → (s : Bool) → p x ≡ s → (t : Bool) → q x ≡ t
        → length (cond s (x ∷ filter p xs) (filter p xs)) ≤ length (filter r (cond t (x ∷ filter q xs) (filter q xs)))
    go rest s a true b = inner rest (r x) refl s a
    go rest true a false b = absurd (true≢false (sym (implies x (inl refl) a).0 ∙ b))
    go rest false a false b = rest

-- ---- events by which nothing enters

quiet-name : (hour : ℕ) (e : Event) → IsQuiet e → name_given hour e ≡ None
quiet-name hour (event.Entered given caller order) q = absurd (true≢false q)
quiet-name hour (event.EnteredBlock given caller order) q = absurd (true≢false q)
quiet-name hour _ q = refl

quiet-entered : (name : OrderName) (e : Event) → IsQuiet e → entered_by name e ≡ 0
quiet-entered name (event.Entered given caller order) q = absurd (true≢false q)
quiet-entered name (event.EnteredBlock given caller order) q = absurd (true≢false q)
quiet-entered name _ q = refl

-- the names given by an hour
abbrev given_in : List Event → ℕ → List OrderName
given_in events hour = filter_map (name_given hour) events

nothing_given : (hour : ℕ) (more : List Event) → AreQuiet more → given_in more hour ≡ []
nothing_given hour [] quiet = refl
nothing_given hour (e ∷ more) quiet = rw (quiet-name hour e (quiet e (inl refl))) (nothing_given hour more (λ f i. quiet f (inr i)))

given-quiet : (hour : ℕ) (events more : List Event) → AreQuiet more → given_in (events ++ more) hour ≡ given_in events hour
given-quiet hour events more quiet =
    filter_map-append (name_given hour) events more ∙ ap (λ xs. given_in events hour ++ xs) (nothing_given hour more quiet) ∙ append-nil (given_in events hour)

-- leave no more of an order than there was
pub left-falls : (events more : List Event) → AreQuiet more → (name : OrderName) → left (events ++ more) name ≤ left events name
left-falls events [] quiet name = subst (λ es. left es name ≤ left events name) (sym (append-nil events)) (omega arith)
left-falls events (e ∷ more) quiet name =
    let own = left-more events e name (quiet-entered name e (quiet e (inl refl))) in
    let rest = left-falls (and_then events e) more (λ f i. quiet f (inr i)) name in
    subst (λ es. left es name ≤ left events name) (append_snoc events e more) (omega (arith, own, rest))

pub opens-before : (events more : List Event) → AreQuiet more → (name : OrderName) → is_open (events ++ more) name ≡ true → is_open events name ≡ true
opens-before events more quiet name opened =
    let some = ltb-true 0 (left (events ++ more) name) opened in
    let falls = left-falls events more quiet name in
    lt-ltb 0 (left events name) (omega (arith, some, falls))

pub closed-after : (events more : List Event) → AreQuiet more → (name : OrderName) → left events name ≡ 0 → is_open (events ++ more) name ≡ false
closed-after events more quiet name none =
    let falls = left-falls events more quiet name in le-ltb 0 (left (events ++ more) name) (omega (arith, falls, none))

-- and open no order or block
pub fewer-quiet : (hour : ℕ) (events more : List Event) → AreQuiet more → length (open_names (events ++ more) hour) ≤ length (open_names events hour)
fewer-quiet hour events more quiet =
    subst (λ xs. length (filter (is_open (events ++ more)) xs) ≤ length (open_names events hour)) (sym (given-quiet hour events more quiet))
    (fewer-le (is_open (events ++ more)) (is_open events) (given_in events hour) (λ name i. opens-before events more quiet name))

-- ---- an order or block that enters

-- an event by which a name that is new enters
pub record IsEntry (events : List Event) (name : OrderName) (e : Event) : Type 0 where
  pub gives : (hour : ℕ) → name_given hour e ≡ (if nat_eq name.hour hour then Some name else None)
  pub enters_it : (other : OrderName) → name ≢ other → entered_by other e ≡ 0
  pub new : (hour : ℕ) (other : OrderName) → IsIn other (given_in events hour) → other ≢ name

-- a name that was given was entered
given-enters : (hour : ℕ) (e : Event) (name : OrderName) → name_given hour e ≡ Some name → enters_as name e ≡ true
given-enters hour (event.Entered given caller order) name is = go (nat_eq given.hour hour) is
  where
    go : (t : Bool) → (if t then Some given else None) ≡ Some name → same_name given name ≡ true
    go true k = let same : given ≡ name = cc in subst (λ n. same_name given n ≡ true) same (same_name-refl given)
    go false k = absurd (cc)
given-enters hour (event.EnteredBlock given caller order) name is = go (nat_eq given.hour hour) is
  where
    go : (t : Bool) → (if t then Some given else None) ≡ Some name → same_name given name ≡ true
    go true k = let same : given ≡ name = cc in subst (λ n. same_name given n ≡ true) same (same_name-refl given)
    go false k = absurd (cc)
given-enters hour _ name is = absurd (cc)

not_given : (events : List Event) (name : OrderName) → times_entered events name ≡ 0 → (hour : ℕ) (other : OrderName) → IsIn other (given_in events hour) → other ≢ name
not_given events name never hour other i same =
    let x = from_filter_map (name_given hour) other events i in
    let some = times-some other x.0 events x.1 (given-enters hour x.0 other x.2) in
    let none : times_entered events other ≡ 0 = subst (λ n. times_entered events n ≡ 0) (sym same) never in
    omega (arith, some, none)

pub order-entry : (setup : Setup) (events : List Event) → FitAfter setup [] events → (name : OrderName) (caller : ℕ) (order : Order)
    → Fits setup events (event.Entered name caller order) → IsEntry events name (event.Entered name caller order)
order-entry setup events fit name caller order fits = record {
  gives = λ hour. refl;
  enters_it = λ other differ. ap (λ t. lots_if t order.quantity.0) (other_name name other differ);
  new = not_given events name (order_name-new setup events name caller order (names-once setup events fit) fits);
}

pub block-entry : (setup : Setup) (events : List Event) → FitAfter setup [] events → (name : OrderName) (caller : ℕ) (order : BlockOrder)
    → Fits setup events (event.EnteredBlock name caller order) → IsEntry events name (event.EnteredBlock name caller order)
block-entry setup events fit name caller order fits = record {
  gives = λ hour. refl;
  enters_it = λ other differ. ap (λ t. lots_if t order.quantity.0) (other_name name other differ);
  new = not_given events name (block_name-new setup events name caller order (names-once setup events fit) fits);
}

module _ (events : List Event) (name : OrderName) (e : Event) (entry : IsEntry events name e) where
  -- the names given by an hour after the entry
  given_after : (hour : ℕ) (more : List Event) → AreQuiet more
      → given_in ((and_then events e) ++ more) hour ≡ given_in events hour ++ (if nat_eq name.hour hour then name ∷ [] else [])
  given_after hour more quiet =
      given-quiet hour (and_then events e) more quiet ∙ filter_map-append (name_given hour) events (e ∷ [])
      ∙ ap (λ o. given_in events hour ++ cons_option o []) (entry.gives hour) ∙ go (nat_eq name.hour hour)
    where
      go : (t : Bool) → given_in events hour ++ cons_option (if t then Some name else None) [] ≡ given_in events hour ++ (if t then name ∷ [] else [])
      go true = refl
      go false = refl

  -- what is open of the names that were given was open before
  opened-before : (hour : ℕ) (more : List Event) → AreQuiet more → (other : OrderName) → IsIn other (given_in events hour)
      → is_open ((and_then events e) ++ more) other ≡ true → is_open events other ≡ true
  opened-before hour more quiet other i opened =
      let some = ltb-true 0 (left (and_then events e) other) (opens-before (and_then events e) more quiet other opened) in
      let falls = left-more events e other (entry.enters_it other (λ same. entry.new hour other i (sym same))) in
      lt-ltb 0 (left events other) (omega (arith, some, falls))

  -- where what entered is closed, no more are open than before
  pub fewer-closed : (hour : ℕ) (more : List Event) → AreQuiet more → is_open ((and_then events e) ++ more) name ≡ false
      → length (open_names ((and_then events e) ++ more) hour) ≤ length (open_names events hour)
  fewer-closed hour more quiet closed =
      let final : List Event = (and_then events e) ++ more in
      let own : List OrderName = if nat_eq name.hour hour then name ∷ [] else [] in
      let parts : filter (is_open final) (given_in final hour) ≡ filter (is_open final) (given_in events hour) =
      ap (filter (is_open final)) (given_after hour more quiet) ∙ filter-append (is_open final) (given_in events hour) own
      ∙ ap (λ xs. filter (is_open final) (given_in events hour) ++ xs) (none_open final (nat_eq name.hour hour) closed)
      ∙ append-nil (filter (is_open final) (given_in events hour)) in
      subst (λ xs. length xs ≤ length (open_names events hour)) (sym parts)
      (fewer-le (is_open final) (is_open events) (given_in events hour) (opened-before hour more quiet))
    where
      none_open : (final : List Event) (t : Bool) → is_open final name ≡ false → filter (is_open final) (if t then name ∷ [] else []) ≡ []
      none_open final true is = rw is refl
      none_open final false is = refl

  -- where there is room on the desk, it is not full after the entry
  pub few-rests : (hour : ℕ) (legs tail : List Event) → AreQuiet legs → AreQuiet tail → has_desk_room ((and_then events e) ++ legs) name ≡ true
      → length (open_names events hour) ≤ desk_room → length (open_names (((and_then events e) ++ legs) ++ tail) hour) ≤ desk_room
  few-rests hour legs tail legs_quiet tail_quiet has_room few =
      subst (λ es. length (open_names es hour) ≤ desk_room) (sym whole) (go (nat_eq name.hour hour) refl)
    where
      mid : List Event
      mid = (and_then events e) ++ legs

      more : List Event
      more = legs ++ tail

      quiet : AreQuiet more
      quiet = quiet-append legs tail legs_quiet tail_quiet

      final : List Event
      final = (and_then events e) ++ more

      whole : mid ++ tail ≡ final
      whole = append_assoc (and_then events e) legs tail

      others : OrderName → Bool
      others other = not (same_name other name)

      -- the names that were given, as they are open at the end
      olds : List OrderName
      olds = filter (is_open final) (given_in events hour)

      one_most : (t : Bool) → length (cond t (name ∷ []) []) ≤ 1
      one_most true = omega arith
      one_most false = omega arith

      go : (t : Bool) → nat_eq name.hour hour ≡ t → length (filter (is_open final) (given_in final hour)) ≤ desk_room
      go false is =
          let names : given_in final hour ≡ given_in events hour = given_after hour more quiet ∙ ap (λ t. given_in events hour ++ (if t then name ∷ [] else [])) is ∙ append-nil (given_in events hour) in
          let less = fewer-le (is_open final) (is_open events) (given_in events hour) (opened-before hour more quiet) in
          subst (λ xs. length (filter (is_open final) xs) ≤ desk_room) (sym names) (omega (arith, less, few))
      go true is =
          let names : given_in final hour ≡ given_in events hour ++ (name ∷ []) = given_after hour more quiet ∙ ap (λ t. given_in events hour ++ (if t then name ∷ [] else [])) is in
          let at_hour : name.hour ≡ hour = eqb-true name.hour hour is in
          let mid_names : given_in mid hour ≡ given_in events hour ++ (name ∷ []) = given_after hour legs legs_quiet ∙ ap (λ t. given_in events hour ++ (if t then name ∷ [] else [])) is in
          let room : length (filter others (filter (is_open mid) (given_in mid hour))) < desk_room =
          ltb-true (length (filter others (open_names mid hour))) desk_room (subst (λ h. nat_lt (length (filter others (open_names mid h))) desk_room ≡ true) at_hour has_room) in
          let parted : filter others (filter (is_open mid) (given_in mid hour))
          ≡ filter others (filter (is_open mid) (given_in events hour)) ++ filter others (filter (is_open mid) (name ∷ [])) =
          ap (λ xs. filter others (filter (is_open mid) xs)) mid_names ∙ ap (filter others) (filter-append (is_open mid) (given_in events hour) (name ∷ []))
          ∙ filter-append others (filter (is_open mid) (given_in events hour)) (filter (is_open mid) (name ∷ [])) in
          let counted = ap length parted ∙ length-append (filter others (filter (is_open mid) (given_in events hour))) (filter others (filter (is_open mid) (name ∷ []))) in
          let kept = fewer-both (is_open final) (is_open mid) others (given_in events hour) (λ other i opened. (
            opens-before mid tail tail_quiet other (subst (λ es. is_open es other ≡ true) (sym whole) opened),
            ap not (other_name other name (entry.new hour other i)),
          )) in
          let own : length (filter (is_open final) (name ∷ [])) ≤ 1 = one_most (is_open final name) in
          let final_parts = ap (λ xs. length (filter (is_open final) xs)) names ∙ ap length (filter-append (is_open final) (given_in events hour) (name ∷ []))
          ∙ length-append olds (filter (is_open final) (name ∷ [])) in
          omega (arith, room, counted, kept, own, final_parts)

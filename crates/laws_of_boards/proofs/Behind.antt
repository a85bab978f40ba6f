-- A leg changes the line of its maker from the place of the maker on, and nothing in front of it.
use Rattle.std.proofs.Common.{◌≡◌, ◌≢◌, ◌∙◌, ◌⊎◌, inl, inr, ◌≤◌, Bool, true, false, not, List, [], ◌∷◌, ◌++◌, filter, nat_lt, refl, sym, ap, subst, arith}
use Rattle.std.proofs.lemmas.Bool.{true≢false}
use Rattle.std.specs.Ordering.{is_lt}
use Rattle.std.specs.declared.cmp.Ordering.{Ordering}
use Rattle.order_kinds.specs.declared.contract.Contract.{Contract}
use Rattle.order_kinds.specs.declared.order.OrderName.{OrderName}
use Rattle.order_kinds.specs.declared.side.Side.{Side}
use Rattle.order_kinds.specs.Contract.{contract_at}
use Rattle.order_kinds.specs.Same.{same_name}
use Rattle.order_kinds.specs.Side.{opposite}
use Rattle.zone_graph.specs.InOrder.{IsStrictlyInOrder, put_in_order}
use Rattle.zone_graph.specs.Route.{IsIn}
use Rattle.zone_graph.proofs.InOrder.{IsIn-put_in_order, from_put_in_order, in_order-ahead, in_order-behind, in_order-filter, in_order-one, in_order-put, in_order-without, not_before-through}
use Rattle.zone_graph.proofs.Membership.{IsIn-append, IsIn-filter, IsIn-left, IsIn-right, from_filter}
use Rattle.contract_book.specs.Resting.{resting_cmp}
use Rattle.market_model.specs.declared.event.Event.{Event}
use Rattle.market_model.specs.declared.event.Event.TheVariants as event
use Rattle.market_model.specs.declared.event.Leg.{Leg}
use Rattle.market_model.specs.declared.setup.Setup.{Setup}
use Rattle.market_model.specs.Board.{CanBeMade, is_in_hand}
use Rattle.market_model.specs.History.{and_then}
use Rattle.market_model.specs.Lines.{line, priority_cmp}
use Rattle.market_model.specs.Orders.{Placed, Standing, is_open, left, moment, names, placed, placed_by, standing}
use Rattle.market_model.specs.WellFormed.{FitAfter, LegFits}
use Rattle.laws_of_market.proofs.Ascending.{itself}
use Rattle.laws_of_market.proofs.Balances.{maker_has-leg, names-maker}
use Rattle.laws_of_market.proofs.Counts.{length-put_in_order}
use Rattle.laws_of_market.proofs.Lines.{IsIn-line, priority_weak}
use Rattle.laws_of_market.proofs.Names.{names-once}
use Rattle.laws_of_market.proofs.Placed.{picked-same}
use Rattle.laws_of_market.proofs.Repeats.{fit-more}
use Rattle.laws_of_market.proofs.Tests.{same_name-eq, same_name-refl}
use Rattle.laws_of_market.proofs.Trades.{IsInLine, IsOpen, from_line}
use Rattle.laws_of_market.proofs.Unique.{one_order}
use Rattle.laws_of_market.proofs.Wholes.{names-other}
use Rattle.laws_of_market.proofs.LocalLines.{line-agree}
use Rattle.laws_of_market.proofs.MomentsKept.{moment-most}
use Rattle.laws_of_books.specs.BookOf.{next_moment, resting_of}
use Rattle.laws_of_books.proofs.ChangedOrders.{hour_of}
use Rattle.laws_of_books.proofs.LegFills.{record-filled}
use Rattle.laws_of_books.proofs.LegsInBooks.{opposite-differs}
use Rattle.laws_of_books.proofs.LineOrders.{line-strict, resting-apart}
use Rattle.laws_of_books.proofs.SoundRecords.{record-sound}
use Rattle.laws_of_books.proofs.Untouched.{left-kept, standing-kept}
use Rattle.laws_of_boards.proofs.Filling.{not_before-old, put-behind}
use Rattle.laws_of_boards.specs.Takers.{LegsStayBehind, StandsInFront}
use Rattle.laws_of_boards.proofs.Legs.{made-agrees, made-fits, next_legs}
use Rattle.laws_of_boards.proofs.Shared.{board-agrees}
use Rattle.laws_of_boards.proofs.Walks.{one_number}

module _ (setup : Setup) (events : List Event) (fit : FitAfter setup [] events) (contract : Contract) (leg : Leg) (fits : LegFits setup events contract leg)
    (side : Side) (keeps : OrderName → Bool) (front back : List Standing) (maker : Standing) (is_maker : leg.maker ≡ maker.name)
    (stands : filter (λ (s : Standing). keeps s.name) (line events contract side) ≡ front ++ (maker ∷ back)) where
  abbrev trade : Event
  trade = event.Leg contract leg

  abbrev after : List Event
  after = and_then events trade

  abbrev rests : Standing → Bool
  rests s = keeps s.name

  abbrev resting : List Event → List Standing
  resting V = filter rests (line V contract side)

  abbrev cmp : Standing → Standing → Ordering
  cmp = priority_cmp side

  one : (a b : Placed) → IsIn a (placed events) → IsIn b (placed events) → a.name ≡ b.name → a ≡ b
  one = one_order events (names-once setup events fit)

  fit_after : FitAfter setup [] after
  fit_after = fit-more setup events trade fit fits

  placed_same : placed after ≡ placed events
  placed_same = picked-same placed_by events trade refl

  -- ---- the maker

  listed : (s : Standing) → IsIn s (front ++ (maker ∷ back)) → IsIn s (line events contract side) × (rests s ≡ true)
  listed s i = from_filter rests s (line events contract side) (subst (IsIn s) (sym stands) i)

  own_listed : IsIn maker (line events contract side) × (rests maker ≡ true)
  own_listed = listed maker (IsIn-right maker front (maker ∷ back) (inl refl))

  stood : IsInLine events contract side maker
  stood = from_line events contract side maker own_listed.0

  abbrev own : Placed
  own = stood.order

  own_placed : IsIn own (placed events)
  own_placed = stood.is_open.is_placed

  its_name : leg.maker ≡ own.name
  its_name = is_maker ∙ ap (λ (s : Standing). s.name) stood.is

  own_named : names leg own.name ≡ true
  own_named = subst (λ n. names leg n ≡ true) its_name (names-maker leg)

  own_has : leg.lots ≤ left events own.name
  own_has = subst (λ n. leg.lots ≤ left events n) its_name (maker_has-leg setup events contract leg fits)

  own_hour : own.name.hour ≡ contract.hour
  own_hour = hour_of setup events fit contract own own_placed stood.of_contract

  abbrev next : Standing
  next = standing after own

  -- as it stands after the leg it does not go before what it was
  not_before : is_lt (cmp next maker) ≡ false
  not_before =
      let most = moment-most events own in
      let within : moment events own ≤ next_moment events contract.hour = subst (λ h. moment events own ≤ next_moment events h) own_hour (omega (arith, most)) in
      let old = not_before-old side (resting_of (standing events own)) leg.lots (next_moment events contract.hour) stood.on_side
      (record-sound setup events fit own own_placed stood.is_open.is_left) within in
      let record_is = record-filled setup events fit contract leg fits own own_hour own_named own_has in
      let before : is_lt (resting_cmp side (resting_of next) (resting_of (standing events own))) ≡ false =
      subst (λ r. is_lt (resting_cmp side r (resting_of (standing events own))) ≡ false) (sym record_is) old in
      subst (λ (s : Standing). is_lt (cmp next s) ≡ false) (sym stood.is) before

  -- ---- the others

  -- another order of the line has no part in the leg
  apart-from : (p : Placed) → IsIn p (placed events) → p.order.side ≡ side → p.name ≢ own.name → names leg p.name ≡ false
  apart-from p there on_side differs =
      names-other leg p.name
      (λ same.
      let taker : fits.taker ≡ p = one fits.taker p fits.taker_open.is_placed there (fits.taker_open.is_named ∙ same) in
      let made : fits.maker ≡ own = one fits.maker own fits.maker_open.is_placed own_placed (fits.maker_open.is_named ∙ its_name) in
      opposite-differs side (sym stood.on_side ∙ ap (λ (q : Placed). q.order.side) (sym made) ∙ fits.opposed ∙ ap (λ (q : Placed). opposite q.order.side) taker ∙ ap opposite on_side))
      (λ same. differs (sym same ∙ its_name))

  strict : IsStrictlyInOrder cmp (front ++ (maker ∷ back))
  strict = subst (IsStrictlyInOrder cmp) stands (in_order-filter cmp rests (line events contract side) (line-strict setup events fit contract side))

  strict_less : IsStrictlyInOrder cmp (front ++ back)
  strict_less = in_order-without cmp front back maker strict

  strict_after : IsStrictlyInOrder cmp (resting after)
  strict_after = in_order-filter cmp rests (line after contract side) (line-strict setup after fit_after contract side)

  with_maker : (s : Standing) → IsIn s (front ++ back) → IsIn s (front ++ (maker ∷ back))
  with_maker s i = elim (IsIn-append s front back i) [
    | inl ahead ↦ IsIn-left s front (maker ∷ back) ahead
    | inr behind ↦ IsIn-right s front (maker ∷ back) (inr behind)
  ]

  is_other : (s : Standing) → IsIn s (front ++ back) → s ≡ maker → ⊥
  is_other s i same = elim (IsIn-append s front back i) [
    | inl ahead ↦ true≢false (sym (in_order-ahead cmp front back maker strict s ahead) ∙ ap (λ x. is_lt (cmp x maker)) same ∙ itself cmp (priority_weak side) maker)
    | inr behind ↦ true≢false (sym (in_order-behind cmp front back maker strict s behind) ∙ ap (λ x. is_lt (cmp maker x)) same ∙ itself cmp (priority_weak side) maker)
  ]

  -- another one stands where it stood
  stays-listed : (s : Standing) → IsIn s (front ++ back) → IsIn s (resting after)
  stays-listed s i =
      let there = listed s (with_maker s i) in
      let found = from_line events contract side s there.0 in
      let p = found.order in
      let differs : p.name ≢ own.name = λ same. is_other s i (found.is ∙ ap (standing events) (one p own found.is_open.is_placed own_placed same) ∙ sym stood.is) in
      let other = apart-from p found.is_open.is_placed found.on_side differs in
      let opened : IsOpen after p = record {
        is_placed = subst (IsIn p) (sym placed_same) found.is_open.is_placed;
        is_left = ap (nat_lt 0) (left-kept events trade p.name other) ∙ found.is_open.is_left;
      } in
      let in_line : IsIn (standing after p) (line after contract side) =
      subst (λ c. IsIn (standing after p) (line after c side)) found.of_contract (subst (λ d. IsIn (standing after p) (line after p.order.contract d)) found.on_side (IsIn-line after p opened)) in
      let same : standing after p ≡ s = standing-kept events trade p other ∙ sym found.is in
      IsIn-filter rests s (line after contract side) (subst (λ x. IsIn x (line after contract side)) same in_line) there.1

  -- who rests after the leg is the maker, if something is left of it, or another one that rested
  from-after : (s : Standing) → IsIn s (resting after) → ((s ≡ next) × (is_open after own.name ≡ true)) ⊎ IsIn s (front ++ back)
  from-after s i =
      let there = from_filter rests s (line after contract side) i in
      let found = from_line after contract side s there.0 in
      by_order found.order (subst (IsIn found.order) placed_same found.is_open.is_placed) found.is_open.is_left found.of_contract found.on_side found.is there.1
    where
      by_order : (p : Placed) → IsIn p (placed events) → is_open after p.name ≡ true → p.order.contract ≡ contract → p.order.side ≡ side → s ≡ standing after p → rests s ≡ true
          → ((s ≡ next) × (is_open after own.name ≡ true)) ⊎ IsIn s (front ++ back)
      by_order p was opened of_contract on_side is kept = go (same_name p.name own.name) refl
        where
          go : (b : Bool) → same_name p.name own.name ≡ b → ((s ≡ next) × (is_open after own.name ≡ true)) ⊎ IsIn s (front ++ back)
          go true e =
              let same : p ≡ own = one p own was own_placed (same_name-eq p.name own.name e) in
              inl (is ∙ ap (standing after) same, subst (λ (q : Placed). is_open after q.name ≡ true) same opened)
          go false e =
              let differs : p.name ≢ own.name = λ same. true≢false (sym (subst (λ n. same_name p.name n ≡ true) same (same_name-refl p.name)) ∙ e) in
              let other = apart-from p was on_side differs in
              let opened_before : IsOpen events p = record { is_placed = was; is_left = ap (nat_lt 0) (sym (left-kept events trade p.name other)) ∙ opened } in
              let in_line : IsIn (standing events p) (line events contract side) =
              subst (λ c. IsIn (standing events p) (line events c side)) of_contract (subst (λ d. IsIn (standing events p) (line events p.order.contract d)) on_side (IsIn-line events p opened_before)) in
              let same : standing events p ≡ s = sym (standing-kept events trade p other) ∙ sym is in
              let before : IsIn s (front ++ (maker ∷ back)) =
              subst (IsIn s) stands (IsIn-filter rests s (line events contract side) (subst (λ x. IsIn x (line events contract side)) same in_line) kept) in
              elim (IsIn-append s front (maker ∷ back) before) [
                | inl ahead ↦ inr (IsIn-left s front back ahead)
                | inr rest ↦ elim rest [
                  | inl it ↦ absurd (differs (ap (λ (x : Standing). x.name) (same ∙ it ∙ stood.is)))
                  | inr behind ↦ inr (IsIn-right s front back behind)
                ]
              ]

  -- ---- the line after the leg

  abbrev placed_next : List Standing
  placed_next = put_in_order cmp (front ++ back) next

  next_listed : is_open after own.name ≡ true → IsIn next (resting after)
  next_listed opened =
      let in_line : IsIn next (line after contract side) =
      subst (λ c. IsIn next (line after c side)) stood.of_contract (subst (λ d. IsIn next (line after own.order.contract d)) stood.on_side
      (IsIn-line after own (record { is_placed = subst (IsIn own) (sym placed_same) own_placed; is_left = opened }))) in
      IsIn-filter rests next (line after contract side) in_line (ap (λ (s : Standing). keeps s.name) (sym stood.is) ∙ own_listed.1)

  strict_next : IsStrictlyInOrder cmp placed_next
  strict_next = in_order-put cmp (priority_weak side) (front ++ back) next strict_less
      (λ y i. resting-apart side (resting_of next) (resting_of y) (λ same.
      is_other y i (one_number setup events fit contract side y maker (listed y (with_maker y i)).0 own_listed.0 (sym same ∙ ap (λ (s : Standing). s.name.number) (sym stood.is)))))

  behind_front : (y : Standing) → IsIn y front → is_lt (cmp next y) ≡ false
  behind_front y i = not_before-through cmp (priority_weak side) next maker y not_before (in_order-ahead cmp front back maker strict y i)

  pub stays-in_front : StandsInFront front (maker ∷ back) (resting after)
  stays-in_front = go (is_open after own.name) refl
    where
      go : (b : Bool) → is_open after own.name ≡ b → StandsInFront front (maker ∷ back) (resting after)
      go true opened = record {
        rest = put_in_order cmp back next;
        is = in_order-one cmp (priority_weak side) (resting after) placed_next strict_after strict_next
            (λ s i. IsIn-put_in_order cmp s (front ++ back) next (elim (from-after s i) [ inl is ↦ inl is.0 | inr old ↦ inr old ]))
            (λ s i. elim (from_put_in_order cmp s (front ++ back) next i) [
              | inl is ↦ subst (λ x. IsIn x (resting after)) (sym is) (next_listed opened)
              | inr old ↦ stays-listed s old
            ])
            ∙ put-behind cmp front back next behind_front;
        few = let long = length-put_in_order cmp back next in omega (arith, long);
      }
      go false closed = record {
        rest = back;
        is = in_order-one cmp (priority_weak side) (resting after) (front ++ back) strict_after strict_less
            (λ s i. elim (from-after s i) [ inl is ↦ absurd (true≢false (sym is.1 ∙ closed)) | inr old ↦ old ])
            stays-listed;
        few = omega arith;
      }

pub stay : LegsStayBehind
stay board part taker leg front back maker is_board there of_part is is_maker stands =
    let whole = is_board.stands in
    let contract : Contract = contract_at board.hour part in
    let side : Side = opposite taker.order.side in
    let made : Event = event.Leg contract leg in
    let keeps : OrderName → Bool = λ name. not (is_in_hand board.hand name) in
    let rests : Standing → Bool = λ s. not (is_in_hand board.hand s.name) in
    let next = next_legs board part taker made is_board there of_part is in
    let same : next.leg ≡ leg = made-same contract leg next.leg next.is in
    let can : CanBeMade board part leg = subst (CanBeMade board part) same next.can_be_made in
    let over = ap (filter rests) (sym (line-agree (board.hour ∷ []) board.events whole.history (board-agrees board is_board) contract side (inl refl))) ∙ stands in
    subst (λ orders. StandsInFront front (maker ∷ back) (filter rests orders))
    (sym (line-agree (board.hour ∷ []) (and_then board.events made) (and_then whole.history made) (made-agrees board is_board part leg can) contract side (inl refl)))
    (stays-in_front whole.setup whole.history whole.fit contract leg (made-fits board is_board part leg can) side keeps front back maker is_maker over)
  where
    made-same : (c : Contract) (one other : Leg) → event.Leg c one ≡ event.Leg c other → other ≡ one
    made-same c one other e = cc

-- The events that are looked at for an hour say of it what all events say.
use Rattle.std.proofs.Common.{◌≡◌, ◌∙◌, inl, inr, ℕ, zero, suc, ◌+◌, ◌<◌, ◌≤◌, Bool, true, false, cond, List, [], ◌∷◌, ◌++◌, filter, get_or, length, nat_eq, Option, Some, None, take, refl, sym, ap, subst, if◌then◌else◌, arith}
use Rattle.std.proofs.lemmas.Bool.{cases_lt, false_from_ne_true, true≢false}
use Rattle.std.proofs.lemmas.List.{get_or_append_left, get_or_push, length_push, take_more}
use Rattle.std.proofs.lemmas.List.Sums.{sum_by_push}
use Rattle.std.specs.List.{cons_option, filter_map, find}
use Rattle.order_kinds.specs.declared.order.OrderName.{OrderName}
use Rattle.order_kinds.specs.Same.{same_name}
use Rattle.zone_graph.specs.Route.{IsIn}
use Rattle.zone_graph.proofs.Membership.{IsIn-right, from_filter}
use Rattle.market_model.specs.declared.event.Event.{Event}
use Rattle.market_model.specs.declared.event.Event.TheVariants as event
use Rattle.market_model.specs.declared.setup.Setup.{Setup}
use Rattle.market_model.specs.History.{and_then, enters_in, of_hour, touches}
use Rattle.market_model.specs.Orders.{Placed, PlacedBlock, block_placed_by, blocks_placed, left, name_given, placed, placed_by}
use Rattle.market_model.specs.WellFormed.{FitAfter}
use Rattle.laws_of_market.proofs.Balances.{left-filled-taken_off}
use Rattle.laws_of_market.proofs.LocalStates.{Agree, agree-more, blocks_placed-agree, left-agree, next_name-agree}
use Rattle.laws_of_market.proofs.Members.{from_filter_map}
use Rattle.laws_of_market.proofs.NamedByHour.{history-named}
use Rattle.laws_of_market.proofs.Names.{names-once, times_entered}
use Rattle.laws_of_market.proofs.Restrict.{filter-filter, fold-filter}
use Rattle.laws_of_market.proofs.Unique.{entered-none, enters-block_placed, enters-placed, times-some}
use Rattle.event_history.specs.Near.{IsNear}
use Rattle.plain_orders.specs.Histories.{IsSomeHistory}
use Rattle.plain_orders.specs.Listed.{block_given, is_block_of}
use Rattle.plain_orders.specs.Owned.{block_placed_as, placed_as}
use Rattle.plain_orders.specs.declared.tally.Tally.{Tally}
use Rattle.plain_orders.specs.Tallies.{AreTallies, CanTakeIn, Tells, after_event, entered_in, name_in, nothing, with_place}
use Rattle.plain_orders.proofs.Histories.{IsAt, LeftIs, at_place, left-at}
use Rattle.plain_orders.proofs.Listing.{kept-filter}
use Rattle.plain_orders.proofs.Taken.{can-take_in, comes-at, tallies-more, tallies-same}
use Rattle.plain_orders.proofs.Tells.{tells-agree}

-- ---- a part of a list

-- an item of a part of a list stands in the list, and before it the items of the list whose part is
-- before it in the part
pub record StandsAt {X : Type 0} (keeps : X → Bool) (xs : List X) (place : ℕ) (x : X) : Type 0 where
  pub there : ℕ
  pub within : there < length xs
  pub is : x ≡ get_or xs there x
  pub before : take place (filter keeps xs) ≡ filter keeps (take there xs)

pub stands-at : {X : Type 0} (keeps : X → Bool) (xs : List X) (place : ℕ) (x : X) → place < length (filter keeps xs) → x ≡ get_or (filter keeps xs) place x
    → StandsAt keeps xs place x
stands-at keeps [] place x within is = absurd (omega arith)
stands-at {X} keeps (y ∷ ys) place x within is = go (keeps y) place refl within is (λ p. stands-at keeps ys p x)
  where
    go : (b : Bool) (p : ℕ) → keeps y ≡ b → p < length (cond b (y ∷ filter keeps ys) (filter keeps ys)) → x ≡ get_or (cond b (y ∷ filter keeps ys) (filter keeps ys)) p x
        → ((q : ℕ) → q < length (filter keeps ys) → x ≡ get_or (filter keeps ys) q x → StandsAt keeps ys q x) → StandsAt keeps (y ∷ ys) p x
    go false p e room same rest =
        let r = rest p room same in
        record { there = suc r.there; within = (let low = r.within in omega arith); is = r.is; before = rw e r.before }
    go true zero e room same rest = record { there = 0; within = omega arith; is = same; before = refl }
    go true (suc p) e room same rest =
        let r = rest p (omega arith) same in
        record { there = suc r.there; within = (let low = r.within in omega arith); is = r.is; before = rw e (ap (λ zs. y ∷ zs) r.before) }

-- what is picked of a part that keeps all of which something is picked
pub picked-kept : {X Y : Type 0} (pick : X → Option Y) (keeps : X → Bool) (xs : List X) → ((x : X) → keeps x ≡ false → pick x ≡ None)
    → filter_map pick (filter keeps xs) ≡ filter_map pick xs
picked-kept pick keeps [] none = refl
picked-kept {X} {Y} pick keeps (x ∷ xs) none = go (picked-kept pick keeps xs none) (keeps x) refl
  where
    go : filter_map pick (filter keeps xs) ≡ filter_map pick xs → (b : Bool) → keeps x ≡ b
        → filter_map pick (cond b (x ∷ filter keeps xs) (filter keeps xs)) ≡ cons_option (pick x) (filter_map pick xs)
    go rest true e = ap (cons_option (pick x)) rest
    go rest false e = rest ∙ ap (λ o. cons_option o (filter_map pick xs)) (sym (none x e))

-- what is found of a part that keeps all that can be found
found-kept : {X Y : Type 0} (pick : X → Option Y) (test : Y → Bool) (keeps : X → Bool) (xs : List X)
    → ((x : X) (y : Y) → keeps x ≡ false → pick x ≡ Some y → test y ≡ false) → find test (filter_map pick (filter keeps xs)) ≡ find test (filter_map pick xs)
found-kept pick test keeps [] other = refl
found-kept {X} {Y} pick test keeps (x ∷ xs) other = go (found-kept pick test keeps xs other) (keeps x) refl
  where
    left_out : find test (filter_map pick (filter keeps xs)) ≡ find test (filter_map pick xs) → (o : Option Y) → pick x ≡ o → keeps x ≡ false
        → find test (filter_map pick (filter keeps xs)) ≡ find test (cons_option o (filter_map pick xs))
    left_out rest None is e = rest
    left_out rest (Some y) is e = rest ∙ sym (rw (other x y e is) refl)

    both : find test (filter_map pick (filter keeps xs)) ≡ find test (filter_map pick xs) → (o : Option Y)
        → find test (cons_option o (filter_map pick (filter keeps xs))) ≡ find test (cons_option o (filter_map pick xs))
    both rest None = rest
    both rest (Some y) = ap (λ found. cond (test y) (Some y) found) rest

    go : find test (filter_map pick (filter keeps xs)) ≡ find test (filter_map pick xs) → (b : Bool) → keeps x ≡ b
        → find test (filter_map pick (cond b (x ∷ filter keeps xs) (filter keeps xs))) ≡ find test (cons_option (pick x) (filter_map pick xs))
    go rest true e = both rest (pick x)
    go rest false e = left_out rest (pick x) refl e

-- ---- events that do not touch an hour

pub enters-elsewhere : (hour : ℕ) (e : Event) → touches hour e ≡ false → enters_in hour e ≡ false
enters-elsewhere hour (event.Entered given caller order) h = h
enters-elsewhere hour (event.EnteredBlock given caller order) h = h
enters-elsewhere hour _ h = refl

name-elsewhere : (hour : ℕ) (e : Event) → touches hour e ≡ false → name_given hour e ≡ None
name-elsewhere hour (event.Entered given caller order) h = rw h refl
name-elsewhere hour (event.EnteredBlock given caller order) h = rw h refl
name-elsewhere hour _ h = refl

not-named : (given name : OrderName) → nat_eq given.hour name.hour ≡ false → same_name given name ≡ false
not-named given name h = rw h refl

order-elsewhere : (name : OrderName) (e : Event) (order : Placed) → touches name.hour e ≡ false → placed_by e ≡ Some order → same_name order.name name ≡ false
order-elsewhere name (event.Entered given caller entering) order h is =
    let same : record { name = given; caller = caller; order = entering } ≡ order = cc in subst (λ (p : Placed). same_name p.name name ≡ false) same (not-named given name h)
order-elsewhere name _ order h is = absurd (cc)

block-elsewhere : (name : OrderName) (e : Event) (block : PlacedBlock) → touches name.hour e ≡ false → block_placed_by e ≡ Some block → same_name block.name name ≡ false
block-elsewhere name (event.EnteredBlock given caller entering) block h is =
    let same : record { name = given; caller = caller; order = entering } ≡ block = cc in subst (λ (p : PlacedBlock). same_name p.name name ≡ false) same (not-named given name h)
block-elsewhere name _ block h is = absurd (cc)

-- ---- the events near an hour

module _ (hour : ℕ) (events near : List Event) (lent : IsNear hour events near) where
  -- what is left out does not touch the hour
  untouched : (e : Event) → lent.keeps e ≡ false → touches hour e ≡ false
  untouched e out = false_from_ne_true (touches hour e) (λ own. true≢false (sym (lent.all e own) ∙ out))

  pub near-entered : entered_in near hour ≡ entered_in events hour
  near-entered =
      ap (λ es. entered_in es hour) lent.some
      ∙ fold-filter (λ said e. said + cond (enters_in hour e) 1 0) lent.keeps events
      (λ e i out said. rw (enters-elsewhere hour e (untouched e out)) (omega arith)) 0

  -- those that enter by the hour
  pub near-entries : filter (enters_in hour) near ≡ filter (enters_in hour) events
  near-entries =
      ap (filter (enters_in hour)) lent.some
      ∙ filter-filter (enters_in hour) lent.keeps events (λ e i own. lent.all e (touching e own))
    where
      touching : (e : Event) → enters_in hour e ≡ true → touches hour e ≡ true
      touching (event.Entered given caller order) own = own
      touching (event.EnteredBlock given caller order) own = own
      touching (event.Leg contract leg) own = absurd (cc)
      touching (event.BlockLeg first last leg) own = absurd (cc)
      touching (event.Granted arc first last lots) own = absurd (cc)
      touching (event.Offered arc first last lots) own = absurd (cc)
      touching (event.Halted border first last) own = absurd (cc)
      touching (event.Resumed border first last) own = absurd (cc)
      touching (event.Gated gated asked) own = absurd (cc)
      touching (event.Withdrawn given lots) own = absurd (cc)
      touching (event.Reduced given by) own = absurd (cc)

  pub near-names : filter_map (name_given hour) near ≡ filter_map (name_given hour) events
  near-names =
      ap (filter_map (name_given hour)) lent.some
      ∙ picked-kept (name_given hour) lent.keeps events (λ e out. name-elsewhere hour e (untouched e out))

-- the first of a name
pub near-placed : (events near : List Event) (name : OrderName) → IsNear name.hour events near → placed_as near name ≡ placed_as events name
near-placed events near name lent =
    ap (λ es. placed_as es name) lent.some
    ∙ found-kept placed_by (λ order. same_name order.name name) lent.keeps events
    (λ e order out is. order-elsewhere name e order (untouched name.hour events near lent e out) is)

pub near-block_placed : (events near : List Event) (name : OrderName) → IsNear name.hour events near → block_placed_as near name ≡ block_placed_as events name
near-block_placed events near name lent =
    ap (λ es. block_placed_as es name) lent.some
    ∙ found-kept block_placed_by (λ block. same_name block.name name) lent.keeps events
    (λ e block out is. block-elsewhere name e block (untouched name.hour events near lent e out) is)

-- ---- of a history

agree-kept : (setup : Setup) (hour : ℕ) (keeps : Event → Bool) (es : List Event) → ((e : Event) → touches hour e ≡ true → keeps e ≡ true) → FitAfter setup [] es
    → Agree (hour ∷ []) (filter keeps es) es
agree-kept setup hour keeps es all fit = record {
  named_a = λ e i. history-named setup es fit e (from_filter keeps e es i).0;
  named_b = history-named setup es fit;
  same = λ other i. elim i [
    | inl s ↦ subst (λ h. of_hour h (filter keeps es) ≡ of_hour h es) (sym s) (filter-filter (touches hour) keeps es (λ e j own. all e own))
    | inr j ↦ absurd j
  ];
}

-- an event at a place of those near an hour, at its place in the history
pub record IsNearAt (hour : ℕ) (events near : List Event) (place : ℕ) (e : Event) : Type 0 where
  pub there : ℕ
  pub within : there < length events
  pub is : e ≡ get_or events there e
  pub at : IsAt events there e
  pub more : take (place + 1) near ≡ and_then (take place near) e
  pub agree : Agree (hour ∷ []) (take place near) (take there events)
  pub agree_more : Agree (hour ∷ []) (and_then (take place near) e) (and_then (take there events) e)

module _ (hour : ℕ) (events near : List Event) (history : IsSomeHistory events) (lent : IsNear hour events near) where
  pub near-agree : Agree (hour ∷ []) near events
  near-agree = subst (λ es. Agree (hour ∷ []) es events) (sym lent.some) (agree-kept history.setup hour lent.keeps events lent.all history.fit)

  pub near-at : (place : ℕ) (e : Event) → place < length near → e ≡ get_or near place e → IsNearAt hour events near place e
  near-at place e within is =
      let found : StandsAt lent.keeps events place e =
      stands-at lent.keeps events place e (subst (λ es. place < length es) lent.some within) (subst (λ es. e ≡ get_or es place e) lent.some is) in
      let at : IsAt events found.there e = at_place events found.there e history found.within found.is in
      let agree : Agree (hour ∷ []) (take place near) (take found.there events) =
      subst (λ es. Agree (hour ∷ []) es (take found.there events)) (sym (ap (take place) lent.some ∙ found.before))
      (agree-kept at.setup hour lent.keeps (take found.there events) lent.all at.fit) in
      record {
        there = found.there;
        within = found.within;
        is = found.is;
        at = at;
        more = take_more near place e within ∙ ap (λ x. take place near ++ x ∷ []) (sym is);
        agree = agree;
        agree_more = agree-more (hour ∷ []) (take place near) (take found.there events) e agree
            (history-named at.setup (and_then (take found.there events) e) at.fit_more e (IsIn-right e (take found.there events) (e ∷ []) (inl refl)));
      }

  -- the blocks that enter by the hour
  pub near-blocks : filter_map (block_given hour) near ≡ filter_map (block_given hour) events
  near-blocks =
      kept-filter block_placed_by (is_block_of hour) near
      ∙ blocks_placed-agree (hour ∷ []) near events near-agree hour (inl refl)
      ∙ sym (kept-filter block_placed_by (is_block_of hour) events)

-- what is left of one order or block
pub near-left : (events near : List Event) (name : OrderName) → IsSomeHistory events → IsNear name.hour events near → left near name ≡ left events name
near-left events near name history lent = left-agree (name.hour ∷ []) near events (near-agree name.hour events near history lent) name (inl refl)

pub near-left-at : (events near : List Event) (place : ℕ) (e : Event) (name : OrderName) → IsSomeHistory events → IsNear name.hour events near → place < length near
    → e ≡ get_or near place e → LeftIs (take place near) e name × (left (take (place + 1) near) name ≡ left (and_then (take place near) e) name)
near-left-at events near place e name history lent within is =
    let here = near-at name.hour events near history lent place e within is in
    let there = left-at events here.there e name history here.within here.is in
    let before = left-agree (name.hour ∷ []) (take place near) (take here.there events) here.agree name (inl refl) in
    let after = left-agree (name.hour ∷ []) (and_then (take place near) e) (and_then (take here.there events) e) here.agree_more name (inl refl) in (
      record {
        is = omega (arith, before, after, there.0.is);
        has = omega (arith, before, there.0.has);
        most = omega (arith, before, there.0.most);
      },
      ap (λ es. left es name) here.more,
    )

-- ---- tallies

agree-back : (hour : ℕ) (a b : List Event) → Agree (hour ∷ []) a b → Agree (hour ∷ []) b a
agree-back hour a b agree = record { named_a = agree.named_b; named_b = agree.named_a; same = λ other i. sym (agree.same other i) }

pub tallies-agree : (hour : ℕ) (a b : List Event) (tallies : List Tally) → Agree (hour ∷ []) a b → AreTallies b hour tallies → AreTallies a hour tallies
tallies-agree hour a b tallies agree tell number d within = tells-agree a b hour number (get_or tallies number d) agree (tell number d within)

-- what no event has entered
nothing-tells : (setup : Setup) (events : List Event) → FitAfter setup [] events → (name : OrderName) → times_entered events name ≡ 0 → Tells events name nothing
nothing-tells setup events fit name none =
    let all = left-filled-taken_off setup events fit name in
    let no_lots = entered-none name events none in
    record {
      filled = omega (arith, all, no_lots);
      left = omega (arith, all, no_lots);
      order_moment = λ order i s. absurd (no_order order i s);
      order_kind = λ order i s. absurd (no_order order i s);
      block_moment = λ block i s. absurd (no_block block i s);
    }
  where
    no_order : (order : Placed) → IsIn order (placed events) → order.name ≡ name → ⊥
    no_order order i s =
        let x = from_filter_map placed_by order events i in
        let some = subst (λ n. 1 ≤ times_entered events n) s (times-some order.name x.0 events x.1 (enters-placed order x.0 x.2)) in
        omega (arith, some, none)

    no_block : (block : PlacedBlock) → IsIn block (blocks_placed events) → block.name ≡ name → ⊥
    no_block block i s =
        let x = from_filter_map block_placed_by block events i in
        let some = subst (λ n. 1 ≤ times_entered events n) s (times-some block.name x.0 events x.1 (enters-block_placed block x.0 x.2)) in
        omega (arith, some, none)

tallies-next : (setup : Setup) (events : List Event) → FitAfter setup [] events → (hour : ℕ) (tallies : List Tally) → length tallies ≡ entered_in events hour + 1
    → AreTallies events hour tallies → AreTallies events hour (tallies ++ nothing ∷ [])
tallies-next setup events fit hour tallies size tell number d within =
    let long = length_push tallies nothing in
    elim (cases_lt number (length tallies)) [
      | inl less ↦ subst (Tells events (name_in hour number)) (sym (get_or_append_left tallies (nothing ∷ []) d number less)) (tell number d less)
      | inr high ↦
          let last : length tallies ≡ number = omega (arith, long, high, within) in
          subst (Tells events (name_in hour number)) (sym (get_or_push tallies nothing d number last))
          (nothing-tells setup events fit (name_in hour number) (is_new (sym last)))
    ]
  where
    is_new : number ≡ length tallies → times_entered events (name_in hour number) ≡ 0
    is_new last =
        let most = (names-once setup events fit).numbered (name_in hour number) in
        let at : ¬ (1 ≤ times_entered events (name_in hour number)) = λ some. (let low = most some in absurd (omega (arith, low, last, size))) in
        omega (arith, at)

-- those of all events near the hour
pub near-tallies : (hour : ℕ) (events near : List Event) → IsSomeHistory events → IsNear hour events near → (tallies : List Tally) → AreTallies near hour tallies
    → AreTallies events hour tallies
near-tallies hour events near history lent tallies tell =
    tallies-agree hour events near tallies (agree-back hour near events (near-agree hour events near history lent)) tell

module _ (hour : ℕ) (events near : List Event) (place : ℕ) (e : Event) (here : IsNearAt hour events near place e) where
  tallies-there : (tallies : List Tally) → AreTallies (take place near) hour tallies → AreTallies (take here.there events) hour tallies
  tallies-there tallies tell =
      tallies-agree hour (take here.there events) (take place near) tallies (agree-back hour (take place near) (take here.there events) here.agree) tell

  tallies-back : (tallies : List Tally) → AreTallies (and_then (take here.there events) e) hour tallies → AreTallies (take (place + 1) near) hour tallies
  tallies-back tallies tell =
      subst (λ es. AreTallies es hour tallies) (sym here.more)
      (tallies-agree hour (and_then (take place near) e) (and_then (take here.there events) e) tallies here.agree_more tell)

  -- as many entered
  as-many : entered_in (take place near) hour ≡ entered_in (take here.there events) hour
  as-many =
      let same = ap (λ (n : OrderName). n.number) (next_name-agree (hour ∷ []) (take place near) (take here.there events) here.agree hour (inl refl)) in omega (arith, same)

  as-many-more : entered_in (take (place + 1) near) hour ≡ entered_in (and_then (take here.there events) e) hour
  as-many-more =
      let same = ap (λ (n : OrderName). n.number)
      (next_name-agree (hour ∷ []) (and_then (take place near) e) (and_then (take here.there events) e) here.agree_more hour (inl refl)) in
      ap (λ es. entered_in es hour) here.more ∙ omega (arith, same)

  -- a new place says what the events so far come to of the next number
  pub near-placed_more : (tallies : List Tally) → length tallies ≡ entered_in (take place near) hour + 1 → AreTallies (take place near) hour tallies
      → AreTallies (take place near) hour (with_place hour e tallies)
  near-placed_more tallies size tell = go (enters_in hour e)
    where
      go : (b : Bool) → AreTallies (take place near) hour (if b then tallies ++ nothing ∷ [] else tallies)
      go false = tell
      go true =
          tallies-agree hour (take place near) (take here.there events) (tallies ++ nothing ∷ []) here.agree
          (tallies-next here.at.setup (take here.there events) here.at.fit hour tallies (size ∙ ap (λ n. n + 1) as-many) (tallies-there tallies tell))

  pub near-size : (tallies : List Tally) → length tallies ≡ entered_in (take place near) hour + 1
      → length (with_place hour e tallies) ≡ entered_in (take (place + 1) near) hour + 1
  near-size tallies size =
      go (enters_in hour e) (ap (λ es. entered_in es hour) here.more ∙ sum_by_push (λ x. cond (enters_in hour x) 1 0) (take place near) e)
    where
      go : (b : Bool) → entered_in (take (place + 1) near) hour ≡ entered_in (take place near) hour + cond b 1 0
          → length (if b then tallies ++ nothing ∷ [] else tallies) ≡ entered_in (take (place + 1) near) hour + 1
      go true more = let long = length_push tallies nothing in omega (arith, long, size, more)
      go false more = omega (arith, size, more)

  -- what does not touch the hour needs none
  pub near-size_same : (tallies : List Tally) → touches hour e ≡ false → length tallies ≡ entered_in (take place near) hour + 1
      → length tallies ≡ entered_in (take (place + 1) near) hour + 1
  near-size_same tallies touch size =
      go (enters_in hour e) (enters-elsewhere hour e touch)
      (ap (λ es. entered_in es hour) here.more ∙ sum_by_push (λ x. cond (enters_in hour x) 1 0) (take place near) e)
    where
      go : (b : Bool) → b ≡ false → entered_in (take (place + 1) near) hour ≡ entered_in (take place near) hour + cond b 1 0
          → length tallies ≡ entered_in (take (place + 1) near) hour + 1
      go true none more = absurd (true≢false none)
      go false none more = omega (arith, size, more)

  -- the event can be taken in
  pub near-can : (tallies : List Tally) → AreTallies (take place near) hour tallies → length tallies ≡ entered_in (take (place + 1) near) hour + 1 → CanTakeIn hour e tallies
  near-can tallies tell size =
      let same = as-many-more in
      can-take_in here.at.setup (take here.there events) e hour tallies (comes-at events here.there e here.at) (tallies-there tallies tell) (omega (arith, same, size))

  -- and is taken in, where it touches the hour
  pub near-taken : (moment at : ℕ) (old new : List Tally) → touches hour e ≡ true → moment ≡ length (of_hour hour (take place near)) + 1 → length new ≡ length old
      → ((number : ℕ) (d : Tally) → number < length old → get_or new number d ≡ after_event (record { hour = hour; number = number }) moment at e (get_or old number d))
      → AreTallies (take place near) hour old → AreTallies (take (place + 1) near) hour new
  near-taken moment at old new touch is size changes tell =
      tallies-back new (
      tallies-more here.at.setup (take here.there events) e hour moment at old new (comes-at events here.there e here.at) touch
      (is ∙ ap (λ es. length es + 1) (here.agree.same hour (inl refl))) size changes (tallies-there old tell))

  -- and passed over, where it does not
  pub near-passed : (tallies : List Tally) → touches hour e ≡ false → AreTallies (take place near) hour tallies → AreTallies (take (place + 1) near) hour tallies
  near-passed tallies touch tell =
      tallies-back tallies (tallies-same here.at.setup (take here.there events) e hour tallies (comes-at events here.there e here.at) touch (tallies-there tallies tell))

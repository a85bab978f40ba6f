-- Histories that agree on some hours say the same of these hours.
use Rattle.std.proofs.Common.{◌≡◌, ◌≢◌, ◌∙◌, ℕ, ◌+◌, ◌≤◌, ◌&&◌, Bool, true, false, cond, List, [], ◌∷◌, ◌++◌, filter, fold, count_by, Some, None, unwrap_or, nat_eq, nat_le, nat_lt, eqb-true, eq-eqb, refl, sym, ap, subst, if◌then◌else◌, arith}
use Rattle.std.proofs.Math.Path.{fun_ext}
use Rattle.std.proofs.lemmas.Bool.{le-leb, true≢false, and_parts, and_from}
use Rattle.std.proofs.lemmas.List.Elements.{filter-append}
use Rattle.std.specs.List.{filter_map}
use Rattle.order_kinds.specs.declared.contract.Quarter.{Quarter}
use Rattle.order_kinds.specs.declared.order.OrderName.{OrderName}
use Rattle.order_kinds.specs.declared.phase.Phase.TheVariants as phase
use Rattle.order_kinds.specs.Period.{block_has, contract_has, is_not_after, is_quarter, is_within, range_has}
use Rattle.order_kinds.specs.Contract.{covers}
use Rattle.order_kinds.specs.Same.{same_name}
use Rattle.zone_graph.specs.declared.route.Arc.{Arc}
use Rattle.zone_graph.specs.Pour.{lots_if, opposite_arc, same_arc, uses}
use Rattle.zone_graph.specs.Route.{IsIn}
use Rattle.market_model.specs.declared.event.Event.{Event}
use Rattle.market_model.specs.declared.event.Event.TheVariants as event
use Rattle.market_model.specs.declared.event.Leg.{Leg}
use Rattle.market_model.specs.Capacity.{allocated, allocated_by, offered, offered_by}
use Rattle.market_model.specs.History.{and_then, enters_in, of_hour, touches}
use Rattle.market_model.specs.Orders.{Placed, PlacedBlock, block_placed_by, blocks_placed, entered, entered_by, filled, filled_by, is_open, left, names, next_name, placed, placed_by, taken_off, taken_off_by}
use Rattle.market_model.specs.Room.{halt_by, is_halted, least, phase_by, phase_of, quarter_room, room}
use Rattle.laws_of_market.proofs.Tests.{same_name-eq}
use Rattle.laws_of_market.proofs.Uses.{not_after-hours}
use Rattle.laws_of_market.proofs.NamedByHour.{AreNamedByHour, IsNamedByHour, named-append, named-more}
use Rattle.laws_of_market.proofs.Restrict.{fold-filter, map-same, picked-filter}

-- two histories agree on some hours: their events of each of these are the same
pub record Agree (hours : List ℕ) (a b : List Event) : Type 0 where
  pub named_a : AreNamedByHour a
  pub named_b : AreNamedByHour b
  pub same : (hour : ℕ) → IsIn hour hours → of_hour hour a ≡ of_hour hour b

-- and go on to with the same event
pub agree-more : (hours : List ℕ) (a b : List Event) (e : Event) → Agree hours a b → IsNamedByHour e → Agree hours (and_then a e) (and_then b e)
agree-more hours a b e agree own = record {
  named_a = named-more a e agree.named_a own;
  named_b = named-more b e agree.named_b own;
  same = λ hour h. rw (filter-append (touches hour) a (e ∷ []), filter-append (touches hour) b (e ∷ []), agree.same hour h) refl;
}

-- and with the same events
pub agree-append : (hours : List ℕ) (a b more : List Event) → Agree hours a b → AreNamedByHour more → Agree hours (a ++ more) (b ++ more)
agree-append hours a b more agree own = record {
  named_a = named-append a more agree.named_a own;
  named_b = named-append b more agree.named_b own;
  same = λ hour h. rw (filter-append (touches hour) a more, filter-append (touches hour) b more, agree.same hour h) refl;
}

-- ---- which events matter for an hour

-- a test of numbers that differ
other-hour : (a b : ℕ) → nat_eq a b ≡ false → a ≢ b
other-hour a b e same = absurd (true≢false (sym (eq-eqb a b same) ∙ e))

not_named : (a b : OrderName) → a.hour ≢ b.hour → same_name a b ≡ false
not_named a b apart = go (same_name a b) refl
  where
    go : (t : Bool) → same_name a b ≡ t → t ≡ false
    go true e = absurd (apart (ap (λ (n : OrderName). n.hour) (same_name-eq a b e)))
    go false e = refl

within-first : (first last : ℕ) → first ≤ last → is_within first last first ≡ true
within-first first last order = and_from (nat_le first first) (nat_le first last) (le-leb first first (omega arith)) (le-leb first last order)

-- what does not touch an hour enters, fills and takes off nothing of its names
entered-elsewhere : (hour : ℕ) (name : OrderName) (e : Event) → name.hour ≡ hour → touches hour e ≡ false → entered_by name e ≡ 0
entered-elsewhere hour name (event.Entered given caller order) is h =
    ap (λ b. lots_if b order.quantity.0) (not_named given name (λ same. other-hour given.hour hour h (same ∙ is)))
entered-elsewhere hour name (event.EnteredBlock given caller order) is h =
    ap (λ b. lots_if b order.quantity.0) (not_named given name (λ same. other-hour given.hour hour h (same ∙ is)))
entered-elsewhere hour name _ is h = refl

filled-elsewhere : (hour : ℕ) (name : OrderName) (e : Event) → name.hour ≡ hour → IsNamedByHour e → touches hour e ≡ false → filled_by name e ≡ 0
filled-elsewhere hour name (event.Leg contract leg) is named h =
    let apart : contract.hour ≢ hour = other-hour contract.hour hour h in
    ap (λ b. lots_if b leg.lots) (neither leg name (not_named leg.taker name (λ same. apart (sym named.0 ∙ same ∙ is)))
    (not_named leg.maker name (λ same. apart (sym named.1 ∙ same ∙ is))))
  where
    neither : (leg : Leg) (name : OrderName) → same_name leg.taker name ≡ false → same_name leg.maker name ≡ false → names leg name ≡ false
    neither leg name t m = rw (t, m) refl
filled-elsewhere hour name (event.BlockLeg first last leg) is named h =
    let apart : first ≢ hour = λ same. absurd (true≢false (sym (subst (λ k. is_within first last k ≡ true) same (within-first first last named.2)) ∙ h)) in
    ap (λ b. lots_if b leg.lots) (neither leg name (not_named leg.taker name (λ same. apart (sym named.0 ∙ same ∙ is)))
    (not_named leg.maker name (λ same. apart (sym named.1 ∙ same ∙ is))))
  where
    neither : (leg : Leg) (name : OrderName) → same_name leg.taker name ≡ false → same_name leg.maker name ≡ false → names leg name ≡ false
    neither leg name t m = rw (t, m) refl
filled-elsewhere hour name _ is named h = refl

taken_off-elsewhere : (hour : ℕ) (name : OrderName) (e : Event) → name.hour ≡ hour → touches hour e ≡ false → taken_off_by name e ≡ 0
taken_off-elsewhere hour name (event.Withdrawn given lots) is h = ap (λ b. lots_if b lots) (not_named given name (λ same. other-hour given.hour hour h (same ∙ is)))
taken_off-elsewhere hour name (event.Reduced given by) is h = ap (λ b. lots_if b by) (not_named given name (λ same. other-hour given.hour hour h (same ∙ is)))
taken_off-elsewhere hour name _ is h = refl

-- a quarter of a range is of an hour of it
range-within : (first last quarter : Quarter) → range_has first last quarter ≡ true → is_within first.hour last.hour quarter.hour ≡ true
range-within first last quarter h =
    let both = and_parts (is_quarter quarter && is_not_after first quarter) (is_not_after quarter last) h in
    let front = and_parts (is_quarter quarter) (is_not_after first quarter) both.0 in
    and_from (nat_le first.hour quarter.hour) (nat_le quarter.hour last.hour) (le-leb first.hour quarter.hour (not_after-hours first quarter front.1))
    (le-leb quarter.hour last.hour (not_after-hours quarter last both.1))

no_lots : (b : Bool) (lots : ℕ) → (b ≡ true → ⊥) → lots_if b lots ≡ 0
no_lots true lots h = absurd (h refl)
no_lots false lots h = refl

allocated-elsewhere : (hour : ℕ) (quarter : Quarter) (arc : Arc) (e : Event) → quarter.hour ≡ hour → touches hour e ≡ false → allocated_by quarter arc e ≡ 0
allocated-elsewhere hour quarter arc (event.Leg contract leg) is h = no_lots (contract_has contract quarter && uses leg.route arc) leg.lots (λ k.
    let both = and_parts (contract_has contract quarter) (uses leg.route arc) k in
    let here = and_parts (nat_eq contract.hour quarter.hour) (covers contract.part quarter.number) both.0 in
    other-hour contract.hour hour h (eqb-true contract.hour quarter.hour here.0 ∙ is))
allocated-elsewhere hour quarter arc (event.BlockLeg first last leg) is h = no_lots (block_has first last quarter && uses leg.route arc) leg.lots (λ k.
    let both = and_parts (block_has first last quarter) (uses leg.route arc) k in
    let here = and_parts (is_within first last quarter.hour) (is_quarter quarter) both.0 in
    true≢false (sym (subst (λ t. is_within first last t ≡ true) is here.0) ∙ h))
allocated-elsewhere hour quarter arc (event.Granted given first last lots) is h = no_lots (range_has first last quarter && same_arc given arc) lots (λ k.
    let both = and_parts (range_has first last quarter) (same_arc given arc) k in
    true≢false (sym (subst (λ t. is_within first.hour last.hour t ≡ true) is (range-within first last quarter both.0)) ∙ h))
allocated-elsewhere hour quarter arc _ is h = refl

-- what offers, gates and halts say of an hour is said by events that touch it
offered-elsewhere : (hour : ℕ) (quarter : Quarter) (arc : Arc) (e : Event) → quarter.hour ≡ hour → touches hour e ≡ false → offered_by quarter arc e ≡ None
offered-elsewhere hour quarter arc (event.Offered given first last lots) is h = go (range_has first last quarter && same_arc given arc) refl
  where
    go : (b : Bool) → (range_has first last quarter && same_arc given arc) ≡ b → (if b then Some lots else None) ≡ None
    go true k =
        let both = and_parts (range_has first last quarter) (same_arc given arc) k in
        absurd (true≢false (sym (subst (λ t. is_within first.hour last.hour t ≡ true) is (range-within first last quarter both.0)) ∙ h))
    go false k = refl
offered-elsewhere hour quarter arc _ is h = refl

phase-elsewhere : (hour : ℕ) (e : Event) → touches hour e ≡ false → phase_by hour e ≡ None
phase-elsewhere hour (event.Gated gated asked) h = rw h refl
phase-elsewhere hour _ h = refl

halt_test : (a b : Bool) (said : Bool) → b ≡ false → (if a && b then Some said else None) ≡ None
halt_test true b said h = rw h refl
halt_test false b said h = refl

halt-elsewhere : (border hour : ℕ) (e : Event) → touches hour e ≡ false → halt_by border hour e ≡ None
halt-elsewhere border hour (event.Halted halted first last) h = halt_test (nat_eq halted border) (is_within first last hour) true h
halt-elsewhere border hour (event.Resumed resumed first last) h = halt_test (nat_eq resumed border) (is_within first last hour) false h
halt-elsewhere border hour _ h = refl

enters-elsewhere : (hour : ℕ) (e : Event) → touches hour e ≡ false → enters_in hour e ≡ false
enters-elsewhere hour (event.Entered given caller order) h = h
enters-elsewhere hour (event.EnteredBlock given caller order) h = h
enters-elsewhere hour _ h = refl

-- ---- so histories that agree on an hour say the same

-- a fold whose steps depend on the events of an hour alone
agree-fold : {B : Type 0} (hours : List ℕ) (a b : List Event) (hour : ℕ) → Agree hours a b → IsIn hour hours → (f : B → Event → B) (start : B)
    → ((e : Event) → IsNamedByHour e → touches hour e ≡ false → (said : B) → f said e ≡ said) → fold f start a ≡ fold f start b
agree-fold hours a b hour agree h f start elsewhere =
    sym (fold-filter f (touches hour) a (λ e i t said. elsewhere e (agree.named_a e i) t said) start)
    ∙ ap (λ xs. fold f start xs) (agree.same hour h)
    ∙ fold-filter f (touches hour) b (λ e i t said. elsewhere e (agree.named_b e i) t said) start

module _ (hours : List ℕ) (a b : List Event) (agree : Agree hours a b) where
  pub entered-agree : (name : OrderName) → IsIn name.hour hours → entered a name ≡ entered b name
  entered-agree name h = agree-fold hours a b name.hour agree h (λ said e. said + entered_by name e) 0
      (λ e own t said. let none = entered-elsewhere name.hour name e refl t in omega arith)

  pub filled-agree : (name : OrderName) → IsIn name.hour hours → filled a name ≡ filled b name
  filled-agree name h = agree-fold hours a b name.hour agree h (λ said e. said + filled_by name e) 0
      (λ e own t said. let none = filled-elsewhere name.hour name e refl own t in omega arith)

  pub taken_off-agree : (name : OrderName) → IsIn name.hour hours → taken_off a name ≡ taken_off b name
  taken_off-agree name h = agree-fold hours a b name.hour agree h (λ said e. said + taken_off_by name e) 0
      (λ e own t said. let none = taken_off-elsewhere name.hour name e refl t in omega arith)

  pub left-agree : (name : OrderName) → IsIn name.hour hours → left a name ≡ left b name
  left-agree name h = rw (entered-agree name h, filled-agree name h, taken_off-agree name h) refl

  pub is_open-agree : (name : OrderName) → IsIn name.hour hours → is_open a name ≡ is_open b name
  is_open-agree name h = ap (nat_lt 0) (left-agree name h)

  pub next_name-agree : (hour : ℕ) → IsIn hour hours → next_name a hour ≡ next_name b hour
  next_name-agree hour h =
      let count : count_by (enters_in hour) a ≡ count_by (enters_in hour) b =
      agree-fold hours a b hour agree h (λ said e. said + cond (enters_in hour e) 1 0) 0
      (λ e own t said. rw (enters-elsewhere hour e t) (omega arith)) in
      λ i. record { hour = hour; number = count i + 1 }

  pub allocated-agree : (quarter : Quarter) (arc : Arc) → IsIn quarter.hour hours → allocated a quarter arc ≡ allocated b quarter arc
  allocated-agree quarter arc h = agree-fold hours a b quarter.hour agree h (λ said e. said + allocated_by quarter arc e) 0
      (λ e own t said. let none = allocated-elsewhere quarter.hour quarter arc e refl t in omega arith)

  pub offered-agree : (quarter : Quarter) (arc : Arc) → IsIn quarter.hour hours → offered a quarter arc ≡ offered b quarter arc
  offered-agree quarter arc h = agree-fold hours a b quarter.hour agree h (λ said e. unwrap_or (offered_by quarter arc e) said) 0
      (λ e own t said. ap (λ o. unwrap_or o said) (offered-elsewhere quarter.hour quarter arc e refl t))

  pub phase-agree : (hour : ℕ) → IsIn hour hours → phase_of a hour ≡ phase_of b hour
  phase-agree hour h = agree-fold hours a b hour agree h (λ said e. unwrap_or (phase_by hour e) said) phase.Open
      (λ e own t said. ap (λ o. unwrap_or o said) (phase-elsewhere hour e t))

  pub halted-agree : (border hour : ℕ) → IsIn hour hours → is_halted a border hour ≡ is_halted b border hour
  halted-agree border hour h = agree-fold hours a b hour agree h (λ said e. unwrap_or (halt_by border hour e) said) false
      (λ e own t said. ap (λ o. unwrap_or o said) (halt-elsewhere border hour e t))

  pub quarter_room-agree : (arc : Arc) (quarter : Quarter) → IsIn quarter.hour hours → quarter_room a arc quarter ≡ quarter_room b arc quarter
  quarter_room-agree arc quarter h =
      rw (
        phase-agree quarter.hour h,
        halted-agree arc.border quarter.hour h,
        offered-agree quarter arc h,
        allocated-agree quarter arc h,
        allocated-agree quarter (opposite_arc arc) h,
      ) refl

  -- the rooms over quarters of hours on which they agree
  pub room-agree : (quarters : List Quarter) → ((quarter : Quarter) → IsIn quarter quarters → IsIn quarter.hour hours) → room a quarters ≡ room b quarters
  room-agree quarters within = fun_ext (λ (arc : Arc).
      ap least (map-same (quarter_room a arc) (quarter_room b arc) quarters (λ quarter i. quarter_room-agree arc quarter (within quarter i))))

  -- ---- orders and blocks

  order_elsewhere : (hour : ℕ) (e : Event) (order : Placed) → touches hour e ≡ false → placed_by e ≡ Some order → nat_eq order.name.hour hour ≡ false
  order_elsewhere hour (event.Entered given caller order) found t is =
      let same : record { name = given; caller = caller; order = order } ≡ found = cc in subst (λ (p : Placed). nat_eq p.name.hour hour ≡ false) same t
  order_elsewhere hour _ found t is = absurd (cc)

  block_elsewhere : (hour : ℕ) (e : Event) (block : PlacedBlock) → touches hour e ≡ false → block_placed_by e ≡ Some block → nat_eq block.name.hour hour ≡ false
  block_elsewhere hour (event.EnteredBlock given caller order) found t is =
      let same : record { name = given; caller = caller; order = order } ≡ found = cc in subst (λ (p : PlacedBlock). nat_eq p.name.hour hour ≡ false) same t
  block_elsewhere hour _ found t is = absurd (cc)

  -- the orders, and the blocks, that are named by an hour
  pub placed-agree : (hour : ℕ) → IsIn hour hours
      → filter (λ (order : Placed). nat_eq order.name.hour hour) (placed a) ≡ filter (λ order. nat_eq order.name.hour hour) (placed b)
  placed-agree hour h =
      let of_a = picked-filter placed_by (λ (order : Placed). nat_eq order.name.hour hour) (touches hour) a (λ e order i t is. order_elsewhere hour e order t is) in
      let of_b = picked-filter placed_by (λ (order : Placed). nat_eq order.name.hour hour) (touches hour) b (λ e order i t is. order_elsewhere hour e order t is) in
      sym of_a ∙ ap (λ xs. filter (λ (order : Placed). nat_eq order.name.hour hour) (filter_map placed_by xs)) (agree.same hour h) ∙ of_b

  pub blocks_placed-agree : (hour : ℕ) → IsIn hour hours
      → filter (λ (block : PlacedBlock). nat_eq block.name.hour hour) (blocks_placed a) ≡ filter (λ block. nat_eq block.name.hour hour) (blocks_placed b)
  blocks_placed-agree hour h =
      let of_a = picked-filter block_placed_by (λ (block : PlacedBlock). nat_eq block.name.hour hour) (touches hour) a (λ e block i t is. block_elsewhere hour e block t is) in
      let of_b = picked-filter block_placed_by (λ (block : PlacedBlock). nat_eq block.name.hour hour) (touches hour) b (λ e block i t is. block_elsewhere hour e block t is) in
      sym of_a ∙ ap (λ xs. filter (λ (block : PlacedBlock). nat_eq block.name.hour hour) (filter_map block_placed_by xs)) (agree.same hour h) ∙ of_b

-- One name is one order or one block, and what was entered of it is its quantity.
use Rattle.std.proofs.Common.{◌≡◌, ◌≢◌, ◌∙◌, inl, inr, ℕ, ◌+◌, ◌≤◌, Bool, true, false, cond, List, [], ◌∷◌, Some, refl, sym, ap, subst, arith}
use Rattle.std.proofs.lemmas.List.Sums.{sum_by-cons}
use Rattle.order_kinds.specs.declared.order.OrderName.{OrderName}
use Rattle.zone_graph.specs.Pour.{lots_if}
use Rattle.zone_graph.specs.Route.{IsIn}
use Rattle.market_model.specs.declared.event.Event.{Event}
use Rattle.market_model.specs.declared.event.Event.TheVariants as event
use Rattle.market_model.specs.Orders.{Placed, PlacedBlock, block_placed_by, blocks_placed, entered, entered_by, placed, placed_by}
use Rattle.laws_of_market.proofs.Members.{from_filter_map}
use Rattle.laws_of_market.proofs.Names.{NamesOnce, enters_as, times_entered}
use Rattle.laws_of_market.proofs.Tests.{same_name-refl}

pub times-cons : (event : Event) (events : List Event) (name : OrderName)
    → times_entered (event ∷ events) name ≡ cond (enters_as name event) 1 0 + times_entered events name
times-cons event events name = sum_by-cons (λ e. cond (enters_as name e) 1 0) event events

entered-cons : (event : Event) (events : List Event) (name : OrderName)
    → entered (event ∷ events) name ≡ entered_by name event + entered events name
entered-cons event events name = sum_by-cons (entered_by name) event events

-- an event that enters a name counts
pub times-some : (name : OrderName) (a : Event) (events : List Event) → IsIn a events → enters_as name a ≡ true → 1 ≤ times_entered events name
times-some name a [] h e = absurd h
times-some name a (event ∷ events) h e = rw (times-cons event events name) (elim h [
  | inl s ↦ rw (sym (ap (enters_as name) s) ∙ e) (omega arith)
  | inr i ↦ let some = times-some name a events i e in omega arith
])

-- of two events that enter one name each is the other
pub entered-once : (name : OrderName) (a b : Event) (events : List Event) → times_entered events name ≤ 1
    → IsIn a events → IsIn b events → enters_as name a ≡ true → enters_as name b ≡ true → a ≡ b
entered-once name a b [] once h k p q = absurd h
entered-once name a b (event ∷ events) once h k p q =
    let counted = rw (times-cons event events name) at once in
    elim h [
      | inl s ↦ elim k [
        | inl t ↦ s ∙ sym t
        | inr j ↦ let two = rw (sym (ap (enters_as name) s) ∙ p) at counted in
            let some = times-some name b events j q in absurd (omega arith)
      ]
      | inr i ↦ elim k [
        | inl t ↦ let two = rw (sym (ap (enters_as name) t) ∙ q) at counted in
            let some = times-some name a events i p in absurd (omega arith)
        | inr j ↦ entered-once name a b events (omega arith) i j p q
      ]
    ]

-- an event that does not enter a name enters nothing of it
entered_by-other : (name : OrderName) (e : Event) → enters_as name e ≡ false → entered_by name e ≡ 0
entered_by-other name (event.Entered given caller order) h = rw h refl
entered_by-other name (event.EnteredBlock given caller order) h = rw h refl
entered_by-other name _ h = refl

pub entered-none : (name : OrderName) (events : List Event) → times_entered events name ≡ 0 → entered events name ≡ 0
entered-none name [] none = refl
entered-none name (event ∷ events) none =
    let counted = rw (times-cons event events name) at none in go (enters_as name event) refl counted (entered-none name events)
  where
    go : (b : Bool) → enters_as name event ≡ b → cond (enters_as name event) 1 0 + times_entered events name ≡ 0
        → (times_entered events name ≡ 0 → entered events name ≡ 0) → entered (event ∷ events) name ≡ 0
    go true e counted later = let one = rw e at counted in absurd (omega arith)
    go false e counted later =
        let nothing = rw e at counted in
        let rest : entered events name ≡ 0 = later (omega arith) in
        rw (entered-cons event events name, entered_by-other name event e, rest) refl

-- what was entered of a name is what the event entered that entered it
pub entered-is : (name : OrderName) (a : Event) (events : List Event) → times_entered events name ≤ 1
    → IsIn a events → enters_as name a ≡ true → entered events name ≡ entered_by name a
entered-is name a [] once h e = absurd h
entered-is name a (event ∷ events) once h e =
    let counted = rw (times-cons event events name) at once in
    elim h [
      | inl s ↦ let one = rw (sym (ap (enters_as name) s) ∙ e) at counted in
          let none : entered events name ≡ 0 = entered-none name events (omega arith) in
          let here : entered_by name event ≡ entered_by name a = ap (entered_by name) (sym s) in
          rw (entered-cons event events name, none) (omega arith)
      | inr i ↦ let some = times-some name a events i e in
          let other : enters_as name event ≡ false = not_too (enters_as name event) (times_entered events name) counted some in
          let rest : entered events name ≡ entered_by name a = entered-is name a events (omega arith) i e in
          rw (entered-cons event events name, entered_by-other name event other) (omega arith)
    ]
  where
    not_too : (b : Bool) (n : ℕ) → cond b 1 0 + n ≤ 1 → 1 ≤ n → b ≡ false
    not_too true n h k = absurd (omega arith)
    not_too false n h k = refl

-- ---- orders and blocks

-- an order and a block come from the events that enter them
pub order-event : (order : Placed) (e : Event) → placed_by e ≡ Some order → e ≡ event.Entered order.name order.caller order.order
order-event order (event.Entered name caller entering) h =
    let same : record { name = name; caller = caller; order = entering } ≡ order = cc in ap (λ (o : Placed). event.Entered o.name o.caller o.order) same
order-event order _ h = absurd (cc)

pub block-event : (block : PlacedBlock) (e : Event) → block_placed_by e ≡ Some block → e ≡ event.EnteredBlock block.name block.caller block.order
block-event block (event.EnteredBlock name caller entering) h =
    let same : record { name = name; caller = caller; order = entering } ≡ block = cc in ap (λ (b : PlacedBlock). event.EnteredBlock b.name b.caller b.order) same
block-event block _ h = absurd (cc)

pub enters-placed : (order : Placed) (e : Event) → placed_by e ≡ Some order → enters_as order.name e ≡ true
enters-placed order e h = ap (enters_as order.name) (order-event order e h) ∙ same_name-refl order.name

pub enters-block_placed : (block : PlacedBlock) (e : Event) → block_placed_by e ≡ Some block → enters_as block.name e ≡ true
enters-block_placed block e h = ap (enters_as block.name) (block-event block e h) ∙ same_name-refl block.name

-- no event enters both an order and a block
not_both : (order : Placed) (block : PlacedBlock) (e : Event) → placed_by e ≡ Some order → block_placed_by e ≡ Some block → ⊥
not_both order block e h k =
    let one : event.Entered order.name order.caller order.order ≡ event.EnteredBlock block.name block.caller block.order = sym (order-event order e h) ∙ block-event block e k in cc

module _ (events : List Event) (names : NamesOnce events) where
  -- two orders of one name are one
  pub one_order : (a b : Placed) → IsIn a (placed events) → IsIn b (placed events) → a.name ≡ b.name → a ≡ b
  one_order a b h k same =
      let x = from_filter_map placed_by a events h in
      let y = from_filter_map placed_by b events k in
      let x_enters = enters-placed a x.0 x.2 in
      let y_enters = subst (λ n. enters_as n y.0 ≡ true) (sym same) (enters-placed b y.0 y.2) in
      let one : x.0 ≡ y.0 = entered-once a.name x.0 y.0 events (names.once a.name) x.1 y.1 x_enters y_enters in
      let is : Some a ≡ Some b = sym x.2 ∙ ap placed_by one ∙ y.2 in cc

  -- two blocks of one name are one
  pub one_block : (a b : PlacedBlock) → IsIn a (blocks_placed events) → IsIn b (blocks_placed events) → a.name ≡ b.name → a ≡ b
  one_block a b h k same =
      let x = from_filter_map block_placed_by a events h in
      let y = from_filter_map block_placed_by b events k in
      let x_enters = enters-block_placed a x.0 x.2 in
      let y_enters = subst (λ n. enters_as n y.0 ≡ true) (sym same) (enters-block_placed b y.0 y.2) in
      let one : x.0 ≡ y.0 = entered-once a.name x.0 y.0 events (names.once a.name) x.1 y.1 x_enters y_enters in
      let is : Some a ≡ Some b = sym x.2 ∙ ap block_placed_by one ∙ y.2 in cc

  -- no order has the name of a block
  pub order_is_no_block : (order : Placed) (block : PlacedBlock) → IsIn order (placed events) → IsIn block (blocks_placed events) → order.name ≢ block.name
  order_is_no_block order block h k same =
      let x = from_filter_map placed_by order events h in
      let y = from_filter_map block_placed_by block events k in
      let x_enters = enters-placed order x.0 x.2 in
      let y_enters = subst (λ n. enters_as n y.0 ≡ true) (sym same) (enters-block_placed block y.0 y.2) in
      let one : x.0 ≡ y.0 = entered-once order.name x.0 y.0 events (names.once order.name) x.1 y.1 x_enters y_enters in
      not_both order block x.0 x.2 (ap block_placed_by one ∙ y.2)

-- what was entered of an order is its quantity, and so with a block
pub entered-order : (events : List Event) (order : Placed) → NamesOnce events → IsIn order (placed events) → entered events order.name ≡ order.order.quantity.0
entered-order events order names i =
    let x = from_filter_map placed_by order events i in
    entered-is order.name x.0 events (names.once order.name) x.1 (enters-placed order x.0 x.2)
    ∙ ap (entered_by order.name) (order-event order x.0 x.2) ∙ ap (λ b. lots_if b order.order.quantity.0) (same_name-refl order.name)

pub entered-block : (events : List Event) (block : PlacedBlock) → NamesOnce events → IsIn block (blocks_placed events) → entered events block.name ≡ block.order.quantity.0
entered-block events block names i =
    let x = from_filter_map block_placed_by block events i in
    entered-is block.name x.0 events (names.once block.name) x.1 (enters-block_placed block x.0 x.2)
    ∙ ap (entered_by block.name) (block-event block x.0 x.2) ∙ ap (λ b. lots_if b block.order.quantity.0) (same_name-refl block.name)

-- Open blocks stay whole: whatever is no leg of blocks changes nothing that is left of an open block.
use Rattle.std.proofs.Common.{◌≡◌, ◌≢◌, ◌∙◌, ◌⊎◌, inl, inr, ◌+◌, ◌-◌, ◌≤◌, Bool, true, false, List, [], Some, nat_lt, refl, ap, subst, arith}
use Rattle.std.proofs.lemmas.Bool.{ltb-true}
use Rattle.order_kinds.specs.declared.order.OrderName.{OrderName}
use Rattle.order_kinds.specs.Same.{same_name}
use Rattle.zone_graph.specs.Pour.{lots_if}
use Rattle.zone_graph.specs.Route.{IsIn}
use Rattle.market_model.specs.declared.event.Event.{Event}
use Rattle.market_model.specs.declared.event.Event.TheVariants as event
use Rattle.market_model.specs.declared.event.Leg.{Leg}
use Rattle.market_model.specs.declared.setup.Setup.{Setup}
use Rattle.market_model.specs.History.{and_then}
use Rattle.market_model.specs.Orders.{PlacedBlock, block_placed_by, blocks_placed, entered, entered_by, filled, filled_by, left, names, taken_off, taken_off_by}
use Rattle.market_model.specs.WellFormed.{BlocksAreWhole, FitAfter, Fits, IsHistory}
use Rattle.laws_of_market.proofs.Balances.{covered}
use Rattle.laws_of_market.proofs.Members.{from_filter_map}
use Rattle.laws_of_market.proofs.Names.{NamesOnce, block_name-new, names-once, order_name-new, times_entered}
use Rattle.laws_of_market.proofs.Placed.{from_picked-more}
use Rattle.laws_of_market.proofs.Repeats.{fit-more}
use Rattle.laws_of_market.proofs.States.{entered-more, filled-more, left-more, taken_off-more}
use Rattle.laws_of_market.proofs.Tests.{same_name-eq, same_name-refl}
use Rattle.laws_of_market.proofs.Unique.{entered-none, enters-block_placed, order_is_no_block, times-some}

-- an event is no leg of blocks
abbrev pub IsNoBlockLeg : Event → Type 0
IsNoBlockLeg (event.BlockLeg first last leg) = ⊥
IsNoBlockLeg _ = Unit {0}

-- an event that neither enters, fills nor takes off anything of a name leaves what is left of it
pub left-untouched : (events : List Event) (e : Event) (name : OrderName) → entered_by name e ≡ 0 → filled_by name e ≡ 0 → taken_off_by name e ≡ 0
    → left (and_then events e) name ≡ left events name
left-untouched events e name none_in none_filled none_off =
    rw (left-more events e name none_in, none_filled, none_off) (omega arith)

-- different names
pub other_name : (a b : OrderName) → a ≢ b → same_name a b ≡ false
other_name a b apart = go (same_name a b) refl
  where
    go : (t : Bool) → same_name a b ≡ t → t ≡ false
    go true e = absurd (apart (same_name-eq a b e))
    go false e = refl

pub names-other : (leg : Leg) (name : OrderName) → leg.taker ≢ name → leg.maker ≢ name → names leg name ≡ false
names-other leg name taker maker = rw (other_name leg.taker name taker, other_name leg.maker name maker) refl

module _ (setup : Setup) (events : List Event) (fit : FitAfter setup [] events) where
  once : NamesOnce events
  once = names-once setup events fit

  -- a block that entered has a name that was given
  given_block : (block : PlacedBlock) → IsIn block (blocks_placed events) → 1 ≤ times_entered events block.name
  given_block block h =
      let x = from_filter_map block_placed_by block events h in
      times-some block.name x.0 events x.1 (enters-block_placed block x.0 x.2)

  -- a new name is no block's
  not_new : (block : PlacedBlock) (name : OrderName) → IsIn block (blocks_placed events) → times_entered events name ≡ 0 → name ≢ block.name
  not_new block name h new same =
      let some = given_block block h in
      let none : times_entered events block.name ≡ 0 = subst (λ n. times_entered events n ≡ 0) same new in omega arith

  -- nothing is known of a new name
  pub new-untouched : (name : OrderName) → times_entered events name ≡ 0 → (entered events name ≡ 0) × (filled events name + taken_off events name ≡ 0)
  new-untouched name new =
      let none : entered events name ≡ 0 = entered-none name events new in
      let most = covered setup events fit name in (none, omega arith)

  -- what one more event that is no leg of blocks leaves of a block that was there
  block_stays : (block : PlacedBlock) (e : Event) → IsIn block (blocks_placed events) → Fits setup events e → IsNoBlockLeg e
      → (left (and_then events e) block.name ≡ left events block.name) ⊎ (left (and_then events e) block.name ≡ 0)
  block_stays block (event.Entered name caller order) h fits plain =
      let other = other_name name block.name (not_new block name h (order_name-new setup events name caller order once fits)) in
      inl (left-untouched events (event.Entered name caller order) block.name (ap (λ b. lots_if b order.quantity.0) other) refl refl)
  block_stays block (event.EnteredBlock name caller order) h fits plain =
      let other = other_name name block.name (not_new block name h (block_name-new setup events name caller order once fits)) in
      inl (left-untouched events (event.EnteredBlock name caller order) block.name (ap (λ b. lots_if b order.quantity.0) other) refl refl)
  block_stays block (event.Leg contract leg) h fits plain =
      let taker : leg.taker ≢ block.name = λ same. order_is_no_block events once fits.taker block fits.taker_open.is_placed h (fits.taker_open.is_named ∙ same) in
      let maker : leg.maker ≢ block.name = λ same. order_is_no_block events once fits.maker block fits.maker_open.is_placed h (fits.maker_open.is_named ∙ same) in
      inl (left-untouched events (event.Leg contract leg) block.name refl (ap (λ b. lots_if b leg.lots) (names-other leg block.name taker maker)) refl)
  block_stays block (event.BlockLeg first last leg) h fits plain = absurd plain
  block_stays block (event.Granted arc first last lots) h fits plain = inl (left-untouched events (event.Granted arc first last lots) block.name refl refl refl)
  block_stays block (event.Offered arc first last lots) h fits plain = inl (left-untouched events (event.Offered arc first last lots) block.name refl refl refl)
  block_stays block (event.Halted border first last) h fits plain = inl (left-untouched events (event.Halted border first last) block.name refl refl refl)
  block_stays block (event.Resumed border first last) h fits plain = inl (left-untouched events (event.Resumed border first last) block.name refl refl refl)
  block_stays block (event.Gated hour phase) h fits plain = inl (left-untouched events (event.Gated hour phase) block.name refl refl refl)
  block_stays block (event.Withdrawn name lots) h fits plain = go (same_name name block.name) refl
    where
      go : (b : Bool) → same_name name block.name ≡ b
          → (left (and_then events (event.Withdrawn name lots)) block.name ≡ left events block.name) ⊎ (left (and_then events (event.Withdrawn name lots)) block.name ≡ 0)
      go true e =
          let same : name ≡ block.name = same_name-eq name block.name e in
          let all : lots ≡ left events block.name = subst (λ n. lots ≡ left events n) same fits.all_left in
          let less = left-more events (event.Withdrawn name lots) block.name refl in
          let lower : left (and_then events (event.Withdrawn name lots)) block.name ≡ left events block.name - (0 + lots) = rw e at less in
          inr (omega arith)
      go false e = inl (left-untouched events (event.Withdrawn name lots) block.name refl refl (ap (λ b. lots_if b lots) e))
  block_stays block (event.Reduced name by) h fits plain =
      let apart : name ≢ block.name = λ same. order_is_no_block events once fits.order block fits.order_open.is_placed h (fits.order_open.is_named ∙ same) in
      inl (left-untouched events (event.Reduced name by) block.name refl refl (ap (λ b. lots_if b by) (other_name name block.name apart)))

  -- a block that enters is whole
  pub new_block-whole : (block : PlacedBlock) (e : Event) → Fits setup events e → block_placed_by e ≡ Some block → left (and_then events e) block.name ≡ block.order.quantity.0
  new_block-whole block (event.EnteredBlock name caller order) fits is =
      let same : record { name = name; caller = caller; order = order } ≡ block = cc in
      let none = new-untouched name (block_name-new setup events name caller order once fits) in
      let e : Event = event.EnteredBlock name caller order in
      let itself = same_name-refl name in
      let own : entered_by name e ≡ order.quantity.0 = ap (λ b. lots_if b order.quantity.0) itself in
      let here : left (and_then events e) name ≡ order.quantity.0 =
      rw (entered-more events e name, filled-more events e name, taken_off-more events e name, own) (omega arith) in
      subst (λ (b : PlacedBlock). left (and_then events e) b.name ≡ b.order.quantity.0) same here
  new_block-whole block _ fits is = absurd (cc)

  -- open blocks are whole after one more event that is no leg of blocks
  pub whole-more : (e : Event) → BlocksAreWhole events → Fits setup events e → IsNoBlockLeg e → BlocksAreWhole (and_then events e)
  whole-more e whole fits plain block h opened = elim (from_picked-more block_placed_by block events e h) [
    | inr is ↦ new_block-whole block e fits is
    | inl i ↦ elim (block_stays block e i fits plain) [
      | inl same ↦ same ∙ whole block i (subst (λ n. nat_lt 0 n ≡ true) same opened)
      | inr none ↦ let some = ltb-true 0 (left (and_then events e) block.name) opened in absurd (omega arith)
    ]
  ]

-- a history stays well-formed with one more fitting event that is no leg of blocks
pub history-more : (setup : Setup) (events : List Event) (e : Event) → IsHistory setup events → Fits setup events e → IsNoBlockLeg e → IsHistory setup (and_then events e)
history-more setup events e history fits plain = record {
  fit = fit-more setup events e history.fit fits;
  whole = whole-more setup events history.fit e history.whole fits plain;
}

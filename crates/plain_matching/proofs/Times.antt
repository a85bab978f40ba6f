-- A block that has just entered is the last in time.
use Rattle.std.proofs.Common.{◌≡◌, ◌≢◌, ◌∙◌, inl, inr, ℕ, ◌+◌, ◌<◌, ◌≤◌, Bool, true, false, List, [], ◌∷◌, length, refl, sym, ap, subst, eq-eqb, if◌then◌else◌, arith}
use Rattle.std.proofs.lemmas.List.{length-append}
use Rattle.std.specs.Cmp.{nat_cmp_is}
use Rattle.std.specs.Ordering.{is_lt, nat_cmp, ordering_then}
use Rattle.std.specs.declared.cmp.Ordering.{Ordering}
use Rattle.order_kinds.specs.declared.order.BlockOrder.{BlockOrder}
use Rattle.order_kinds.specs.declared.order.OrderName.{OrderName}
use Rattle.order_kinds.specs.declared.side.Side.{Side}
use Rattle.order_kinds.specs.declared.side.Side.TheVariants.{Buy, Sell}
use Rattle.order_kinds.specs.Side.{opposite}
use Rattle.zone_graph.specs.Route.{IsIn}
use Rattle.market_model.specs.declared.event.Event.{Event}
use Rattle.market_model.specs.declared.event.Event.TheVariants as event
use Rattle.market_model.specs.declared.setup.Setup.{Setup}
use Rattle.market_model.specs.Blocks.{StandingBlock, block_time_cmp, standing_block}
use Rattle.market_model.specs.History.{and_then, of_hour, touches}
use Rattle.market_model.specs.Orders.{PlacedBlock, block_moment, block_placed_by, blocks_placed, enters_block, last_place_from}
use Rattle.market_model.specs.WellFormed.{BlockEnters, FitAfter}
use Rattle.laws_of_market.proofs.Members.{from_filter_map}
use Rattle.laws_of_market.proofs.Names.{block_name-new, names-once, times_entered}
use Rattle.laws_of_market.proofs.Placed.{from_picked-more}
use Rattle.laws_of_market.proofs.Tests.{same_name-refl}
use Rattle.laws_of_market.proofs.Unique.{enters-block_placed, times-some}
use Rattle.laws_of_market.proofs.Wholes.{other_name}
use Rattle.laws_of_market.proofs.LocalMoments.{block_moment-more}

-- a last place is among the places
place-within : (test : List Event → Event → Bool) (before : List Event) (found most : ℕ) (xs : List Event) → found ≤ most → length before + length xs ≤ most
    → last_place_from test before found xs ≤ most
place-within test before found most [] had room = had
place-within test before found most (x ∷ xs) had room =
    place-within test (and_then before x) (if test before x then length before + 1 else found) most xs (next (test before x))
    (let longer : length (and_then before x) ≡ length before + 1 = length-append before (x ∷ []) in omega (arith, longer, room))
  where
    next : (b : Bool) → (if b then length before + 1 else found) ≤ most
    next true = omega (arith, room)
    next false = had

moment-within : (events : List Event) (block : PlacedBlock) → block_moment events block ≤ length (of_hour block.name.hour events)
moment-within events block =
    place-within (enters_block block) [] 0 (length (of_hour block.name.hour events)) (of_hour block.name.hour events) (omega arith) (omega arith)

-- what is later by its moment has no priority by time
later-cmp : (own other : StandingBlock) → other.moment < own.moment → is_lt (block_time_cmp own other) ≡ false
later-cmp own other later =
    ap (λ o. is_lt (ordering_then o (nat_cmp own.name.number other.name.number))) (sym (nat_cmp_is own.moment other.moment Ordering.Greater later))

not-opposite : (side : Side) → side ≢ opposite side
not-opposite Buy e = absurd (cc)
not-opposite Sell e = absurd (cc)

module _ (setup : Setup) (events : List Event) (fit : FitAfter setup [] events) (caller : ℕ) (order : BlockOrder) (name : OrderName)
    (enters : BlockEnters setup events name caller order) where
  abbrev pub entry : Event
  entry = event.EnteredBlock name caller order

  abbrev pub own : PlacedBlock
  own = record { name = name; caller = caller; order = order }

  touched : (hour : ℕ) → name.hour ≡ hour → touches hour entry ≡ true
  touched hour is = eq-eqb name.hour hour is

  own-moment : block_moment (and_then events entry) own ≡ length (of_hour name.hour events) + 1
  own-moment =
      block_moment-more name.hour events entry own (touched name.hour refl) refl
      ∙ ap (λ b. if b then length (of_hour name.hour events) + 1 else block_moment events own) (same_name-refl name)

  other-moment : (other : PlacedBlock) → name.hour ≡ other.name.hour → name ≢ other.name → block_moment (and_then events entry) other ≤ length (of_hour name.hour events)
  other-moment other hour differ =
      let same : block_moment (and_then events entry) other ≡ block_moment events other =
      block_moment-more other.name.hour events entry other (touched other.name.hour hour) refl
      ∙ ap (λ b. if b then length (of_hour other.name.hour events) + 1 else block_moment events other) (other_name name other.name differ) in
      let within : block_moment events other ≤ length (of_hour name.hour events) = subst (λ h. block_moment events other ≤ length (of_hour h events)) (sym hour) (moment-within events other) in
      omega (arith, same, within)

  -- a block of the other side that is named by the same hour was there before
  pub entered-later : (other : PlacedBlock) → IsIn other (blocks_placed (and_then events entry)) → name.hour ≡ other.name.hour → other.order.side ≡ opposite order.side
      → is_lt (block_time_cmp (standing_block (and_then events entry) own) (standing_block (and_then events entry) other)) ≡ false
  entered-later other h hour opposed = elim (from_picked-more block_placed_by other events entry h) [
    | inr is ↦
        let same : own ≡ other = cc in
        absurd (not-opposite order.side (ap (λ (b : PlacedBlock). b.order.side) same ∙ opposed))
    | inl i ↦
        let x = from_filter_map block_placed_by other events i in
        let given : 1 ≤ times_entered events other.name = times-some other.name x.0 events x.1 (enters-block_placed other x.0 x.2) in
        let fresh : times_entered events name ≡ 0 = block_name-new setup events name caller order (names-once setup events fit) enters in
        let differ : name ≢ other.name = λ same.
        let none : times_entered events other.name ≡ 0 = subst (λ n. times_entered events n ≡ 0) same fresh in omega (arith, given, none) in
        let before = other-moment other hour differ in
        later-cmp (standing_block (and_then events entry) own) (standing_block (and_then events entry) other) (omega (arith, before, own-moment))
  ]

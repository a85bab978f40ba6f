-- In a well-formed history each order and each block is found under its name.
use Rattle.std.proofs.Common.{◌≡◌, ◌∙◌, inl, inr, ◌+◌, ◌-◌, ◌==◌, ℕ, zero, suc, Bool, true, false, cond, List, [], ◌∷◌, ◌++◌, length, Option, Some, None, refl, sym, ap, subst, eq-eqb, arith, if◌then◌else◌}
use Rattle.std.specs.Prelude.{slice_get}
use Rattle.std.specs.List.{cons_option, count_by, filter_map}
use Rattle.std.proofs.lemmas.List.Elements.{filter_map-append}
use Rattle.std.proofs.lemmas.List.Sums.{sum_by-cons}
use Rattle.order_kinds.specs.declared.order.OrderName.{OrderName}
use Rattle.zone_graph.specs.Route.{IsIn}
use Rattle.market_model.specs.declared.event.Event.{Event}
use Rattle.market_model.specs.declared.event.Event.TheVariants as event
use Rattle.market_model.specs.declared.setup.Setup.{Setup}
use Rattle.market_model.specs.History.{and_then, enters_in}
use Rattle.market_model.specs.Orders.{Placed, PlacedBlock, block_placed_by, blocks_placed, next_name, placed, placed_by}
use Rattle.market_model.specs.WellFormed.{FitAfter, Fits}
use Rattle.laws_of_market.proofs.Growing.{grows}
use Rattle.laws_of_market.proofs.Placed.{from_picked-more}
use Rattle.ship_schedule.specs.declared.party_index.Party.{Party}
use Rattle.ship_schedule.specs.Tally.{parties_in, party_in, party_of, sells}

-- ---- places of a list

get-front : {Y : Type 0} (xs ys : List Y) (k : ℕ) (y : Y) → slice_get xs k ≡ Some y → slice_get (xs ++ ys) k ≡ Some y
get-front [] ys k y e = absurd (cc)
get-front (x ∷ xs) ys zero y e = e
get-front (x ∷ xs) ys (suc k) y e = get-front xs ys k y e

get-last : {Y : Type 0} (xs : List Y) (y : Y) (k : ℕ) → k ≡ length xs → slice_get (xs ++ y ∷ []) k ≡ Some y
get-last [] y zero e = refl
get-last [] y (suc k) e = absurd (let no : ⊥ = omega (arith, e) in no)
get-last (x ∷ xs) y zero e = absurd (let no : ⊥ = omega (arith, e) in no)
get-last (x ∷ xs) y (suc k) e = get-last xs y k (omega (arith, e))

-- ---- how many parties there are

length-cons : {Y : Type 0} (o : Option Y) (ys : List Y) → length (cons_option o ys) ≡ length (cons_option o []) + length ys
length-cons None ys = omega arith
length-cons (Some y) ys = omega arith

length-if : {Y : Type 0} (b : Bool) (y : Y) → length (cons_option (if b then Some y else None) []) ≡ cond b 1 0
length-if true y = refl
length-if false y = refl

one_party : (hour : ℕ) (e : Event) → length (cons_option (party_in hour e) []) ≡ cond (enters_in hour e) 1 0
one_party hour (event.Entered name caller order) = length-if (name.hour == hour) (record { zone = order.zone; sells = sells order.side })
one_party hour (event.EnteredBlock name caller order) = length-if (name.hour == hour) (record { zone = order.zone; sells = sells order.side })
one_party hour _ = refl

length-parties : (hour : ℕ) (events : List Event) → length (parties_in events hour) ≡ count_by (enters_in hour) events
length-parties hour [] = refl
length-parties hour (e ∷ events) =
    omega (
      arith,
      length-cons (party_in hour e) (parties_in events hour),
      one_party hour e,
      length-parties hour events,
      sum_by-cons (λ x. cond (enters_in hour x) 1 0) e events,
    )

-- ---- one more event

-- a party that is found stays found
stays : (before : List Event) (e : Event) (name : OrderName) (party : Party) → party_of before name ≡ Some party → party_of (and_then before e) name ≡ Some party
stays before e name party found =
    ap (λ row. slice_get row (name.number - 1)) (filter_map-append (party_in name.hour) before (e ∷ []))
    ∙ get-front (parties_in before name.hour) (filter_map (party_in name.hour) (e ∷ [])) (name.number - 1) party found

-- one that enters under the next name is found
newest : (before : List Event) (e : Event) (name : OrderName) (party : Party) → name ≡ next_name before name.hour
    → party_in name.hour e ≡ Some party → party_of (and_then before e) name ≡ Some party
newest before e name party named enters =
    let number : name.number ≡ count_by (enters_in name.hour) before + 1 = ap (λ (n : OrderName). n.number) named in
    ap (λ row. slice_get row (name.number - 1)) (filter_map-append (party_in name.hour) before (e ∷ []))
    ∙ ap (λ o. slice_get (parties_in before name.hour ++ cons_option o []) (name.number - 1)) enters
    ∙ get-last (parties_in before name.hour) party (name.number - 1) (omega (arith, number, length-parties name.hour before))

-- an order of a zone and a side, and a block, are found
abbrev pub order_party : Placed → Party
order_party order = record { zone = order.order.zone; sells = sells order.order.side }

abbrev pub block_party : PlacedBlock → Party
block_party block = record { zone = block.order.zone; sells = sells block.order.side }

pub record Knows (events : List Event) : Type 0 where
  pub orders : (order : Placed) → IsIn order (placed events) → party_of events order.name ≡ Some (order_party order)
  pub blocks : (block : PlacedBlock) → IsIn block (blocks_placed events) → party_of events block.name ≡ Some (block_party block)

own_hour : {X : Type 0} (hour : ℕ) (x : X) → (if hour == hour then Some x else None) ≡ Some x
own_hour hour x = ap (λ b. if b then Some x else None) (eq-eqb hour hour refl)

order_found : (setup : Setup) (before : List Event) (e : Event) (order : Placed) → Fits setup before e → placed_by e ≡ Some order
    → party_of (and_then before e) order.name ≡ Some (order_party order)
order_found setup before (event.Entered name caller entering) order fits is =
    let own : Placed = record { name = name; caller = caller; order = entering } in
    let same : own ≡ order = cc in
    let hour : name.hour ≡ entering.contract.hour = ap (λ (n : OrderName). n.hour) fits.named in
    subst (λ (o : Placed). party_of (and_then before (event.Entered name caller entering)) o.name ≡ Some (order_party o)) same
    (newest before (event.Entered name caller entering) name (order_party own)
    (fits.named ∙ ap (next_name before) (sym hour)) (own_hour name.hour (order_party own)))
order_found setup before _ order fits is = absurd (cc)

block_found : (setup : Setup) (before : List Event) (e : Event) (block : PlacedBlock) → Fits setup before e → block_placed_by e ≡ Some block
    → party_of (and_then before e) block.name ≡ Some (block_party block)
block_found setup before (event.EnteredBlock name caller entering) block fits is =
    let own : PlacedBlock = record { name = name; caller = caller; order = entering } in
    let same : own ≡ block = cc in
    let hour : name.hour ≡ entering.first = ap (λ (n : OrderName). n.hour) fits.named in
    subst (λ (b : PlacedBlock). party_of (and_then before (event.EnteredBlock name caller entering)) b.name ≡ Some (block_party b)) same
    (newest before (event.EnteredBlock name caller entering) name (block_party own)
    (fits.named ∙ ap (next_name before) (sym hour)) (own_hour name.hour (block_party own)))
block_found setup before _ block fits is = absurd (cc)

knows-more : (setup : Setup) (before : List Event) (e : Event) → Knows before → Fits setup before e → Knows (and_then before e)
knows-more setup before e known fits = record {
  orders = λ order h. elim (from_picked-more placed_by order before e h) [
    | inl i ↦ stays before e order.name (order_party order) (known.orders order i)
    | inr is ↦ order_found setup before e order fits is
  ];
  blocks = λ block h. elim (from_picked-more block_placed_by block before e h) [
    | inl i ↦ stays before e block.name (block_party block) (known.blocks block i)
    | inr is ↦ block_found setup before e block fits is
  ];
}

-- so it is in every history whose events fit
pub knows : (setup : Setup) (events : List Event) → FitAfter setup [] events → Knows events
knows setup events fit = grows setup Knows (knows-more setup) [] events fit (record { orders = λ order h. absurd h; blocks = λ block h. absurd h })

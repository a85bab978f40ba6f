-- What the books of an hour have for a number, and what is open.
use Rattle.std.proofs.Common.{◌≡◌, ◌∙◌, inl, ℕ, ◌&&◌, true, List, [], ◌∷◌, Option, Some, None, IfSome, option_map, refl, sym, ap, subst}
use Rattle.std.proofs.lemmas.Bool.{and_parts}
use Rattle.order_kinds.specs.declared.order.OrderName.{OrderName}
use Rattle.order_kinds.specs.Contract.{is_known, part_number}
use Rattle.order_kinds.specs.Same.{same_name}
use Rattle.zone_graph.specs.Graph.{Graph}
use Rattle.zone_graph.specs.Route.{IsIn}
use Rattle.zone_graph.proofs.Finding.{from_find}
use Rattle.contract_book.specs.declared.resting.Resting.{Resting}
use Rattle.contract_book.specs.Book.{order_of}
use Rattle.block_book.specs.Book.{block_of}
use Rattle.market_model.specs.declared.event.Event.{Event}
use Rattle.market_model.specs.Board.{IsHourOf}
use Rattle.market_model.specs.Orders.{Placed, PlacedBlock, blocks_placed, is_open, moment, open_block, open_order, placed, standing}
use Rattle.laws_of_market.proofs.Legs.{open_order-is}
use Rattle.laws_of_market.proofs.Placed.{OrderIsSound, all_are_sound}
use Rattle.laws_of_market.proofs.Tests.{same_name-eq}
use Rattle.laws_of_market.proofs.LocalBlocks.{open_block-agree, standing_block-agree}
use Rattle.laws_of_market.proofs.LocalLines.{open_order-agree, standing-agree}
use Rattle.laws_of_market.proofs.LocalStates.{Agree}
use Rattle.laws_of_books.specs.BookOf.{book_of, contract_of, resting_of}
use Rattle.laws_of_books.proofs.FoundOrders as orders
use Rattle.laws_of_books.proofs.LineOrders.{in_resting}
use Rattle.laws_of_books.proofs.PartLines.{line_of-book}
use Rattle.laws_of_books.specs.BlocksOf.{blocks_of, resting_block}
use Rattle.laws_of_books.proofs.BlocksKept.{resting-same}
use Rattle.laws_of_books.proofs.WholeBlockBooks as blocks
use Rattle.laws_of_hours.proofs.NextEvents.{agrees, blocks-are, book-is, placed-too}
use Rattle.hour_store.specs.Contents.{IsOfPart}
use Rattle.desk_refusals.specs.Found.{record_of}
use Rattle.desk_refusals.specs.Told.{Tells}
use Rattle.desk_refusals.proofs.Moments.{tells}

module _ (graph : Graph) (hour : ℕ) (events : List Event) (is : IsHourOf graph hour events) where
  abbrev named : (number : ℕ) → OrderName
  named number = record { hour = hour; number = number }

  agree : Agree (hour ∷ []) events is.history
  agree = agrees graph hour events is

  -- ---- the order and the block of a number

  pub order-found : (number : ℕ) → order_of (book_of events hour) number ≡ option_map (record_of events) (open_order events (named number))
  order-found number =
      ap (λ b. order_of b number) (book-is graph hour events is)
      ∙ orders.order-found is.setup is.history is.fit (named number)
      ∙ ap (λ o. option_map resting_of (option_map (standing is.history) o)) (sym (open_order-agree (hour ∷ []) events is.history agree (named number) (inl refl)))
      ∙ go (open_order events (named number)) refl
    where
      go : (o : Option Placed) → open_order events (named number) ≡ o
          → option_map resting_of (option_map (standing is.history) o) ≡ option_map (record_of events) o
      go None found = refl
      go (Some order) found =
          let its = open_order-is events (named number) order found in
          ap (λ s. Some (resting_of s)) (sym (standing-agree (hour ∷ []) events is.history agree order (inl (ap (λ (n : OrderName). n.hour) its.is_named))))

  pub block-found : (number : ℕ) → block_of (blocks_of events hour) number ≡ option_map (resting_block events) (open_block events (named number))
  block-found number =
      ap (λ b. block_of b number) (blocks-are graph hour events is)
      ∙ blocks.block-found is.setup is.history is.fit (named number)
      ∙ ap (option_map (resting_block is.history)) (sym (open_block-agree (hour ∷ []) events is.history agree (named number) (inl refl)))
      ∙ go (open_block events (named number)) refl
    where
      go : (o : Option PlacedBlock) → open_block events (named number) ≡ o
          → option_map (resting_block is.history) o ≡ option_map (resting_block events) o
      go None found = refl
      go (Some block) found =
          let passes = (from_find (λ b. same_name b.name (named number) && is_open events b.name) block (blocks_placed events) found).1 in
          let same = same_name-eq block.name (named number) (and_parts (same_name block.name (named number)) (is_open events block.name) passes).0 in
          let stands = standing_block-agree (hour ∷ []) events is.history agree block (inl (ap (λ (n : OrderName). n.hour) same)) in
          ap Some (resting-same events is.history block (ap (λ s. s.left) (sym stands)) (ap (λ s. s.moment) (sym stands)))

  -- ---- where an open order stands, and what the event at its moment tells

  module _ (number : ℕ) (order : Placed) (found : open_order events (named number) ≡ Some order) where
    there : IsIn order (placed events)
    there = (open_order-is events (named number) order found).is_open.is_placed

    in_hour : order.name.hour ≡ hour
    in_hour = ap (λ (n : OrderName). n.hour) (open_order-is events (named number) order found).is_named

    sound : OrderIsSound is.setup order
    sound = (all_are_sound is.setup is.history is.fit).orders order (placed-too graph hour events is order in_hour there)

    pub in-known : is_known order.order.contract.part ≡ true
    in-known = sound.in_part

    pub moment-tells : Tells events (moment events order) order
    moment-tells = tells graph hour events is order there in_hour

    pub in-part : IsOfPart (book_of events hour) (part_number order.order.contract.part) (record_of events order)
    in-part =
        let part = order.order.contract.part in
        let side = order.order.side in
        let of_hour : order.order.contract ≡ contract_of hour part =
        let same = sym sound.named ∙ in_hour in λ i. record { hour = same i; part = part } in
        subst (λ line. IsIn (record_of events order) line) (sym (line_of-book events hour part side in-known))
        (in_resting events (contract_of hour part) side (record_of events order) (record {
          order = order;
          is_placed = there;
          is_left = (open_order-is events (named number) order found).is_open.is_left;
          of_contract = of_hour;
          on_side = refl;
          is = refl;
        }))

-- the event at the moment of a record tells of the open order of its number
pub record IsTold (events : List Event) (name : OrderName) (order : Resting) : Type 0 where
  pub placed : Placed
  pub found : open_order events name ≡ Some placed
  pub tells : Tells events order.moment placed
  pub known : is_known placed.order.contract.part ≡ true

pub is_told : (graph : Graph) (hour : ℕ) (events : List Event) → IsHourOf graph hour events → (order : Resting)
    → option_map (record_of events) (open_order events (record { hour = hour; number = order.number })) ≡ Some order
    → IsTold events (record { hour = hour; number = order.number }) order
is_told graph hour events is order = go (open_order events (record { hour = hour; number = order.number })) refl
  where
    go : (o : Option Placed) → open_order events (record { hour = hour; number = order.number }) ≡ o → option_map (record_of events) o ≡ Some order
        → IsTold events (record { hour = hour; number = order.number }) order
    go None found none = absurd (cc)
    go (Some placed) found told =
        let same : record_of events placed ≡ order = cc in
        record {
          placed = placed;
          found = found;
          tells = subst (λ (r : Resting). Tells events r.moment placed) same (moment-tells graph hour events is order.number placed found);
          known = in-known graph hour events is order.number placed found;
        }

-- a record that is found has the number by which it is found
pub found-number : (events : List Event) (name : OrderName) (o : Option Resting) → o ≡ option_map (record_of events) (open_order events name)
    → IfSome o (λ order. order.number ≡ name.number)
found-number events name o same = subst (λ held. IfSome held (λ order. order.number ≡ name.number)) (sym same) (go (open_order events name) refl)
  where
    go : (found : Option Placed) → open_order events name ≡ found → IfSome (option_map (record_of events) found) (λ order. order.number ≡ name.number)
    go None is = tt
    go (Some placed) is = ap (λ (n : OrderName). n.number) (open_order-is events name placed is).is_named

-- ---- what is a caller's

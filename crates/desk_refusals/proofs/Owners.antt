-- What a caller has open under a number of an hour.
use Rattle.std.proofs.Common.{◌≡◌, ◌∙◌, inl, ℕ, ◌==◌, ◌&&◌, Bool, true, false, List, [], ◌∷◌, Option, Some, None, IfSome, option_map, refl, sym, ap, ap₂, subst, if◌then◌else◌}
use Rattle.std.proofs.lemmas.Bool.{and_parts}
use Rattle.order_kinds.specs.declared.order.OrderName.{OrderName}
use Rattle.order_kinds.specs.Contract.{part_number}
use Rattle.order_kinds.specs.Same.{same_name}
use Rattle.zone_graph.specs.Graph.{Graph}
use Rattle.zone_graph.proofs.Finding.{from_find, map-none}
use Rattle.contract_book.specs.declared.resting.Resting.{Resting}
use Rattle.contract_book.specs.Book.{order_of}
use Rattle.block_book.specs.declared.block.RestingBlock.{RestingBlock}
use Rattle.market_model.specs.declared.event.Event.{Event}
use Rattle.market_model.specs.Board.{IsHourOf}
use Rattle.market_model.specs.Orders.{Placed, PlacedBlock, blocks_placed, is_open, open_block, open_order}
use Rattle.market_model.specs.Refusals.{if_own, if_own_block}
use Rattle.laws_of_market.proofs.Legs.{open_order-is}
use Rattle.laws_of_market.proofs.Names.{names-once}
use Rattle.laws_of_market.proofs.Tests.{same_name-eq}
use Rattle.laws_of_market.proofs.Unique.{order_is_no_block}
use Rattle.laws_of_market.proofs.LocalBlocks.{open_block-agree}
use Rattle.laws_of_market.proofs.LocalLines.{open_order-agree}
use Rattle.laws_of_books.specs.BookOf.{book_of}
use Rattle.laws_of_books.specs.BlocksOf.{resting_block}
use Rattle.laws_of_hours.proofs.NextEvents.{agrees}
use Rattle.hour_store.specs.Contents.{IsOfPart}
use Rattle.desk_refusals.specs.declared.owning.Own.{Own}
use Rattle.desk_refusals.specs.declared.owning.Own.TheVariants as own
use Rattle.desk_refusals.specs.Found.{own_block, own_order, record_of}
use Rattle.desk_refusals.specs.Owned.{of_block, of_order, own_of, part_of}
use Rattle.desk_refusals.proofs.Books.{in-part, order-found}

-- ---- in the definitions

-- the order of which a record is the caller's
record IsOwn (events : List Event) (caller : ℕ) (name : OrderName) (order : Resting) : Type 0 where
  placed : Placed
  found : open_order events name ≡ Some placed
  own : if_own caller (open_order events name) ≡ Some placed
  is : order ≡ record_of events placed

from_own : (events : List Event) (caller : ℕ) (name : OrderName) (order : Resting) → own_order events caller name ≡ Some order → IsOwn events caller name order
from_own events caller name order = go (open_order events name) refl
  where
    go : (o : Option Placed) → open_order events name ≡ o → option_map (record_of events) (if_own caller o) ≡ Some order → IsOwn events caller name order
    go None found is = absurd (cc)
    go (Some placed) found is = by (placed.caller == caller) refl is
      where
        by : (b : Bool) → (placed.caller == caller) ≡ b → option_map (record_of events) (if b then Some placed else None) ≡ Some order → IsOwn events caller name order
        by false other k = absurd (cc)
        by true own k =
            record {
              placed = placed;
              found = found;
              own = ap (if_own caller) found ∙ ap (λ (b : Bool). if b then Some placed else None) own;
              is = let same : record_of events placed ≡ order = cc in sym same;
            }

own-found : (caller : ℕ) (o : Option Placed) (placed : Placed) → if_own caller o ≡ Some placed → o ≡ Some placed
own-found caller None placed is = absurd (cc)
own-found caller (Some order) placed is = go (order.caller == caller) is
  where
    go : (b : Bool) → (if b then Some order else None) ≡ Some placed → Some order ≡ Some placed
    go true k = k
    go false k = absurd (cc)

own-found_block : (caller : ℕ) (o : Option PlacedBlock) (placed : PlacedBlock) → if_own_block caller o ≡ Some placed → o ≡ Some placed
own-found_block caller None placed is = absurd (cc)
own-found_block caller (Some block) placed is = go (block.caller == caller) is
  where
    go : (b : Bool) → (if b then Some block else None) ≡ Some placed → Some block ≡ Some placed
    go true k = k
    go false k = absurd (cc)

module _ (events : List Event) (caller : ℕ) (name : OrderName) where
  told-order : (placed : Placed) → if_own caller (open_order events name) ≡ Some placed → own_of events caller name ≡ Some (of_order events placed)
  told-order placed is = rw (is, own_of) refl

  told-block : (block : Option PlacedBlock) → if_own caller (open_order events name) ≡ None → if_own_block caller (open_block events name) ≡ block
      → own_of events caller name ≡ option_map (of_block events) block
  told-block block none is = rw (none, is, own_of) refl

  -- what is told of the records
  pub own-order : (order : Resting) (part : ℕ) → own_order events caller name ≡ Some order
      → ((placed : Placed) → open_order events name ≡ Some placed → part ≡ part_number placed.order.contract.part)
      → Some (own.Order part order.left) ≡ own_of events caller name
  own-order order part is tells =
      let its = from_own events caller name order is in
      ap Some (ap₂ own.Order (tells its.placed its.found) (ap (λ (r : Resting). r.left) its.is)) ∙ sym (told-order its.placed its.own)

  pub own-block : (block : RestingBlock) → own_order events caller name ≡ None → own_block events caller name ≡ Some block
      → Some (own.Block block.quantity) ≡ own_of events caller name
  own-block block none is =
      ap (option_map (λ (b : RestingBlock). own.Block b.quantity)) (sym is) ∙ same (if_own_block caller (open_block events name))
      ∙ sym (told-block (if_own_block caller (open_block events name)) (map-none (record_of events) (if_own caller (open_order events name)) none) refl)
    where
      same : (o : Option PlacedBlock) → option_map (λ (b : RestingBlock). own.Block b.quantity) (option_map (resting_block events) o) ≡ option_map (of_block events) o
      same None = refl
      same (Some placed) = refl

-- ---- in an hour

module _ (graph : Graph) (hour : ℕ) (events : List Event) (is : IsHourOf graph hour events) (caller number : ℕ) where
  abbrev name : OrderName
  name = record { hour = hour; number = number }

  -- a name of a block is no order's
  no_order : (block : PlacedBlock) → open_block events name ≡ Some block → (o : Option Placed) → open_order events name ≡ o → o ≡ None
  no_order block found None none = refl
  no_order block found (Some order) there =
      let agree = agrees graph hour events is in
      let its = open_order-is is.history name order (sym (open_order-agree (hour ∷ []) events is.history agree name (inl refl)) ∙ there) in
      let its_block = from_find (λ b. same_name b.name name && is_open is.history b.name) block (blocks_placed is.history)
      (sym (open_block-agree (hour ∷ []) events is.history agree name (inl refl)) ∙ found) in
      let same = same_name-eq block.name name (and_parts (same_name block.name name) (is_open is.history block.name) its_block.1).0 in
      absurd (order_is_no_block is.history (names-once is.setup is.history is.fit) order block its.is_open.is_placed its_block.0 (its.is_named ∙ sym same))

  abbrev fits : Option Own → Option Resting → Type 0
  fits told held = IfSome told (λ own. IfSome held (λ order. IsOfPart (book_of events hour) (part_of own) order))

  -- what the caller has is of the part in which the order of the number rests
  pub rests-in : IfSome (own_of events caller name) (λ own. IfSome (order_of (book_of events hour) number) (λ order. IsOfPart (book_of events hour) (part_of own) order))
  rests-in = go (if_own caller (open_order events name)) (if_own_block caller (open_block events name)) refl refl
    where
      go : (o : Option Placed) (b : Option PlacedBlock) → if_own caller (open_order events name) ≡ o → if_own_block caller (open_block events name) ≡ b
          → fits (own_of events caller name) (order_of (book_of events hour) number)
      go (Some placed) b own block =
          let found = own-found caller (open_order events name) placed own in
          let held : order_of (book_of events hour) number ≡ Some (record_of events placed) =
          order-found graph hour events is number ∙ ap (option_map (record_of events)) found in
          subst (λ told. fits told (order_of (book_of events hour) number)) (sym (told-order events caller name placed own))
          (subst (fits (Some (of_order events placed))) (sym held) (in-part graph hour events is number placed found))
      go None (Some placed) own block =
          let none = no_order placed (own-found_block caller (open_block events name) placed block) (open_order events name) refl in
          let held : order_of (book_of events hour) number ≡ None = order-found graph hour events is number ∙ ap (option_map (record_of events)) none in
          subst (λ told. fits told (order_of (book_of events hour) number)) (sym (told-block events caller name (Some placed) own block))
          (subst (fits (Some (of_block events placed))) (sym held) tt)
      go None None own block = subst (λ told. fits told (order_of (book_of events hour) number)) (sym (told-block events caller name None own block)) tt

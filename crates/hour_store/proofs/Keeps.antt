-- What a store always keeps, after each change and after what takes it back.
use Rattle.std.proofs.Common.{◌≡◌, ◌∙◌, ◌/◌, ℕ, List, sym, ap}
use Rattle.std.proofs.lemmas.List.{length-map, length-set}
use Rattle.zone_graph.specs.InOrder.{put_in_order}
use Rattle.zone_graph.specs.Pour.{opposite_arc}
use Rattle.contract_book.specs.declared.resting.Resting.{Resting}
use Rattle.contract_book.specs.Book.{line_number, line_of, line_without, parts_of, with_order, without}
use Rattle.contract_book.specs.Resting.{resting_cmp}
use Rattle.flow_netting.specs.Flows.{SameFlows, SameOffers}
use Rattle.flow_netting.specs.QuarterSet.{has}
use Rattle.hour_store.specs.declared.change.Change.{Change}
use Rattle.hour_store.specs.declared.change.Change.TheVariants as change
use Rattle.hour_store.specs.Contents.{AreAlike, Contents}
use Rattle.hour_store.specs.Inside.{IsKept}
use Rattle.hour_store.specs.TakenBack.{CanTakeBack, IsTakenBack}
use Rattle.hour_store.proofs.Ranges.{drawn-carried, drawn-offered, drawn-same, offers-alike, offers-offered}

-- a book keeps its parts
pub parts-without : (book : List (List Resting)) (number : ℕ) → parts_of (without book number) ≡ parts_of book
parts-without book number = ap (λ n. n / 2) (length-map book (line_without number))

pub parts-with_order : (book : List (List Resting)) (part : ℕ) (order : Resting) → parts_of (with_order book part order) ≡ parts_of book
parts-with_order book part order =
    ap (λ n. n / 2) (length-set book (line_number part order.side) (put_in_order (resting_cmp order.side) (line_of book part order.side) order))

pub parts-less : (one other : List (List Resting)) (number : ℕ) → without one number ≡ without other number → parts_of one ≡ parts_of other
parts-less one other number same = sym (parts-without one number) ∙ ap parts_of same ∙ parts-without other number

-- where as much is offered, and as much flows
pub kept-same : (old new : Contents) → parts_of new.book ≡ parts_of old.book → SameOffers old.flows.borders new.flows.borders → SameFlows old.flows.borders new.flows.borders → IsKept old → IsKept new
kept-same old new parts offers flows kept = record {
  parts = parts ∙ kept.parts;
  drawn = drawn-same old.flows new.flows offers flows kept.drawn;
  offers = offers-alike old.flows new.flows offers kept.offers;
}

pub kept-alike : (old new : Contents) → parts_of new.book ≡ parts_of old.book → AreAlike old.flows new.flows → IsKept old → IsKept new
kept-alike old new parts alike kept = kept-same old new parts alike.offers alike.flows kept

-- and after what takes a change back
pub kept-back : (record_of : Change) (now before : Contents) → CanTakeBack record_of now → IsTakenBack record_of now before → IsKept now → IsKept before
kept-back (change.OrderRested part order) now before can back kept = kept-alike now before (ap parts_of back.book_is ∙ parts-without now.book order.number) back.flows kept
kept-back (change.OrderChanged part was) now before can back kept =
    kept-alike now before (ap parts_of back.book_is ∙ parts-with_order (without now.book was.number) part was ∙ parts-without now.book was.number) back.flows kept
kept-back (change.BlockRested number) now before can back kept = kept-alike now before (ap parts_of back.book) back.flows kept
kept-back (change.BlockLeft was) now before can back kept = kept-alike now before (ap parts_of back.book) back.flows kept
kept-back (change.Carried arc set lots) now before can back kept = record {
  parts = ap parts_of back.0.book ∙ kept.parts;
  drawn = drawn-carried (opposite_arc arc) (has set) lots now.flows before.flows kept.drawn can.room back.1;
  offers = offers-alike now.flows before.flows back.1.offers kept.offers;
}
kept-back (change.Offered arc number lots) now before can back kept = record {
  parts = ap parts_of back.0.book ∙ kept.parts;
  drawn = drawn-offered arc number lots now.flows before.flows kept.drawn can.covers back.1;
  offers = offers-offered arc number lots now.flows before.flows kept.offers can.most back.1;
}
kept-back (change.HaltSet border was) now before can back kept = kept-same now before (ap parts_of back.0.book) back.1.offers back.1.flows kept
kept-back (change.PhaseSet was) now before can back kept = kept-same now before (ap parts_of back.0.book) back.1.offers back.1.flows kept

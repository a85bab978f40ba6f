-- The orders that an event of an hour names, as the books have them.
use Rattle.std.proofs.Common.{◌≡◌, ◌∙◌, ℕ, ◌<◌, ◌≢◌, ◌&&◌, Bool, true, false, List, [], ◌∷◌, Option, Some, None, IfSome, IsSomeAnd, refl, sym, ap, subst, if◌then◌else◌}
use Rattle.std.proofs.lemmas.Bool.{and_from}
use Rattle.order_kinds.specs.declared.contract.Contract.{Contract}
use Rattle.order_kinds.specs.declared.side.Side.{Side}
use Rattle.order_kinds.specs.Contract.{contract_at}
use Rattle.order_kinds.specs.Same.{same_contract, same_name, same_side}
use Rattle.zone_graph.specs.Route.{IsIn}
use Rattle.zone_graph.proofs.Membership.{IsIn-filter, IsIn-left, IsIn-map}
use Rattle.contract_book.specs.declared.resting.Resting.{Resting}
use Rattle.contract_book.specs.Book.{filled, line_number, line_of, line_without, order_of, without}
use Rattle.contract_book.proofs.BookShapes.{any-some}
use Rattle.market_model.specs.declared.event.Event.{Event}
use Rattle.market_model.specs.Board.{IsHourOf}
use Rattle.market_model.specs.History.{and_then}
use Rattle.market_model.specs.Orders.{Placed, placed, placed_by}
use Rattle.laws_of_market.proofs.Lines.{same_contract-refl, same_side-refl}
use Rattle.laws_of_market.proofs.LocalLines.{placed-named}
use Rattle.laws_of_market.proofs.Placed.{picked-stays}
use Rattle.laws_of_market.proofs.Tests.{same_name-refl}
use Rattle.laws_of_books.specs.BookOf.{book_of}
use Rattle.laws_of_books.proofs.LineOrders.{from_resting, same_names}
use Rattle.laws_of_books.proofs.Updates.{from_less, in_less}
use Rattle.laws_of_hours.specs.OrderEvents.{filled_beside, holds, without_hand}
use Rattle.laws_of_hours.proofs.Legs.{line-map}
use Rattle.laws_of_hours.proofs.NextEvents.{agrees}
use Rattle.laws_of_views.specs.Changes.{is_named, order_names, order_zones, zones_of_events}
use Rattle.hour_store.specs.declared.change.Change.{Change}
use Rattle.hour_store.specs.Changed.{NotesNoFlow, NotesOrdersAt, RestsAt, stands_in}
use Rattle.hour_store.specs.Contents.{IsOfPart}
use Rattle.hour_store.proofs.UndoneBooks.{found-number, without-filled}
use Rattle.hour_store.proofs.Zones.{from_stands_in}
use Rattle.kept_hour.specs.State.{HourState, name_in}
use Rattle.kept_hour.proofs.ChangedZones.{line-of-book}

-- ---- the zones of an event are those of the orders that it names

pub named-zone : (events : List Event) (e : Event) (own : Placed) → IsIn own (placed (and_then events e)) → IsIn own.name (order_names e)
    → IsIn own.order.zone (zones_of_events events (e ∷ []) own.order.contract own.order.side)
named-zone events e own there named =
    let of : Placed → Bool = λ order. same_contract order.order.contract own.order.contract && same_side order.order.side own.order.side in
    let is_of : of own ≡ true =
    and_from (same_contract own.order.contract own.order.contract) (same_side own.order.side own.order.side) (same_contract-refl own.order.contract) (same_side-refl own.order.side) in
    let passes : is_named e own ≡ true = any-some (λ name. same_name name own.name) own.name (order_names e) named (same_name-refl own.name) in
    IsIn-left own.order.zone (order_zones events e own.order.contract own.order.side) []
    (IsIn-map (λ (order : Placed). order.order.zone) own _ (IsIn-filter of own _ (IsIn-filter (is_named e) own (placed (and_then events e)) there passes) is_of))

-- ---- an order of the hour's book has entered

-- the order of a number, if it rests in the hour's book, is of a part
abbrev pub IsFoundIn : HourState → (part number : ℕ) → Type 0
IsFoundIn hour part number = IfSome (order_of (book_of hour.board.events hour.board.hour) number) (λ order. IsOfPart (book_of hour.board.events hour.board.hour) part order)

-- of orders that of a number alone is noted, where it rests, and no flows are
abbrev pub NotesChanged : (book : List (List Resting)) → (part number : ℕ) → (old new : List Change) → Type 0
NotesChanged book part number old new = NotesOrdersAt (RestsAt book number part) old new × NotesNoFlow old new

pub record HasEntered (hour : HourState) (part : ℕ) (order : Resting) : Type 0 where
  pub own : Placed
  pub there : IsIn own (placed hour.board.events)
  pub of_contract : own.order.contract ≡ contract_at hour.board.hour part
  pub on_side : own.order.side ≡ order.side
  pub in_zone : order.zone ≡ own.order.zone
  pub named : own.name ≡ name_in hour order.number

module _ (hour : HourState) (stands : IsHourOf hour.board.grid hour.board.hour hour.board.events) where
  pub named-hour : (own : Placed) → IsIn own (placed hour.board.events) → own.name.hour ≡ own.order.contract.hour
  named-hour own there = placed-named hour.board.events (agrees hour.board.grid hour.board.hour hour.board.events stands).named_a own there

  pub has-entered : (part : ℕ) (order : Resting) → part < 7 → IsOfPart (book_of hour.board.events hour.board.hour) part order → HasEntered hour part order
  has-entered part order low of_part =
      let found = from_resting hour.board.events (contract_at hour.board.hour part) order.side order
      (subst (IsIn order) (line-of-book hour.board.events hour.board.hour part order.side low) of_part) in
      record {
        own = found.order;
        there = found.is_placed;
        of_contract = found.of_contract;
        on_side = found.on_side;
        in_zone = ap (λ (r : Resting). r.zone) found.is;
        named = same_names found.order.name (name_in hour order.number)
            (named-hour found.order found.is_placed ∙ ap (λ (c : Contract). c.hour) found.of_contract) (sym (ap (λ (r : Resting). r.number) found.is));
      }

  -- what is said of its zone is said where it stands
  pub stands-where : (zones : Contract → Side → List ℕ) (part : ℕ) (order : Resting) (entry : HasEntered hour part order)
      → IsIn entry.own.order.zone (zones entry.own.order.contract entry.own.order.side)
      → (other : ℕ) (side : Side) (zone : ℕ) → stands_in other side zone part order ≡ true → IsIn zone (zones (contract_at hour.board.hour other) side)
  stands-where zones part order entry there other side zone is =
      let at = from_stands_in part other side order zone is in
      subst (λ z. IsIn z (zones (contract_at hour.board.hour other) side)) (sym (at.2 ∙ entry.in_zone))
      (subst (λ c. IsIn entry.own.order.zone (zones c side)) (entry.of_contract ∙ ap (contract_at hour.board.hour) (sym at.0))
      (subst (λ s. IsIn entry.own.order.zone (zones entry.own.order.contract s)) (entry.on_side ∙ sym at.1) there))

  -- an order that is found in a book stands where an event names one, if it rests in that of the hour
  pub found-where : (e : Event) (book : List (List Resting)) (number part : ℕ) (order : Resting) → order_of book number ≡ Some order
      → IsOfPart (book_of hour.board.events hour.board.hour) part order → IsIn (name_in hour number) (order_names e)
      → (other : ℕ) (side : Side) (zone : ℕ) → other < 7 → RestsAt book number part other side zone
      → IsIn zone (zones_of_events hour.board.events (e ∷ []) (contract_at hour.board.hour other) side)
  found-where e book number part order found of_part named other side zone low rests =
      let is : stands_in other side zone part order ≡ true = subst (λ o. IsSomeAnd o (λ r. stands_in other side zone part r ≡ true)) found rests in
      let at = from_stands_in part other side order zone is in
      let entry = has-entered part order (subst (λ n. n < 7) at.0 low) of_part in
      let own_name : name_in hour number ≡ entry.own.name = ap (name_in hour) (sym (found-number book number order found)) ∙ sym entry.named in
      stands-where (zones_of_events hour.board.events (e ∷ [])) part order entry
      (named-zone hour.board.events e entry.own (picked-stays placed_by entry.own hour.board.events (e ∷ []) entry.there) (subst (λ n. IsIn n (order_names e)) own_name named))
      other side zone is

  -- one of the hour's own book
  pub rests-where : (e : Event) (book : List (List Resting)) → book ≡ book_of hour.board.events hour.board.hour → (number part : ℕ)
      → IsFoundIn hour part number → IsIn (name_in hour number) (order_names e)
      → (other : ℕ) (side : Side) (zone : ℕ) → other < 7 → RestsAt book number part other side zone
      → IsIn zone (zones_of_events hour.board.events (e ∷ []) (contract_at hour.board.hour other) side)
  rests-where e book book_is number part of_part named other side zone low rests = go (order_of book number) refl
    where
      go : (found : Option Resting) → order_of book number ≡ found → IsIn zone (zones_of_events hour.board.events (e ∷ []) (contract_at hour.board.hour other) side)
      go None found = absurd (subst (λ o. IsSomeAnd o (λ r. stands_in other side zone part r ≡ true)) found rests)
      go (Some order) found =
          found-where e book number part order found
          (subst (λ o. IfSome o (λ r. IsOfPart (book_of hour.board.events hour.board.hour) part r)) (ap (λ b. order_of b number) (sym book_is) ∙ found) of_part)
          named other side zone low rests

-- ---- lines of a book in which less rests, or from which an order was filled

pub from_hand : (hand : Option ℕ) (book : List (List Resting)) (part : ℕ) (side : Side) (order : Resting) → IsIn order (line_of (without_hand hand book) part side)
    → IsIn order (line_of book part side)
from_hand None book part side order i = i
from_hand (Some held) book part side order i =
    (from_less held (line_of book part side) order (subst (IsIn order) (line-map (line_without held) refl book (line_number part side)) i)).0

-- another order than one that was filled rests where it did
pub from_filled : (hand : Option ℕ) (book : List (List Resting)) (number lots moment : ℕ) → (holds hand number ≡ false → (was : Resting) × (order_of book number ≡ Some was))
    → (part : ℕ) (side : Side) (order : Resting) → order.number ≢ number → IsIn order (line_of (filled_beside hand number lots moment book) part side) → IsIn order (line_of book part side)
from_filled hand book number lots moment rested part side order apart i = go (holds hand number) refl
  where
    rest : (was : Resting) → order_of book number ≡ Some was → IsIn order (line_of (filled book number lots moment) part side) → IsIn order (line_of book part side)
    rest was found there =
        let less : (b : List (List Resting)) → line_of (without b number) part side ≡ line_without number (line_of b part side) =
        λ b. line-map (line_without number) refl b (line_number part side) in
        let out = in_less number (line_of (filled book number lots moment) part side) order there apart in
        let same = ap (λ b. line_of b part side) (without-filled book number was lots moment found (found-number book number was found)) in
        (from_less number (line_of book part side) order (subst (IsIn order) (sym (less (filled book number lots moment)) ∙ same ∙ less book) out)).0

    in_either : (b : Bool) → holds hand number ≡ b → IsIn order (line_of (if b then book else filled book number lots moment) part side)
    in_either b is = subst (λ t. IsIn order (line_of (if t then book else filled book number lots moment) part side)) is i

    go : (b : Bool) → holds hand number ≡ b → IsIn order (line_of book part side)
    go true is = in_either true is
    go false is = (let was = rested is in rest was.0 was.1 (in_either false is))

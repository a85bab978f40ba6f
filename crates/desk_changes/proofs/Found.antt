-- What the books of an hour have for a name is what is open of it.
use Rattle.std.proofs.Common.{◌≡◌, ◌∙◌, inl, ℕ, ◌+◌, ◌<◌, ◌&&◌, Bool, true, false, List, [], ◌∷◌, ◌++◌, eqb-true, get_or, length, take, Option, Some, None, find, nat_lt, refl, sym, ap, subst, if◌then◌else◌}
use Rattle.std.proofs.lemmas.Bool.{and_from, and_parts, true≢false}
use Rattle.std.proofs.lemmas.List.{take_more}
use Rattle.std.proofs.lemmas.List.Elements.{filter_map-append}
use Rattle.std.specs.List.{cons_option}
use Rattle.std.specs.Option.{option_map}
use Rattle.order_kinds.specs.declared.order.BlockOrder.{BlockOrder}
use Rattle.order_kinds.specs.declared.order.Order.{Order}
use Rattle.order_kinds.specs.declared.order.OrderName.{OrderName}
use Rattle.order_kinds.specs.Contract.{is_known}
use Rattle.order_kinds.specs.Same.{same_name}
use Rattle.zone_graph.specs.Graph.{Graph}
use Rattle.zone_graph.specs.Route.{IsIn}
use Rattle.zone_graph.proofs.Finding.{find-none, from_find}
use Rattle.contract_book.specs.declared.resting.Resting.{Resting}
use Rattle.contract_book.specs.Book.{order_of}
use Rattle.block_book.specs.declared.block.RestingBlock.{RestingBlock}
use Rattle.block_book.specs.Book.{block_of}
use Rattle.market_model.specs.declared.event.Event.{Event}
use Rattle.market_model.specs.declared.event.Event.TheVariants as event
use Rattle.market_model.specs.Board.{IsHourOf}
use Rattle.market_model.specs.Orders.{Placed, PlacedBlock, block_placed_by, blocks_placed, is_open, left, open_block, open_order, placed, placed_by, standing}
use Rattle.laws_of_market.proofs.Members.{IsIn-filter_map, from_filter_map}
use Rattle.laws_of_market.proofs.Placed.{all_are_sound}
use Rattle.laws_of_market.proofs.Tests.{same_name-eq, same_name-refl}
use Rattle.laws_of_market.proofs.LocalStates.{left-agree}
use Rattle.laws_of_books.specs.BookLaws.{IsOfBlock}
use Rattle.laws_of_books.specs.BookOf.{book_of, resting_of}
use Rattle.laws_of_books.proofs.FoundOrders.{order-found}
use Rattle.laws_of_books.specs.BlockLaws.{IsOfOrder}
use Rattle.laws_of_books.specs.BlocksOf.{blocks_of, resting_block}
use Rattle.laws_of_books.proofs.WholeBlockBooks.{block-found}
use Rattle.laws_of_hours.specs.OrderEvents.{without_hand}
use Rattle.laws_of_hours.proofs.NextEvents.{agrees, blocks-are, book-is}
use Rattle.desk_changes.specs.declared.still_open.StillOpen.{StillOpen}
use Rattle.desk_changes.specs.StillOpen.{open_by, open_in, open_one}
use Rattle.desk_changes.proofs.Names.{in-history, of-hour, placed-in}

-- ---- one of a name in a list

-- what is found under a name is open, and where nothing is the name is closed
abbrev IsFoundAs : {X : Type 0} (named : X → OrderName) (opened : OrderName → Bool) (name : OrderName) → Option X → Type 0
IsFoundAs named opened name None = opened name ≡ false
IsFoundAs named opened name (Some x) = (named x ≡ name) × (opened name ≡ true)

is-found : {X : Type 0} (named : X → OrderName) (opened : OrderName → Bool) (name : OrderName) (xs : List X) (there : X) → IsIn there xs → named there ≡ name
    → (o : Option X) → find (λ x. same_name (named x) name && opened (named x)) xs ≡ o → IsFoundAs named opened name o
is-found {X} named opened name xs there i same None is = go (opened name) refl
  where
    go : (b : Bool) → opened name ≡ b → b ≡ false
    go false e = refl
    go true e = absurd (true≢false (
        sym (and_from (same_name (named there) name) (opened (named there))
        (subst (λ n. same_name (named there) n ≡ true) same (same_name-refl (named there))) (ap opened same ∙ e))
        ∙ find-none (λ x. same_name (named x) name && opened (named x)) xs is there i
        ))
is-found {X} named opened name xs there i same (Some x) is =
    let found = from_find (λ y. same_name (named y) name && opened (named y)) x xs is in
    let both = and_parts (same_name (named x) name) (opened (named x)) found.1 in
    let one : named x ≡ name = same_name-eq (named x) name both.0 in
    (one, ap opened (sym one) ∙ both.1)

-- ---- the books of an hour

module _ (graph : Graph) (hour : ℕ) (events : List Event) (stands : IsHourOf graph hour events) (name : OrderName) (in_hour : name.hour ≡ hour) (part : ℕ) where
  abbrev item_of : (lots : ℕ) → StillOpen
  item_of lots = record { number = name.number; part = part; lots = lots }

  left-same : left events name ≡ left stands.history name
  left-same = left-agree (hour ∷ []) events stands.history (agrees graph hour events stands) name (inl in_hour)

  closed-is : is_open stands.history name ≡ false → open_one events name part ≡ None
  closed-is closed = ap (λ b. if b then Some (item_of (left events name)) else None) (ap (nat_lt 0) left-same ∙ closed)

  open-is : is_open stands.history name ≡ true → open_one events name part ≡ Some (item_of (left stands.history name))
  open-is opened =
      ap (λ b. if b then Some (item_of (left events name)) else None) (ap (nat_lt 0) left-same ∙ opened)
      ∙ ap (λ n. Some (item_of n)) left-same

  -- the order that the book has under a name
  pub order-tells : IsOfOrder events name → open_one events name part ≡ option_map (λ (r : Resting). item_of r.left) (order_of (book_of events hour) name.number)
  order-tells entered = go (open_order stands.history name) (is-found (λ (o : Placed). o.name) (is_open stands.history) name (placed stands.history) entered.0
      (placed-in graph hour events stands entered.0 entered.1) entered.2 (open_order stands.history name) refl)
      (ap (λ b. order_of b name.number) (book-is graph hour events stands)
      ∙ subst (λ h. order_of (book_of stands.history h) name.number ≡ option_map resting_of (option_map (standing stands.history) (open_order stands.history name))) in_hour
      (order-found stands.setup stands.history stands.fit name))
    where
      go : (o : Option Placed) → IsFoundAs (λ (p : Placed). p.name) (is_open stands.history) name o
          → order_of (book_of events hour) name.number ≡ option_map resting_of (option_map (standing stands.history) o)
          → open_one events name part ≡ option_map (λ (r : Resting). item_of r.left) (order_of (book_of events hour) name.number)
      go None closed is = closed-is closed ∙ ap (option_map (λ (r : Resting). item_of r.left)) (sym is)
      go (Some order) opened is =
          open-is opened.1 ∙ ap (λ n. Some (item_of (left stands.history n))) (sym opened.0) ∙ ap (option_map (λ (r : Resting). item_of r.left)) (sym is)

  -- and the block
  pub block-tells : IsOfBlock events name → open_one events name part ≡ option_map (λ (r : RestingBlock). item_of r.quantity) (block_of (blocks_of events hour) name.number)
  block-tells entered = go (open_block stands.history name) (is-found (λ (b : PlacedBlock). b.name) (is_open stands.history) name (blocks_placed stands.history) entered.0
      (block-in entered.0 entered.1) entered.2 (open_block stands.history name) refl)
      (ap (λ b. block_of b name.number) (blocks-are graph hour events stands)
      ∙ subst (λ h. block_of (blocks_of stands.history h) name.number ≡ option_map (resting_block stands.history) (open_block stands.history name)) in_hour
      (block-found stands.setup stands.history stands.fit name))
    where
      block-in : (block : PlacedBlock) → IsIn block (blocks_placed events) → IsIn block (blocks_placed stands.history)
      block-in block i =
          let from = from_filter_map block_placed_by block events i in
          IsIn-filter_map block_placed_by from.0 block stands.history (in-history graph hour events stands from.0 from.1) from.2

      go : (o : Option PlacedBlock) → IsFoundAs (λ (p : PlacedBlock). p.name) (is_open stands.history) name o
          → block_of (blocks_of events hour) name.number ≡ option_map (resting_block stands.history) o
          → open_one events name part ≡ option_map (λ (r : RestingBlock). item_of r.quantity) (block_of (blocks_of events hour) name.number)
      go None closed is = closed-is closed ∙ ap (option_map (λ (r : RestingBlock). item_of r.quantity)) (sym is)
      go (Some block) opened is =
          open-is opened.1 ∙ ap (λ n. Some (item_of (left stands.history n))) (sym opened.0) ∙ ap (option_map (λ (r : RestingBlock). item_of r.quantity)) (sym is)

  -- what is found under the name, in books that are those of the hour
  pub order-told : IsOfOrder events name → (hand : Option ℕ) (book : List (List Resting)) (found seen : Option Resting) → hand ≡ None
      → book ≡ without_hand hand (book_of events hour) → found ≡ order_of book name.number → found ≡ seen
      → open_one events name part ≡ option_map (λ (r : Resting). item_of r.left) seen
  order-told entered hand book found seen free is told same =
      order-tells entered
      ∙ ap (option_map (λ (r : Resting). item_of r.left))
      (sym (told ∙ ap (λ b. order_of b name.number) (is ∙ ap (λ h. without_hand h (book_of events hour)) free)) ∙ same)

  pub block-told : IsOfBlock events name → (book : List RestingBlock) (found seen : Option RestingBlock) → book ≡ blocks_of events hour
      → found ≡ block_of book name.number → found ≡ seen → open_one events name part ≡ option_map (λ (r : RestingBlock). item_of r.quantity) seen
  block-told entered book found seen is told same =
      block-tells entered ∙ ap (option_map (λ (r : RestingBlock). item_of r.quantity)) (sym (told ∙ ap (λ b. block_of b name.number) is) ∙ same)

-- ---- what an event of the hour enters

-- an order enters: under a name of the hour, in a part that there is
pub record HasEntered (hour : ℕ) (events : List Event) (name : OrderName) (order : Order) : Type 0 where
  pub in_hour : name.hour ≡ hour
  pub entered : IsOfOrder events name
  pub known : is_known order.contract.part ≡ true

pub order-entered : (graph : Graph) (hour : ℕ) (events : List Event) → IsHourOf graph hour events → (e : Event) (name : OrderName) (caller : ℕ) (order : Order)
    → e ≡ event.Entered name caller order → IsIn e events → HasEntered hour events name order
order-entered graph hour events stands e name caller order is i =
    let entry : Event = event.Entered name caller order in
    let one : Placed = record { name = name; caller = caller; order = order } in
    let among : IsIn entry events = subst (λ x. IsIn x events) is i in
    let there : IsIn one (placed events) = IsIn-filter_map placed_by entry one events among refl in
    record {
      in_hour = eqb-true name.hour hour (of-hour graph hour events stands entry among);
      entered = (one, there, refl);
      known = ((all_are_sound stands.setup stands.history stands.fit).orders one (placed-in graph hour events stands one there)).in_part;
    }

-- and so does a block
pub block-entered : (graph : Graph) (hour : ℕ) (events : List Event) → IsHourOf graph hour events → (e : Event) (name : OrderName) (caller : ℕ) (order : BlockOrder)
    → e ≡ event.EnteredBlock name caller order → IsIn e events → (name.hour ≡ hour) × IsOfBlock events name
block-entered graph hour events stands e name caller order is i =
    let entry : Event = event.EnteredBlock name caller order in
    let one : PlacedBlock = record { name = name; caller = caller; order = order } in
    let among : IsIn entry events = subst (λ x. IsIn x events) is i in
    (eqb-true name.hour hour (of-hour graph hour events stands entry among), (one, IsIn-filter_map block_placed_by entry one events among refl, refl))

-- ---- event by event

pub open-more : (all events : List Event) (place : ℕ) (e : Event) (found : Option StillOpen) → all ≡ events → place < length all → e ≡ get_or all place e
    → found ≡ open_by events e → open_in all (take (place + 1) all) ≡ open_in all (take place all) ++ cons_option found []
open-more all events place e found same low is told =
    ap (open_in all) (take_more all place e low ∙ ap (λ x. take place all ++ x ∷ []) (sym is))
    ∙ filter_map-append (open_by all) (take place all) (e ∷ [])
    ∙ ap (λ o. open_in all (take place all) ++ cons_option o []) (ap (λ es. open_by es e) same ∙ sym told)

-- The parts of a history that an order's entry, its legs and what follows them make.
use Rattle.std.proofs.Common.{◌≡◌, ◌∙◌, ℕ, ◌+◌, ◌<◌, ◌^◌, ◌-◌, inl, inr, List, [], ◌∷◌, ◌++◌, append_assoc, cond, count_by, length, take as first, sym, ap, arith}
use Rattle.std.proofs.lemmas.List.{append-nil, length-append}
use Rattle.std.proofs.lemmas.List.Sums.{sum_by-append}
use Rattle.std.proofs.Math.Seq.{take-append_seam}
use Rattle.order_kinds.specs.declared.contract.Part.{Part}
use Rattle.order_kinds.specs.declared.order.Order.{Order}
use Rattle.order_kinds.specs.declared.order.OrderName.{OrderName}
use Rattle.zone_graph.specs.Graph.{Graph}
use Rattle.market_model.specs.declared.event.Event.{Event}
use Rattle.market_model.specs.declared.event.Event.TheVariants as event
use Rattle.market_model.specs.Entering.{after_taking, enter, legs_taken, name_of_next, rest_withdrawn, with_order}
use Rattle.market_model.specs.History.{and_then, entered_count, enters, enters_in}
use Rattle.market_model.specs.Orders.{left}
use Rattle.market_model.specs.Sweep.{sweep}
use Rattle.plain_matching.specs.Grown.{Grew}
use Rattle.laws_of_market.proofs.Names.{entered_in-few}
use Rattle.plain_market.specs.Entering.{IsCut}

-- what stood before an event, with it, whatever follows
pub start-is : (old : List Event) (e : Event) (legs : List Event) → first (length old + 1) (and_then old e ++ legs) ≡ and_then old e
start-is old e legs =
    ap (λ n. first n (and_then old e ++ legs)) (sym (length-append old (e ∷ [])))
    ∙ take-append_seam (and_then old e) legs

-- the events of an order: those until its taking ends, and those that follow
pub enter-is : (parts : List Part) (graph : Graph) (events : List Event) (caller : ℕ) (order : Order)
    → (let after = after_taking graph events caller order in
    let rested = after ++ rest_withdrawn order.kind (name_of_next events order) (left after (name_of_next events order)) in
    rested ++ sweep parts graph order.contract.hour rested ≡ events ++ enter parts graph caller order events)
unfolding enter
enter-is parts graph events caller order =
    let after : List Event = after_taking graph events caller order in
    let entry : List Event = event.Entered (name_of_next events order) caller order ∷ [] in
    let legs : List Event = legs_taken graph events caller order in
    let rest : List Event = rest_withdrawn order.kind (name_of_next events order) (left after (name_of_next events order)) in
    let same : after ++ rest ≡ events ++ (entry ++ legs ++ rest) =
    ap (λ xs. xs ++ rest) (append_assoc events entry legs) ∙ append_assoc events (entry ++ legs) rest in
    ap (λ history. history ++ sweep parts graph order.contract.hour history) same
    ∙ append_assoc events (entry ++ legs ++ rest) (sweep parts graph order.contract.hour (events ++ (entry ++ legs ++ rest)))

-- the same, with what stood there under other names
pub entered-is : (parts : List Part) (graph : Graph) (events after new : List Event) (caller : ℕ) (order : Order) (name : OrderName)
    → after ≡ after_taking graph events caller order → name ≡ name_of_next events order
    → (let rested = after ++ rest_withdrawn order.kind name (left after name) in new ≡ rested ++ sweep parts graph order.contract.hour rested)
    → new ≡ events ++ enter parts graph caller order events
entered-is parts graph events after new caller order name is_after is_name is =
    is
    ∙ ap (λ history. (history ++ rest_withdrawn order.kind name (left history name))
    ++ sweep parts graph order.contract.hour (history ++ rest_withdrawn order.kind name (left history name))) is_after
    ∙ ap (λ n. (after_taking graph events caller order ++ rest_withdrawn order.kind n (left (after_taking graph events caller order) n))
    ++ sweep parts graph order.contract.hour (after_taking graph events caller order ++ rest_withdrawn order.kind n (left (after_taking graph events caller order) n))) is_name
    ∙ enter-is parts graph events caller order

-- fewer enter by an hour than enter
pub few-in : (events : List Event) (hour : ℕ) → entered_count events < 2 ^ 32 - 1 → count_by (enters_in hour) events < 2 ^ 32 - 1
few-in events hour few = omega (arith, few, entered_in-few events hour)

-- an order was entered after some events and took: the history as its taking started and ended, and
-- its name
pub record IsTaken (graph : Graph) (old : List Event) (caller : ℕ) (order : Order) (start after : List Event) (name : OrderName) : Type 0 where
  pub start_is : start ≡ with_order old caller order
  pub after_is : after ≡ after_taking graph old caller order
  pub name_is : name ≡ name_of_next old order

pub taken : (graph : Graph) (old : List Event) (caller : ℕ) (order : Order) (after : List Event) (name : OrderName) (before : ℕ)
    → before ≡ length old → name ≡ name_of_next old order → after ≡ after_taking graph old caller order
    → IsTaken graph old caller order (first (before + 1) after) after name
taken graph old caller order after name before is_before is_name is_after = record {
  start_is = ap (λ n. first (n + 1) after) is_before ∙ ap (first (length old + 1)) is_after
      ∙ start-is old (event.Entered (name_of_next old order) caller order) (legs_taken graph old caller order);
  after_is = is_after;
  name_is = is_name;
}

-- one more has entered as its taking starts
pub taken-few : (graph : Graph) (old : List Event) (caller : ℕ) (order : Order) (start after : List Event) (name : OrderName)
    → IsTaken graph old caller order start after name → entered_count old < 2 ^ 32 - 1 → entered_count start < 2 ^ 32
taken-few graph old caller order start after name is_taken few =
    let entry : Event = event.Entered (name_of_next old order) caller order in
    let all : entered_count start ≡ entered_count old + 1 =
    ap entered_count is_taken.start_is ∙ sum_by-append (λ happened. cond (enters happened) 1 0) old (entry ∷ []) in
    omega (arith, few, all)

-- what stood before an order entered is what is left of the history when all after it is taken off,
-- with the legs or without them
pub taken-back : (graph : Graph) (old : List Event) (caller : ℕ) (order : Order) (after now : List Event) (name : OrderName) (before : ℕ)
    → before ≡ length old → IsTaken graph old caller order (first (before + 1) after) after name → IsCut (before + 1) after now → first before now ≡ old
taken-back graph old caller order after now name before is_before is_taken cut =
    let entry : Event = event.Entered (name_of_next old order) caller order in
    let back : (more : List Event) → first before (and_then old entry ++ more) ≡ old = λ more.
    ap (λ n. first n (and_then old entry ++ more)) is_before ∙ ap (first (length old)) (append_assoc old (entry ∷ []) more)
    ∙ take-append_seam old (entry ∷ more) in
    elim cut [
      | inl same ↦ ap (first before) (same ∙ is_taken.after_is) ∙ back (legs_taken graph old caller order)
      | inr front ↦ ap (first before) (front ∙ is_taken.start_is ∙ sym (append-nil (and_then old entry))) ∙ back []
    ]

-- and a history that grew
pub taken-grew : (graph : Graph) (old : List Event) (caller : ℕ) (order : Order) (start after now : List Event) (name : OrderName) (count : ℕ)
    → start ≡ first count after → IsTaken graph old caller order start after name → IsCut count after now → Grew old now
taken-grew graph old caller order start after now name count is_start is_taken cut =
    let entry : List Event = event.Entered (name_of_next old order) caller order ∷ [] in
    elim cut [
      | inl same ↦ record {
        more = entry ++ legs_taken graph old caller order;
        grew = same ∙ is_taken.after_is ∙ append_assoc old entry (legs_taken graph old caller order);
      }
      | inr front ↦ record { more = entry; grew = front ∙ sym is_start ∙ is_taken.start_is }
    ]

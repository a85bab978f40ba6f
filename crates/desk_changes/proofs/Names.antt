-- What the events of an hour enter, and what of it is open.
use Rattle.std.proofs.Common.{◌≡◌, ◌∙◌, ◌⊎◌, inl, inr, ℕ, ◌+◌, ◌≤◌, Bool, true, false, cond, List, [], ◌∷◌, filter, map, Option, Some, None, eqb-true, refl, sym, ap, subst, if◌then◌else◌, arith}
use Rattle.std.proofs.lemmas.Bool.{ltb-true}
use Rattle.std.specs.List.{cons_option, filter_map}
use Rattle.order_kinds.specs.declared.order.OrderName.{OrderName}
use Rattle.order_kinds.specs.declared.phase.Phase.TheVariants as phase
use Rattle.order_kinds.specs.Contract.{part_number}
use Rattle.zone_graph.specs.Graph.{Graph}
use Rattle.zone_graph.specs.Route.{AreDifferent, IsIn}
use Rattle.zone_graph.proofs.Membership.{from_filter, from_map}
use Rattle.market_model.specs.declared.event.Event.{Event}
use Rattle.market_model.specs.declared.event.Event.TheVariants as event
use Rattle.market_model.specs.Board.{BoardState, IsHourOf}
use Rattle.market_model.specs.History.{touches}
use Rattle.market_model.specs.Market.{withdrawals}
use Rattle.market_model.specs.Orders.{Placed, is_open, left, name_given, placed, placed_by}
use Rattle.laws_of_market.proofs.Changes.{withdrawn}
use Rattle.laws_of_market.proofs.Members.{IsIn-filter_map, from_filter_map}
use Rattle.laws_of_market.proofs.Names.{enters_as, names-once, times_entered}
use Rattle.laws_of_market.proofs.Tests.{same_name-refl}
use Rattle.laws_of_market.proofs.Unique.{entered-once, enters-placed, times-cons, times-some}
use Rattle.desk_changes.specs.declared.still_open.StillOpen.{StillOpen}
use Rattle.desk_changes.specs.Quiet.{HasNoLeg}
use Rattle.desk_changes.specs.StillOpen.{CanEnd, IsStillOpen, name_of, open_by, open_in, open_one, withdrawal}

-- an event of an hour enters a name of the hour, an order of a part or a block
pub record Enters (hour : ℕ) (e : Event) (name : OrderName) : Type 0 where
  pub in_hour : name.hour ≡ hour
  pub given : name_given hour e ≡ Some name
  pub enters : enters_as name e ≡ true
  pub part : ℕ
  pub opens : (events : List Event) → open_by events e ≡ open_one events name part
  pub of_part : (order : Placed) → placed_by e ≡ Some order → part_number order.order.contract.part ≡ part

-- or it enters nothing
pub record EntersNothing (hour : ℕ) (e : Event) : Type 0 where
  pub given : name_given hour e ≡ None
  pub opens : (events : List Event) → open_by events e ≡ None

pub what-enters : (hour : ℕ) (e : Event) → touches hour e ≡ true → ((name : OrderName) × Enters hour e name) ⊎ EntersNothing hour e
what-enters hour (event.Entered name caller order) own = inl (
  name,
  record {
    in_hour = eqb-true name.hour hour own;
    given = ap (λ b. if b then Some name else None) own;
    enters = same_name-refl name;
    part = part_number order.contract.part;
    opens = λ events. refl;
    of_part = λ other is. ap part_number (let same : record { name = name; caller = caller; order = order } ≡ other = cc in ap (λ (p : Placed). p.order.contract.part) (sym same));
  },
)
what-enters hour (event.EnteredBlock name caller order) own = inl (
  name,
  record {
    in_hour = eqb-true name.hour hour own;
    given = ap (λ b. if b then Some name else None) own;
    enters = same_name-refl name;
    part = 0;
    opens = λ events. refl;
    of_part = λ other is. absurd (cc);
  },
)
what-enters hour _ own = inr (record { given = refl; opens = λ events. refl })

-- ---- what is open

-- what is open of what an event enters
pub record IsOpenBy (hour : ℕ) (events : List Event) (e : Event) (item : StillOpen) : Type 0 where
  pub enters : enters_as (name_of hour item) e ≡ true
  pub opened : is_open events (name_of hour item) ≡ true
  pub lots : item.lots ≡ left events (name_of hour item)
  pub of_part : (order : Placed) → placed_by e ≡ Some order → part_number order.order.contract.part ≡ item.part

pub open-by : (hour : ℕ) (events : List Event) (e : Event) (item : StillOpen) → touches hour e ≡ true → open_by events e ≡ Some item → IsOpenBy hour events e item
open-by hour events e item own is = elim (what-enters hour e own) [
  | inl some ↦ one some.0 some.1 (is_open events some.0) refl (sym (some.1.opens events) ∙ is)
  | inr none ↦ absurd (let no = sym (none.opens events) ∙ is in cc)
]
  where
    one : (name : OrderName) (enters : Enters hour e name) (b : Bool) → is_open events name ≡ b
        → (if b then Some (record { number = name.number; part = enters.part; lots = left events name }) else None) ≡ Some item → IsOpenBy hour events e item
    one name enters false opened same = absurd (cc)
    one name enters true opened same =
        let found : record { number = name.number; part = enters.part; lots = left events name } ≡ item = cc in
        let named : record { hour = hour; number = name.number } ≡ name = ap (λ h. record { hour = h; number = name.number }) (sym enters.in_hour) in
        subst (IsOpenBy hour events e) found (record {
          enters = ap (λ n. enters_as n e) named ∙ enters.enters;
          opened = ap (is_open events) named ∙ opened;
          lots = ap (left events) (sym named);
          of_part = enters.of_part;
        })

-- the withdrawals of what is open are those of the open names
pub withdrawals-are : (hour : ℕ) (events entering : List Event) → ((e : Event) → IsIn e entering → touches hour e ≡ true)
    → map (withdrawal hour) (open_in events entering) ≡ map (withdrawn events) (filter (is_open events) (filter_map (name_given hour) entering))
withdrawals-are hour events [] own = refl
withdrawals-are hour events (e ∷ entering) own = go (withdrawals-are hour events entering (λ x i. own x (inr i)))
  where
    rest : List StillOpen
    rest = open_in events entering

    names : List OrderName
    names = filter_map (name_given hour) entering

    by : (name : OrderName) (part : ℕ) → name.hour ≡ hour → (b : Bool) → map (withdrawal hour) rest ≡ map (withdrawn events) (filter (is_open events) names)
        → map (withdrawal hour) (cons_option (if b then Some (record { number = name.number; part = part; lots = left events name }) else None) rest)
        ≡ map (withdrawn events) (cond b (name ∷ filter (is_open events) names) (filter (is_open events) names))
    by name part in_hour false same = same
    by name part in_hour true same =
        let named : record { hour = hour; number = name.number } ≡ name = ap (λ h. record { hour = h; number = name.number }) (sym in_hour) in
        ap (λ n. event.Withdrawn n (left events name) ∷ map (withdrawal hour) rest) named ∙ ap (λ es. withdrawn events name ∷ es) same

    go : map (withdrawal hour) rest ≡ map (withdrawn events) (filter (is_open events) names)
        → map (withdrawal hour) (cons_option (open_by events e) rest) ≡ map (withdrawn events) (filter (is_open events) (cons_option (name_given hour e) names))
    go same = elim (what-enters hour e (own e (inl refl))) [
      | inl some ↦
          ap (λ o. map (withdrawal hour) (cons_option o rest)) (some.1.opens events)
          ∙ by some.0 some.1.part some.1.in_hour (is_open events some.0) same
          ∙ ap (λ o. map (withdrawn events) (filter (is_open events) (cons_option o names))) (sym some.1.given)
      | inr none ↦
          ap (λ o. map (withdrawal hour) (cons_option o rest)) (none.opens events) ∙ same
          ∙ ap (λ o. map (withdrawn events) (filter (is_open events) (cons_option o names))) (sym none.given)
    ]

-- the names of what is open differ
pub different : (hour : ℕ) (events entering : List Event) → ((e : Event) → IsIn e entering → touches hour e ≡ true)
    → ((name : OrderName) → times_entered entering name ≤ 1) → AreDifferent (map (name_of hour) (open_in events entering))
different hour events [] own once = tt
different hour events (e ∷ entering) own once =
    go (different hour events entering (λ x i. own x (inr i)) (λ name. let most = rw (times-cons e entering name) at (once name) in omega arith)) (open_by events e) refl
  where
    go : AreDifferent (map (name_of hour) (open_in events entering)) → (o : Option StillOpen) → open_by events e ≡ o
        → AreDifferent (map (name_of hour) (cons_option o (open_in events entering)))
    go rest None is = rest
    go rest (Some item) is = (
      λ again.
          let other = from_map (name_of hour) (name_of hour item) (open_in events entering) again in
          let from = from_filter_map (open_by events) other.0 entering other.1 in
          let later = open-by hour events from.0 other.0 (own from.0 (inr from.1)) from.2 in
          let first = open-by hour events e item (own e (inl refl)) is in
          let counted = times-some (name_of hour item) from.0 entering from.1 (subst (λ n. enters_as n from.0 ≡ true) (sym other.2) later.enters) in
          let most = rw (times-cons e entering (name_of hour item), first.enters) at (once (name_of hour item)) in
          omega arith,
      rest,
    )

-- ---- the events of an hour

times-filter : (p : Event → Bool) (events : List Event) (name : OrderName) → times_entered (filter p events) name ≤ times_entered events name
times-filter p [] name = omega arith
times-filter p (e ∷ events) name = rw (times-cons e events name) (go (p e) (times-filter p events name))
  where
    go : (b : Bool) → times_entered (filter p events) name ≤ times_entered events name
        → times_entered (cond b (e ∷ filter p events) (filter p events)) name ≤ cond (enters_as name e) 1 0 + times_entered events name
    go true less = rw (times-cons e (filter p events) name) (omega (arith, less))
    go false less = omega (arith, less)

module _ (graph : Graph) (hour : ℕ) (events : List Event) (stands : IsHourOf graph hour events) where
  -- they touch the hour
  pub of-hour : (e : Event) → IsIn e events → touches hour e ≡ true
  of-hour e i = (from_filter (touches hour) e stands.history (subst (IsIn e) (sym stands.in_hour) i)).1

  -- and are events of the history whose hour they are
  pub in-history : (e : Event) → IsIn e events → IsIn e stands.history
  in-history e i = (from_filter (touches hour) e stands.history (subst (IsIn e) (sym stands.in_hour) i)).0

  -- so they give each name once
  pub entered-once-in : (name : OrderName) → times_entered events name ≤ 1
  entered-once-in name =
      let once = (names-once stands.setup stands.history stands.fit).once name in
      let less = times-filter (touches hour) stands.history name in
      let here = subst (λ es. times_entered es name ≤ times_entered stands.history name) stands.in_hour less in
      omega (arith, once, here)

  -- an order that entered by them entered by the history
  pub placed-in : (order : Placed) → IsIn order (placed events) → IsIn order (placed stands.history)
  placed-in order i =
      let from = from_filter_map placed_by order events i in
      IsIn-filter_map placed_by from.0 order stands.history (in-history from.0 from.1) from.2

  -- what is open of what they enter can be withdrawn
  pub each-open : (item : StillOpen) → IsIn item (open_in events events) → IsStillOpen events hour item
  each-open item i =
      let from = from_filter_map (open_by events) item events i in
      let is = open-by hour events from.0 item (of-hour from.0 from.1) from.2 in
      let some = ltb-true 0 (left events (name_of hour item)) is.opened in
      record {
        some = subst (λ n. 1 ≤ n) (sym is.lots) (omega (arith, some));
        lots = is.lots;
        part = λ order there named.
            let other = from_filter_map placed_by order events there in
            let again = subst (λ n. enters_as n other.0 ≡ true) named (enters-placed order other.0 other.2) in
            let same : from.0 ≡ other.0 = entered-once (name_of hour item) from.0 other.0 events (entered-once-in (name_of hour item)) from.1 other.1 is.enters again in
            is.of_part order (ap placed_by same ∙ other.2);
      }

  pub all-withdrawn : map (withdrawal hour) (open_in events events) ≡ withdrawals events hour phase.Closed
  all-withdrawn = withdrawals-are hour events events of-hour

  pub all-different : AreDifferent (map (name_of hour) (open_in events events))
  all-different = different hour events events of-hour entered-once-in

-- all that is open of an hour can be withdrawn
pub can-end : (board : BoardState) → IsHourOf board.grid board.hour board.events → HasNoLeg board.grid board.hour board.events
    → CanEnd board (open_in board.events board.events)
can-end board stands quiet = record {
  stands = stands;
  quiet = quiet;
  each = each-open board.grid board.hour board.events stands;
  different = all-different board.grid board.hour board.events stands;
}

-- What stands in a line after the records of some orders changed or left.
use Rattle.std.proofs.Common.{◌≡◌, ◌≢◌, ◌∙◌, ◌⊎◌, inl, inr, ℕ, not, Bool, true, false, List, [], ◌∷◌, eqb-true, fold, Option, Some, None, refl, sym, ap, subst, if◌then◌else◌}
use Rattle.std.proofs.lemmas.Bool.{not-true, or_cases, true≢false}
use Rattle.std.specs.List.{list_any}
use Rattle.order_kinds.specs.declared.side.Side.{Side}
use Rattle.zone_graph.specs.InOrder.{IsStrictlyInOrder, put_in_order}
use Rattle.zone_graph.specs.Route.{IsIn}
use Rattle.zone_graph.proofs.InOrder.{IsIn-put_in_order, from_put_in_order, in_order-filter, in_order-one, in_order-put}
use Rattle.zone_graph.proofs.Membership.{IsIn-filter, from_filter}
use Rattle.contract_book.specs.declared.resting.Resting.{Resting}
use Rattle.contract_book.specs.Book.{changed_line, has_number, line_without}
use Rattle.contract_book.specs.Resting.{resting_cmp}
use Rattle.contract_book.proofs.BookShapes.{any-some, has-number, has_not-number}
use Rattle.laws_of_books.proofs.LineOrders.{resting-apart, resting_weak}

-- what becomes of the order of a number: another record of it, or nothing where it leaves
pub record Change : Type 0 where
  pub number : ℕ
  pub next : Option Resting

abbrev pub line_after : Change → List Resting → List Resting
line_after change line = by_next change.next
  where
    by_next : Option Resting → List Resting
    by_next None = line_without change.number line
    by_next (Some order) = changed_line order line

-- the new record has the number of the order
abbrev pub IsOfNumber : Change → Type 0
IsOfNumber change = (order : Resting) → change.next ≡ Some order → order.number ≡ change.number

-- the number stands in a line
abbrev pub stands : ℕ → List Resting → Bool
stands number line = list_any (has_number number) line

pub from_stands : (number : ℕ) (line : List Resting) → stands number line ≡ true → (order : Resting) × IsIn order line × (order.number ≡ number)
from_stands number [] is = absurd (true≢false (sym is))
from_stands number (order ∷ line) is = elim (or_cases (has_number number order) (stands number line) is) [
  | inl here ↦ (order, inl refl, eqb-true order.number number here)
  | inr later ↦ let rest = from_stands number line later in (rest.0, inr rest.1, rest.2)
]

pub is-stands : (number : ℕ) (line : List Resting) (order : Resting) → IsIn order line → order.number ≡ number → stands number line ≡ true
is-stands number line order i is = any-some (has_number number) order line i (has-number order number is)

-- without an order stands what has another number
pub from_less : (number : ℕ) (line : List Resting) (x : Resting) → IsIn x (line_without number line) → IsIn x line × (x.number ≢ number)
from_less number line x i =
    let there = from_filter (λ order. not (has_number number order)) x line i in
    (there.0, λ same. true≢false (sym (has-number x number same) ∙ not-true (has_number number x) there.1))

pub in_less : (number : ℕ) (line : List Resting) (x : Resting) → IsIn x line → x.number ≢ number → IsIn x (line_without number line)
in_less number line x i differs =
    IsIn-filter (λ order. not (has_number number order)) x line i (ap not (has_not-number x number differs))

-- what stands in a line after a change: what stood there under another number, or the new record
abbrev pub IsAfter : Change → List Resting → Resting → Type 0
IsAfter change line x = (IsIn x line × (x.number ≢ change.number)) ⊎ ((stands change.number line ≡ true) × (change.next ≡ Some x))

from_changed : (order : Resting) (line : List Resting) (x : Resting) → IsIn x (changed_line order line)
    → (IsIn x line × (x.number ≢ order.number)) ⊎ ((stands order.number line ≡ true) × (x ≡ order))
from_changed order line x i = go (stands order.number line) refl i
  where
    go : (b : Bool) → stands order.number line ≡ b
        → IsIn x (if b then put_in_order (resting_cmp order.side) (line_without order.number line) order else line)
        → (IsIn x line × (x.number ≢ order.number)) ⊎ ((stands order.number line ≡ true) × (x ≡ order))
    go true e j = elim (from_put_in_order (resting_cmp order.side) x (line_without order.number line) order j) [
      | inl is ↦ inr (e, is)
      | inr old ↦ inl (from_less order.number line x old)
    ]
    go false e j = inl (j, λ same. true≢false (sym (is-stands order.number line x j same) ∙ e))

in_changed-old : (order : Resting) (line : List Resting) (x : Resting) → IsIn x line → x.number ≢ order.number → IsIn x (changed_line order line)
in_changed-old order line x i differs = go (stands order.number line)
  where
    go : (b : Bool) → IsIn x (if b then put_in_order (resting_cmp order.side) (line_without order.number line) order else line)
    go true = IsIn-put_in_order (resting_cmp order.side) x (line_without order.number line) order (inr (in_less order.number line x i differs))
    go false = i

in_changed-new : (order : Resting) (line : List Resting) → stands order.number line ≡ true → IsIn order (changed_line order line)
in_changed-new order line is = rw is (IsIn-put_in_order (resting_cmp order.side) order (line_without order.number line) order (inl refl))

pub from_after : (change : Change) (line : List Resting) (x : Resting) → IsOfNumber change → IsIn x (line_after change line) → IsAfter change line x
from_after change line x own i = go change.next refl i
  where
    go : (next : Option Resting) → change.next ≡ next → IsIn x (line_after (record change { next = next }) line) → IsAfter change line x
    go None e j = inl (from_less change.number line x j)
    go (Some order) e j = elim (from_changed order line x j) [
      | inl old ↦ inl (old.0, λ same. old.1 (same ∙ sym (own order e)))
      | inr new ↦ inr (ap (λ n. stands n line) (sym (own order e)) ∙ new.0, e ∙ ap Some (sym new.1))
    ]

pub in_after : (change : Change) (line : List Resting) (x : Resting) → IsOfNumber change → IsAfter change line x → IsIn x (line_after change line)
in_after change line x own is = go change.next refl
  where
    go : (next : Option Resting) → change.next ≡ next → IsIn x (line_after (record change { next = next }) line)
    go None e = elim is [
      | inl old ↦ in_less change.number line x old.0 old.1
      | inr new ↦ absurd (let none : None ≡ Some x = sym e ∙ new.1 in cc)
    ]
    go (Some order) e = elim is [
      | inl old ↦ in_changed-old order line x old.0 (λ same. old.1 (same ∙ own order e))
      | inr new ↦
          let same : order ≡ x = (let both : Some order ≡ Some x = sym e ∙ new.1 in cc) in
          subst (λ y. IsIn y (changed_line order line)) same (in_changed-new order line (ap (λ n. stands n line) (own order e) ∙ new.0))
    ]

-- a new record of an order of a line is of the line's side
abbrev pub IsOfSide : Side → Change → List Resting → Type 0
IsOfSide side change line = (order : Resting) → change.next ≡ Some order → stands change.number line ≡ true → order.side ≡ side

pub after-strict : (side : Side) (change : Change) (line : List Resting) → IsOfNumber change → IsOfSide side change line
    → IsStrictlyInOrder (resting_cmp side) line → IsStrictlyInOrder (resting_cmp side) (line_after change line)
after-strict side change line own sided strict = go change.next refl
  where
    less : (number : ℕ) → IsStrictlyInOrder (resting_cmp side) (line_without number line)
    less number = in_order-filter (resting_cmp side) (λ order. not (has_number number order)) line strict

    changed : (order : Resting) → change.next ≡ Some order → (b : Bool) → stands order.number line ≡ b
        → IsStrictlyInOrder (resting_cmp side) (if b then put_in_order (resting_cmp order.side) (line_without order.number line) order else line)
    changed order e false is = strict
    changed order e true is =
        let of_side : order.side ≡ side = sided order e (ap (λ n. stands n line) (sym (own order e)) ∙ is) in
        subst (λ s. IsStrictlyInOrder (resting_cmp side) (put_in_order (resting_cmp s) (line_without order.number line) order)) (sym of_side)
        (in_order-put (resting_cmp side) (resting_weak side) (line_without order.number line) order (less order.number)
        (λ other i not_before. resting-apart side order other (λ same. (from_less order.number line other i).1 (sym same)) not_before))

    go : (next : Option Resting) → change.next ≡ next → IsStrictlyInOrder (resting_cmp side) (line_after (record change { next = next }) line)
    go None e = less change.number
    go (Some order) e = changed order e (stands order.number line) refl

-- ---- several changes, one after the other, of orders of different numbers

abbrev pub lines_after : List Change → List Resting → List Resting
lines_after changes line = fold (λ l change. line_after change l) line changes

abbrev pub NumbersDiffer : List Change → Type 0
NumbersDiffer [] = Unit {0}
NumbersDiffer (change ∷ changes) = ((other : Change) → IsIn other changes → change.number ≢ other.number) × NumbersDiffer changes

abbrev pub AreOfNumbers : List Change → Type 0
AreOfNumbers changes = (change : Change) → IsIn change changes → IsOfNumber change

-- a new record among some changes of orders of a line
pub record IsNew (changes : List Change) (line : List Resting) (x : Resting) : Type 0 where
  pub change : Change
  pub is_change : IsIn change changes
  pub stood : stands change.number line ≡ true
  pub is : change.next ≡ Some x

abbrev pub AreAfter : List Change → List Resting → Resting → Type 0
AreAfter changes line x = (IsIn x line × ((change : Change) → IsIn change changes → x.number ≢ change.number)) ⊎ IsNew changes line x

-- a number stands in a line after the change of another as it stood before
stands-before : (change : Change) (line : List Resting) (number : ℕ) → IsOfNumber change → change.number ≢ number
    → stands number (line_after change line) ≡ true → stands number line ≡ true
stands-before change line number own differs is =
    let there = from_stands number (line_after change line) is in
    elim (from_after change line there.0 own there.1) [
      | inl old ↦ is-stands number line there.0 old.0 there.2
      | inr new ↦ absurd (differs (sym (own there.0 new.1) ∙ there.2))
    ]

stands-after : (change : Change) (line : List Resting) (number : ℕ) → IsOfNumber change → change.number ≢ number → stands number line ≡ true
    → stands number (line_after change line) ≡ true
stands-after change line number own differs is =
    let there = from_stands number line is in
    is-stands number (line_after change line) there.0 (in_after change line there.0 own (inl (there.1, λ same. differs (sym same ∙ there.2)))) there.2

pub from_all : (changes : List Change) (line : List Resting) (x : Resting) → AreOfNumbers changes → NumbersDiffer changes
    → IsIn x (lines_after changes line) → AreAfter changes line x
from_all [] line x own differ i = inl (i, λ change j. absurd j)
from_all (change ∷ changes) line x own differ i = elim (from_all changes (line_after change line) x (λ c j. own c (inr j)) differ.1 i) [
  | inl old ↦ elim (from_after change line x (own change (inl refl)) old.0) [
    | inl older ↦ inl (older.0, λ c j. elim j [ inl same ↦ λ e. older.1 (e ∙ ap (λ (d : Change). d.number) same) | inr k ↦ old.1 c k ])
    | inr new ↦ inr (record { change = change; is_change = inl refl; stood = new.0; is = new.1 })
  ]
  | inr later ↦ inr (record {
    change = later.change;
    is_change = inr later.is_change;
    stood = stands-before change line later.change.number (own change (inl refl)) (differ.0 later.change later.is_change) later.stood;
    is = later.is;
  })
]

pub in_all : (changes : List Change) (line : List Resting) (x : Resting) → AreOfNumbers changes → NumbersDiffer changes → AreAfter changes line x
    → IsIn x (lines_after changes line)
in_all [] line x own differ is = elim is [ inl old ↦ old.0 | inr new ↦ absurd new.is_change ]
in_all (change ∷ changes) line x own differ is =
    in_all changes (line_after change line) x (λ c j. own c (inr j)) differ.1 (elim is [
      | inl old ↦ inl (in_after change line x (own change (inl refl)) (inl (old.0, old.1 change (inl refl))), λ c j. old.1 c (inr j))
      | inr new ↦ by new new.is_change
    ])
  where
    by : (new : IsNew (change ∷ changes) line x) → IsIn new.change (change ∷ changes) → AreAfter changes (line_after change line) x
    by new (inl same) =
        let next : change.next ≡ Some x = ap (λ (c : Change). c.next) (sym same) ∙ new.is in
        let stood : stands change.number line ≡ true = ap (λ (c : Change). stands c.number line) (sym same) ∙ new.stood in
        let of_number : x.number ≡ change.number = own change (inl refl) x next in
        inl (in_after change line x (own change (inl refl)) (inr (stood, next)), λ c j e. differ.0 c j (sym of_number ∙ e))
    by new (inr later) = inr (record {
      change = new.change;
      is_change = later;
      stood = stands-after change line new.change.number (own change (inl refl)) (differ.0 new.change later) new.stood;
      is = new.is;
    })

pub all-strict : (side : Side) (changes : List Change) (line : List Resting) → AreOfNumbers changes → NumbersDiffer changes
    → ((change : Change) → IsIn change changes → IsOfSide side change line)
    → IsStrictlyInOrder (resting_cmp side) line → IsStrictlyInOrder (resting_cmp side) (lines_after changes line)
all-strict side [] line own differ sided strict = strict
all-strict side (change ∷ changes) line own differ sided strict =
    all-strict side changes (line_after change line) (λ c j. own c (inr j)) differ.1
    (λ c j order e is. sided c (inr j) order e (stands-before change line c.number (own change (inl refl)) (differ.0 c j) is))
    (after-strict side change line (own change (inl refl)) (sided change (inl refl)) strict)

-- of two changes without the order of the second the first is left
module _ (side : Side) (first second : Change) (line : List Resting) (first_own : IsOfNumber first) (second_own : IsOfNumber second)
    (apart : first.number ≢ second.number)
    (first_sided : IsOfSide side first line) (second_sided : IsOfSide side second line) (strict : IsStrictlyInOrder (resting_cmp side) line) where
  abbrev both : List Change
  both = first ∷ second ∷ []

  abbrev less : List Resting → List Resting
  less = line_without second.number

  both_own : AreOfNumbers both
  both_own change i = elim i [
    | inl same ↦ subst IsOfNumber (sym same) first_own
    | inr j ↦ elim j [ inl same ↦ subst IsOfNumber (sym same) second_own | inr k ↦ absurd k ]
  ]

  both_differ : NumbersDiffer both
  both_differ = (λ other i. elim i [ inl same ↦ λ e. apart (e ∙ ap (λ (c : Change). c.number) same) | inr j ↦ absurd j ], (λ other i. absurd i, tt))

  both_sided : (change : Change) → IsIn change both → IsOfSide side change line
  both_sided change i = elim i [
    | inl same ↦ subst (λ c. IsOfSide side c line) (sym same) first_sided
    | inr j ↦ elim j [ inl same ↦ subst (λ c. IsOfSide side c line) (sym same) second_sided | inr k ↦ absurd k ]
  ]

  less-strict : (xs : List Resting) → IsStrictlyInOrder (resting_cmp side) xs → IsStrictlyInOrder (resting_cmp side) (less xs)
  less-strict xs ordered = in_order-filter (resting_cmp side) (λ order. not (has_number second.number order)) xs ordered

  stands-less : stands first.number line ≡ true → stands first.number (less line) ≡ true
  stands-less is =
      let there = from_stands first.number line is in
      is-stands first.number (less line) there.0 (in_less second.number line there.0 there.1 (λ same. apart (sym there.2 ∙ same))) there.2

  less-stands : stands first.number (less line) ≡ true → stands first.number line ≡ true
  less-stands is =
      let there = from_stands first.number (less line) is in is-stands first.number line there.0 (from_less second.number line there.0 there.1).0 there.2

  to_first : (x : Resting) → IsIn x (less (lines_after both line)) → IsIn x (line_after first (less line))
  to_first x i =
      let there = from_less second.number (lines_after both line) x i in
      elim (from_all both line x both_own both_differ there.0) [
        | inl old ↦ in_after first (less line) x first_own (inl (in_less second.number line x old.0 there.1, old.1 first (inl refl)))
        | inr new ↦ elim new.is_change [
          | inl same ↦ in_after first (less line) x first_own (inr (
            stands-less (ap (λ (c : Change). stands c.number line) (sym same) ∙ new.stood),
            ap (λ (c : Change). c.next) (sym same) ∙ new.is,
          ))
          | inr j ↦ elim j [
            | inl same ↦ absurd (there.1 (second_own x (ap (λ (c : Change). c.next) (sym same) ∙ new.is)))
            | inr k ↦ absurd k
          ]
        ]
      ]

  from_first : (x : Resting) → IsIn x (line_after first (less line)) → IsIn x (less (lines_after both line))
  from_first x i = elim (from_after first (less line) x first_own i) [
    | inl old ↦
        let there = from_less second.number line x old.0 in
        in_less second.number (lines_after both line) x (in_all both line x both_own both_differ (inl (
          there.0,
          λ change j. elim j [
            | inl same ↦ λ e. old.1 (e ∙ ap (λ (c : Change). c.number) same)
            | inr k ↦ elim k [ inl same ↦ λ e. there.1 (e ∙ ap (λ (c : Change). c.number) same) | inr none ↦ absurd none ]
          ],
        ))) there.1
    | inr new ↦
        in_less second.number (lines_after both line) x
        (in_all both line x both_own both_differ (inr (record { change = first; is_change = inl refl; stood = less-stands new.0; is = new.1 })))
        (λ same. apart (sym (first_own x new.1) ∙ same))
  ]

  pub less-both : less (lines_after both line) ≡ line_after first (less line)
  less-both =
      in_order-one (resting_cmp side) (resting_weak side) (less (lines_after both line)) (line_after first (less line))
      (less-strict (lines_after both line) (all-strict side both line both_own both_differ both_sided strict))
      (after-strict side first (less line) first_own (λ order e is. first_sided order e (less-stands is)) (less-strict line strict))
      to_first from_first

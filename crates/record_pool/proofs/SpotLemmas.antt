-- How a walk from both ends of a line finds the spot of a record.
use Rattle.std.proofs.Common.{◌≡◌, ◌∙◌, inl, inr, ℕ, ◌<◌, Bool, true, false, List, [], ◌∷◌, ◌++◌, length, Contains, Option, Some, None, IsSome, refl, sym, ap, subst, append-nil, append_assoc}
use Rattle.std.proofs.lemmas.Bool.{true≢false}
use Rattle.std.proofs.lemmas.List.Elements.{filter_map-append}
use Rattle.std.specs.Cmp.{IsStrictWeakOrder, IsTotalOrder}
use Rattle.std.specs.List.{cons_option}
use Rattle.std.specs.Ordering.{is_lt}
use Rattle.std.specs.declared.cmp.Ordering.{Ordering}
use Rattle.std.proofs.lemmas.List.Sorted.{ranks_by}
use Rattle.order_pool.specs.Lines.{line_at, StandsIn, StandsBetween, StandOnce, IsNext, first_in}
use Rattle.zone_graph.specs.InOrder.{IsStrictlyInOrder}
use Rattle.zone_graph.specs.Route.{IsIn}
use Rattle.zone_graph.proofs.InOrder.{is_before, before-through, not_before-through, in_order-ahead, in_order-behind}
use Rattle.zone_graph.proofs.Membership.{IsIn-append}
use Rattle.record_pool.specs.Keyed.{held_at}
use Rattle.record_pool.specs.Ranked.{records_of, IsSpot}
use Rattle.record_pool.proofs.Walks.{Each, IsWalked, IsWalkedBack, walked-between, walked-stands, walked-all, walked_back-between, walked_back-all}

-- a fact of the record that a place holds
abbrev pub Of : {T : Type 0} → (T → Type 0) → List (Option T) → ℕ → Type 0
Of {T} Q places place = (item : T) → held_at places place ≡ Some item → Q item

-- a record comes before another, or does not
abbrev pub IsBefore : {T : Type 0} → (T → T → Ordering) → (joining : T) → Bool → T → Type 0
IsBefore cmp joining b item = is_lt (cmp joining item) ≡ b

module _ {T : Type 0} (places : List (Option T)) where
  -- a fact of what each place holds is one of each record
  pub each-record : (Q : T → Type 0) (line : List ℕ) → Each (Of Q places) line → (item : T) → IsIn item (records_of places line) → Q item
  each-record Q [] each item i = absurd i
  each-record Q (place ∷ line) each item i = go (each-record Q line each.1 item) (held_at places place) refl i
    where
      go : (IsIn item (records_of places line) → Q item) → (o : Option T) → held_at places place ≡ o → IsIn item (cons_option o (records_of places line)) → Q item
      go rest None e k = rest k
      go rest (Some x) e k = elim k [ inl same ↦ subst Q (sym same) (each.0 x e) | inr j ↦ rest j ]

  -- the records of a line through a place that holds one
  pub records-through : (front back : List ℕ) (place : ℕ) (item : T) → held_at places place ≡ Some item
      → records_of places (front ++ place ∷ back) ≡ records_of places front ++ item ∷ records_of places back
  records-through front back place item holds =
      filter_map-append (held_at places) front (place ∷ back) ∙ ap (λ o. records_of places front ++ cons_option o (records_of places back)) holds

-- a place holds one record at the most, so what was read of it is the fact of the place
pub before-read : {T : Type 0} (cmp : T → T → Ordering) (joining : T) (places : List (Option T)) (place : ℕ) (item : T) (b : Bool) → held_at places place ≡ Some item → is_lt (cmp joining item) ≡ b
    → Of (IsBefore cmp joining b) places place
before-read cmp joining places place item b holds before other holds_too =
    let same : item ≡ other = cc in subst (IsBefore cmp joining b) same before

module _ {T : Type 0} (cmp : T → T → Ordering) (total : IsTotalOrder cmp) (places : List (Option T)) (lines : List (List ℕ)) (k : ℕ) (within : k < length lines) (once : StandOnce lines)
    (sorted : IsStrictlyInOrder cmp (records_of places (line_at lines k))) (joining : T) where
  weak : IsStrictWeakOrder (λ (x y : T). is_lt (cmp x y))
  weak = ranks_by total (λ (x : T). x)

  abbrev Before : Bool → T → Type 0
  Before = IsBefore cmp joining

  -- the first place whose record it comes before is its spot
  pub spot-from_front : (place : ℕ) (item : T) (at : Option ℕ) → at ≡ Some place → held_at places place ≡ Some item → is_lt (cmp joining item) ≡ true
      → IsWalked (Of (Before false) places) (line_at lines k) at → IsSpot cmp places (line_at lines k) joining (Some place)
  spot-from_front place item at is holds before walked_at =
      let walked = subst (IsWalked (Of (Before false) places) (line_at lines k)) is walked_at in
      let between = walked-between lines once k within (Of (Before false) places) place walked in
      let shown : IsStrictlyInOrder cmp (records_of places walked.front ++ item ∷ records_of places between.0) =
      subst (IsStrictlyInOrder cmp) (ap (records_of places) between.1.1 ∙ records-through places walked.front between.0 place item holds) sorted in
      let here : records_of places (place ∷ between.0) ≡ item ∷ records_of places between.0 = records-through places [] between.0 place item holds in
      record {
        front = walked.front;
        back = place ∷ between.0;
        whole = between.1.1;
        at = refl;
        ahead = each-record places (Before false) walked.front walked.passed;
        behind = λ other i. elim (subst (IsIn other) here i) [
          | inl same ↦ subst (λ x. is_lt (cmp joining x) ≡ true) (sym same) before
          | inr j ↦ before-through cmp weak joining item other before (in_order-behind cmp (records_of places walked.front) (records_of places between.0) item shown other j)
        ];
      }

  -- right behind the last place whose record it does not come before is its spot
  pub spot-from_back : (place : ℕ) (item : T) (at next : Option ℕ) → at ≡ Some place → held_at places place ≡ Some item → is_lt (cmp joining item) ≡ false
      → IsNext lines place next → IsWalkedBack (Of (Before true) places) (line_at lines k) at → IsSpot cmp places (line_at lines k) joining next
  spot-from_back place item at next is holds not_before next_is walked_at =
      let walked = subst (IsWalkedBack (Of (Before true) places) (line_at lines k)) is walked_at in
      let between = walked_back-between lines k within (Of (Before true) places) place walked in
      let shown : IsStrictlyInOrder cmp (records_of places between.0 ++ item ∷ records_of places walked.back) =
      subst (IsStrictlyInOrder cmp) (ap (records_of places) between.1.1 ∙ records-through places between.0 walked.back place item holds) sorted in
      let here : records_of places (between.0 ++ place ∷ []) ≡ records_of places between.0 ++ item ∷ [] = records-through places between.0 [] place item holds in
      record {
        front = between.0 ++ place ∷ [];
        back = walked.back;
        whole = between.1.1 ∙ sym (append_assoc between.0 (place ∷ []) walked.back);
        at = next_is k between.0 walked.back between.1;
        ahead = λ other i. elim (IsIn-append other (records_of places between.0) (item ∷ []) (subst (IsIn other) here i)) [
          | inl l ↦ not_before-through cmp weak joining item other not_before (in_order-ahead cmp (records_of places between.0) (records_of places walked.back) item shown other l)
          | inr r ↦ elim r [ inl same ↦ subst (λ x. is_lt (cmp joining x) ≡ false) (sym same) not_before | inr j ↦ absurd j ]
        ];
        behind = each-record places (Before true) walked.back walked.passed;
      }

  -- a record that comes before none has its spot at the end
  pub spot-at_end : (at : Option ℕ) → at ≡ None → IsWalked (Of (Before false) places) (line_at lines k) at → IsSpot cmp places (line_at lines k) joining None
  spot-at_end at is walked_at =
      let walked = subst (IsWalked (Of (Before false) places) (line_at lines k)) is walked_at in
      record {
        front = line_at lines k;
        back = [];
        whole = sym (append-nil (line_at lines k));
        at = refl;
        ahead = each-record places (Before false) (line_at lines k) (subst (Each (Of (Before false) places)) (sym (whole walked)) walked.passed);
        behind = λ other i. absurd i;
      }
    where
      empty : (ps : List ℕ) → None ≡ first_in ps → ps ≡ []
      empty [] e = refl
      empty (p ∷ ps) e = absurd (cc)

      whole : (walked : IsWalked (Of (Before false) places) (line_at lines k) None) → line_at lines k ≡ walked.front
      whole walked = walked.whole ∙ ap (λ b. walked.front ++ b) (empty walked.back walked.now) ∙ append-nil walked.front

  -- where the walk back has ended, no place is left whose record it does not come before
  pub back-not_ended : (place : ℕ) (item : T) (at behind : Option ℕ) → at ≡ Some place → behind ≡ None → held_at places place ≡ Some item → is_lt (cmp joining item) ≡ false
      → IsWalked (Of (Before false) places) (line_at lines k) at → IsWalkedBack (Of (Before true) places) (line_at lines k) behind → ⊥
  back-not_ended place item at behind is ended holds not_before walked_at walked_behind =
      let walked = subst (IsWalked (Of (Before false) places) (line_at lines k)) is walked_at in
      let stands = walked-stands lines once k within (Of (Before false) places) place walked in
      let all = walked_back-all lines k within (Of (Before true) places) (subst (IsWalkedBack (Of (Before true) places) (line_at lines k)) ended walked_behind) in
      true≢false (sym (all place stands.1 item holds) ∙ not_before)

-- A list in order ascends: no item of it goes before one that stands in front of it. So what is found
-- first in it is found before all that go behind.
use Rattle.std.proofs.Common.{◌≡◌, ◌∙◌, inl, inr, Bool, true, false, cond, List, [], ◌∷◌, fold, Option, Some, None, refl, sym, ap, if◌then◌else◌}
use Rattle.std.proofs.lemmas.Bool.{false_from_ne_true, true≢false}
use Rattle.std.specs.Cmp.{IsStrictWeakOrder}
use Rattle.std.specs.List.{find}
use Rattle.std.specs.Ordering.{is_lt}
use Rattle.std.specs.declared.cmp.Ordering.{Ordering}
use Rattle.zone_graph.specs.Route.{IsIn}
use Rattle.market_model.specs.Sweep.{first_answer, or_else}
use Rattle.zone_graph.specs.InOrder.{put_in_order, in_order}
use Rattle.zone_graph.proofs.InOrder.{from_put_in_order}

module _ {X : Type 0} (cmp : X → X → Ordering) (o : IsStrictWeakOrder (λ (x y : X). is_lt (cmp x y))) where
  -- an item comes before another
  abbrev pub lt : X → X → Bool
  lt x y = is_lt (cmp x y)

  pub itself : (x : X) → lt x x ≡ false
  itself x = false_from_ne_true (lt x x) (λ h. true≢false (sym h ∙ o.one_way x x h))

  -- what comes after an item comes after all that it comes before
  pub after : (x y z : X) → lt x y ≡ true → lt z y ≡ false → lt z x ≡ false
  after x y z before not_before = o.chain z y x not_before (o.one_way x y before)

  -- what comes before an item comes before all that do not come before that one
  pub before_too : (x y z : X) → lt x y ≡ true → lt z y ≡ false → lt x z ≡ true
  before_too x y z before not_before = go (lt x z) refl
    where
      go : (b : Bool) → lt x z ≡ b → b ≡ true
      go true e = refl
      go false e = absurd (true≢false (sym before ∙ o.chain x z y e not_before))

  -- no item comes before one that stands in front of it
  abbrev pub Ascends : List X → Type 0
  Ascends [] = Unit {0}
  Ascends (y ∷ ys) = ((z : X) → IsIn z ys → lt z y ≡ false) × Ascends ys

  -- an item put in order
  pub ascends-put : (ys : List X) (x : X) → Ascends ys → Ascends (put_in_order cmp ys x)
  ascends-put [] x up = (λ z i. absurd i, tt)
  ascends-put (y ∷ ys) x up = go (ascends-put ys x up.1) (lt x y) refl
    where
      go : Ascends (put_in_order cmp ys x) → (b : Bool) → lt x y ≡ b → Ascends (if b then (x ∷ y ∷ ys) else (y ∷ put_in_order cmp ys x))
      go rest true e = (λ z i. elim i [ inl s ↦ rw s (o.one_way x y e) | inr j ↦ after x y z e (up.0 z j) ], up)
      go rest false e = (λ z i. elim (from_put_in_order cmp z ys x i) [ inl s ↦ rw s e | inr j ↦ up.0 z j ], rest)

  pub ascends-fold : (ys xs : List X) → Ascends ys → Ascends (fold (put_in_order cmp) ys xs)
  ascends-fold ys [] up = up
  ascends-fold ys (x ∷ xs) up = ascends-fold (put_in_order cmp ys x) xs (ascends-put ys x up)

  pub ascends-in_order : (xs : List X) → Ascends (in_order cmp xs)
  ascends-in_order xs = ascends-fold [] xs tt

  -- the first that passes a test: none that comes before it does
  pub found-first : (p : X → Bool) (xs : List X) (x : X) → Ascends xs → find p xs ≡ Some x → (y : X) → IsIn y xs → lt y x ≡ true → p y ≡ false
  found-first p [] x up e y i less = absurd i
  found-first p (z ∷ zs) x up e y i less = go (p z) refl e (λ k j. found-first p zs x up.1 k y j less)
    where
      go : (b : Bool) → p z ≡ b → cond b (Some z) (find p zs) ≡ Some x → (find p zs ≡ Some x → IsIn y zs → p y ≡ false) → p y ≡ false
      go true is k later =
          let same : z ≡ x = cc in
          elim i [
            | inl s ↦ absurd (true≢false (sym less ∙ ap (lt y) (sym same) ∙ ap (λ w. lt w z) s ∙ itself z))
            | inr j ↦ absurd (true≢false (sym less ∙ ap (lt y) (sym same) ∙ up.0 y j))
          ]
      go false is k later = elim i [ inl s ↦ ap p s ∙ is | inr j ↦ later k j ]

  -- the item whose answer is the first: none that comes before it has an answer
  pub record IsFirstAsked {Y : Type 0} (ask : X → Option Y) (xs : List X) (answer : Y) : Type 0 where
    pub item : X
    pub is_in : IsIn item xs
    pub answers : ask item ≡ Some answer
    pub none_before : (y : X) → IsIn y xs → lt y item ≡ true → ask y ≡ None

  pub asked-first : {Y : Type 0} (ask : X → Option Y) (xs : List X) (answer : Y) → Ascends xs → first_answer ask xs ≡ Some answer → IsFirstAsked ask xs answer
  asked-first ask [] answer up e = absurd (cc)
  asked-first {Y} ask (x ∷ xs) answer up e = go (ask x) refl e (asked-first ask xs answer up.1)
    where
      go : (a : Option Y) → ask x ≡ a → or_else a (λ _. first_answer ask xs) ≡ Some answer
          → (first_answer ask xs ≡ Some answer → IsFirstAsked ask xs answer) → IsFirstAsked ask (x ∷ xs) answer
      go None is k later =
          let r = later k in
          record {
            item = r.item;
            is_in = inr r.is_in;
            answers = r.answers;
            none_before = λ y i less. elim i [ inl s ↦ ap ask s ∙ is | inr j ↦ r.none_before y j less ];
          }
      go (Some a) is k later = record {
        item = x;
        is_in = inl refl;
        answers = is ∙ k;
        none_before = λ y i less. elim i [
          | inl s ↦ absurd (true≢false (sym less ∙ ap (λ w. lt w x) s ∙ itself x))
          | inr j ↦ absurd (true≢false (sym less ∙ up.0 y j))
        ];
      }

-- The first sells of the zones decide for the buys: a sell behind another of its zone can only do worse.
use Rattle.std.proofs.Common.{◌≡◌, ◌∙◌, ◌<◌, ◌&&◌, inl, inr, ℕ, ◌==◌, eqb-true, Bool, true, false, List, [], ◌∷◌, ◌++◌, append_assoc, length, Option, Some, None, if◌then◌else◌, refl, sym, ap, subst}
use Rattle.std.proofs.lemmas.Bool.{and_from, and_parts, false_from_ne_true, true≢false}
use Rattle.std.specs.List.{find}
use Rattle.std.specs.Ordering.{is_lt}
use Rattle.order_kinds.specs.declared.side.Side.TheVariants.{Buy, Sell}
use Rattle.order_kinds.specs.Side.{crosses, price_cmp}
use Rattle.zone_graph.specs.Graph.{Graph}
use Rattle.zone_graph.specs.Route.{IsIn}
use Rattle.zone_graph.proofs.Membership.{IsIn-left, IsIn-right}
use Rattle.market_model.specs.declared.board.Shown.{Shown}
use Rattle.laws_of_boards.proofs.Worse.{crosses-worse}
use Rattle.sweep_core.specs.Meeting.{AreFronts, can_meet_from, first_of, from_order, is_marked}
use Rattle.sweep_core.proofs.Lines.{IsLine, WorseBehind, number_of, worse-behind}
use Rattle.sweep_core.proofs.FreeZones.{MarksToo}
use Rattle.zone_graph.proofs.Walks.{GoesOn, StandsAt, after_in, fewer, goes-on, stands-at, stands-in}

-- ---- what is found in a list

find-later : (p : Shown → Bool) (x : Shown) (xs : List Shown) → p x ≡ false → find p (x ∷ xs) ≡ find p xs
find-later p x xs e = ap (λ b. if b then Some x else find p xs) e

pub find-nothing : (p : Shown → Bool) (xs : List Shown) → ((x : Shown) → IsIn x xs → p x ≡ false) → find p xs ≡ None
find-nothing p [] none = refl
find-nothing p (x ∷ xs) none = find-later p x xs (none x (inl refl)) ∙ find-nothing p xs (λ y i. none y (inr i))

-- of some orders that do not pass none is found behind others
pub find-front : (p : Shown → Bool) (xs ys : List Shown) → ((y : Shown) → IsIn y ys → p y ≡ false) → find p (xs ++ ys) ≡ find p xs
find-front p [] ys none = find-nothing p ys none
find-front p (x ∷ xs) ys none = ap (λ o. if p x then Some x else o) (find-front p xs ys none)

-- an order that passes only where one in front of it does is not missed
pub find-hidden : (p : Shown → Bool) (xs ys : List Shown) (front order : Shown) → IsIn front xs → (p front ≡ false → p order ≡ false)
    → find p (xs ++ order ∷ ys) ≡ find p (xs ++ ys)
find-hidden p [] ys front order i worse = absurd i
find-hidden p (x ∷ xs) ys front order i worse = go (λ j. find-hidden p xs ys front order j worse) (p x) refl i
  where
    later : (zs : List Shown) → p front ≡ false → find p (zs ++ order ∷ ys) ≡ find p (zs ++ ys)
    later [] none = find-later p order ys (worse none)
    later (z ∷ zs) none = ap (λ o. if p z then Some z else o) (later zs none)

    go : (IsIn front xs → find p (xs ++ order ∷ ys) ≡ find p (xs ++ ys)) → (b : Bool) → p x ≡ b → IsIn front (x ∷ xs) → (if b then Some x else find p (xs ++ order ∷ ys)) ≡ (if b then Some x else find p (xs ++ ys))
    go onward true e j = refl
    go onward false e (inl same) = later xs (ap p same ∙ e)
    go onward false e (inr j) = onward j

-- ---- fronts

-- a sell of the zone of another at no better price is met only where that one is
pub met-worse : (leads : ℕ → Bool) (buy front sell : Shown) → front.zone ≡ sell.zone → is_lt (price_cmp Sell sell.price front.price) ≡ false
    → can_meet_from leads buy front ≡ false → can_meet_from leads buy sell ≡ false
met-worse leads buy front sell zone worse none =
    false_from_ne_true (can_meet_from leads buy sell) (λ now.
    let parts = and_parts (crosses Buy buy.price sell.price) (leads sell.zone) now in
    go (crosses Buy buy.price front.price) refl parts.0 (ap leads zone ∙ parts.1))
  where
    go : (c : Bool) → crosses Buy buy.price front.price ≡ c → crosses Buy buy.price sell.price ≡ true → leads front.zone ≡ true → ⊥
    go true e now known = true≢false (sym (and_from (crosses Buy buy.price front.price) (leads front.zone) e known) ∙ none)
    go false e now known = true≢false (sym now ∙ crosses-worse Buy buy.price front.price sell.price worse e)

-- a sell that the best buy's price does not cross is met by no buy behind it
pub met-uncrossed : (leads : ℕ → Bool) (best buy sell : Shown) → is_lt (price_cmp Buy buy.price best.price) ≡ false
    → crosses Buy best.price sell.price ≡ false → can_meet_from leads buy sell ≡ false
met-uncrossed leads best buy sell worse none =
    ap (λ b. b && leads sell.zone) (crosses-worse Sell sell.price best.price buy.price worse none)

-- the fronts so far and what is left of a line decide as the line does
abbrev pub FrontsDecide : (line : List Shown) (best : Shown) (fronts left : List Shown) → Type 0
FrontsDecide line best fronts left = (leads : ℕ → Bool) (buy : Shown) → is_lt (price_cmp Buy buy.price best.price) ≡ false
    → find (can_meet_from leads buy) (fronts ++ left) ≡ find (can_meet_from leads buy) line

-- what is left of a line in the marked zones is hidden by a front
abbrev pub MarkedAreHidden : (marks : List Bool) (fronts left : List Shown) → Type 0
MarkedAreHidden marks fronts left = (sell : Shown) → IsIn sell left → is_marked marks sell.zone ≡ true
    → (front : Shown) × IsIn front fronts × (front.zone ≡ sell.zone) × (is_lt (price_cmp Sell sell.price front.price) ≡ false)

-- nothing is left that crosses
pub fronts-end : (line : List Shown) (best : Shown) (fronts left : List Shown) → FrontsDecide line best fronts left
    → ((sell : Shown) → IsIn sell left → crosses Buy best.price sell.price ≡ false) → AreFronts line best fronts
fronts-end line best fronts left decide none leads buy worse =
    sym (find-front (can_meet_from leads buy) fronts left (λ sell i. met-uncrossed leads best buy sell worse (none sell i))) ∙ decide leads buy worse

-- a sell whose zone is marked is left out
pub fronts-skip : (line : List Shown) (best : Shown) (marks : List Bool) (fronts back : List Shown) (sell : Shown) → FrontsDecide line best fronts (sell ∷ back)
    → MarkedAreHidden marks fronts (sell ∷ back) → is_marked marks sell.zone ≡ true → FrontsDecide line best fronts back
fronts-skip line best marks fronts back sell decide hidden marked leads buy worse =
    let by = hidden sell (inl refl) marked in
    sym (find-hidden (can_meet_from leads buy) fronts back by.0 sell by.1 (met-worse leads buy by.0 sell by.2 by.3)) ∙ decide leads buy worse

-- the first of its zone is a front
pub fronts-more : (line : List Shown) (best : Shown) (fronts back : List Shown) (sell : Shown) → FrontsDecide line best fronts (sell ∷ back)
    → FrontsDecide line best (fronts ++ sell ∷ []) back
fronts-more line best fronts back sell decide leads buy worse =
    ap (find (can_meet_from leads buy)) (append_assoc fronts (sell ∷ []) back) ∙ decide leads buy worse

-- and it hides those of its zone behind it
pub hidden-more : (marks more : List Bool) (fronts back : List Shown) (sell : Shown) → MarkedAreHidden marks fronts (sell ∷ back)
    → ((other : Shown) → IsIn other back → is_lt (price_cmp Sell other.price sell.price) ≡ false)
    → MarksToo sell.zone marks more → MarkedAreHidden more (fronts ++ sell ∷ []) back
hidden-more marks more fronts back sell hidden worse marked other i m = go (other.zone == sell.zone) refl
  where
    go : (b : Bool) → (other.zone == sell.zone) ≡ b
        → (front : Shown) × IsIn front (fronts ++ sell ∷ []) × (front.zone ≡ other.zone) × (is_lt (price_cmp Sell other.price front.price) ≡ false)
    go true e = (sell, IsIn-right sell fronts (sell ∷ []) (inl refl), sym (eqb-true other.zone sell.zone e), worse other i)
    go false e =
        let by = hidden other (inr i) (sym (ap (λ b. if b then true else is_marked marks other.zone) e) ∙ sym (marked other.zone) ∙ m) in
        (by.0, IsIn-left by.0 fronts (sell ∷ []) by.1, by.2, by.3)

-- and where one hides them already, it does so on
pub hidden-still : (marks more : List Bool) (fronts back : List Shown) (sell : Shown) → MarkedAreHidden marks fronts (sell ∷ back)
    → is_marked marks sell.zone ≡ true → MarksToo sell.zone marks more → MarkedAreHidden more fronts back
hidden-still marks more fronts back sell hidden taken marked other i m = hidden other (inr i) (go (other.zone == sell.zone) refl)
  where
    go : (b : Bool) → (other.zone == sell.zone) ≡ b → is_marked marks other.zone ≡ true
    go true e = ap (is_marked marks) (eqb-true other.zone sell.zone e) ∙ taken
    go false e = sym (ap (λ b. if b then true else is_marked marks other.zone) e) ∙ sym (marked other.zone) ∙ m

-- ---- the walk along the sells

-- a walk begins with no front and no mark
pub decide-none : (line : List Shown) (best : Shown) (fronts left : List Shown) → fronts ≡ [] → left ≡ line → FrontsDecide line best fronts left
decide-none line best fronts left none whole leads buy worse =
    ap (λ xs. find (can_meet_from leads buy) (xs ++ left)) none ∙ ap (find (can_meet_from leads buy)) whole

module _ (graph : Graph) (line : List Shown) (is_line : IsLine graph Sell line) (best : Shown) (fronts : List Shown) (marks : List Bool) (found : Option Shown)
    (stands : found ≡ first_of (from_order line found))
    (decide : FrontsDecide line best fronts (from_order line found))
    (hidden : MarkedAreHidden marks fronts (from_order line found)) where
  -- no sell is left
  pub walk-ended : found ≡ None → AreFronts line best fronts
  walk-ended none = fronts-end line best fronts (from_order line found) decide (λ sell i. absurd (subst (IsIn sell) (ap (from_order line) none) i))

  module _ (sell : Shown) (is : found ≡ Some sell) where
    at : StandsAt number_of line sell
    at = stands-at number_of line found sell is stands

    here : from_order line found ≡ sell ∷ at.back
    here = ap (from_order line) is ∙ at.here

    pub walk-there : IsIn sell line
    walk-there = stands-in number_of line sell at

    behind : (other : Shown) → IsIn other at.back → is_lt (price_cmp Sell other.price sell.price) ≡ false
    behind other i = worse-behind Sell at.front at.back sell (subst (WorseBehind Sell) at.parts is_line.worse) other i

    -- its price does not cross, and so none behind it does
    pub walk-uncrossed : crosses Buy best.price sell.price ≡ false → AreFronts line best fronts
    walk-uncrossed apart =
        fronts-end line best fronts (from_order line found) decide (λ other i. elim (subst (IsIn other) here i) [
          | inl same ↦ ap (λ (s : Shown). crosses Buy best.price s.price) same ∙ apart
          | inr j ↦ crosses-worse Buy best.price sell.price other.price (behind other j) apart
        ])

    -- the walk goes on
    module _ (next : Option Shown) (after : next ≡ after_in number_of sell.number line) where
      goes : GoesOn number_of line found next sell
      goes = goes-on number_of line found next sell is_line.differ is stands after

      pub walk-fewer : length (from_order line next) < length (from_order line found)
      walk-fewer = fewer number_of line found next sell goes

      pub walk-stands : next ≡ first_of (from_order line next)
      walk-stands = goes.stands

      module _ (more : List Bool) (kept : List Shown) (marked : MarksToo sell.zone marks more)
          (is_kept : kept ≡ (if is_marked marks sell.zone then fronts else (fronts ++ sell ∷ []))) where
        decide_here : FrontsDecide line best fronts (sell ∷ goes.back)
        decide_here = subst (FrontsDecide line best fronts) goes.was decide

        hidden_here : MarkedAreHidden marks fronts (sell ∷ goes.back)
        hidden_here = subst (MarkedAreHidden marks fronts) goes.was hidden

        pub walk-decide : FrontsDecide line best kept (from_order line next)
        walk-decide = subst (FrontsDecide line best kept) (sym goes.onward) (go (is_marked marks sell.zone) refl is_kept)
          where
            go : (b : Bool) → is_marked marks sell.zone ≡ b → kept ≡ (if b then fronts else (fronts ++ sell ∷ [])) → FrontsDecide line best kept goes.back
            go true e same =
                subst (λ xs. FrontsDecide line best xs goes.back) (sym same) (fronts-skip line best marks fronts goes.back sell decide_here hidden_here e)
            go false e same = subst (λ xs. FrontsDecide line best xs goes.back) (sym same) (fronts-more line best fronts goes.back sell decide_here)

        pub walk-hidden : MarkedAreHidden more kept (from_order line next)
        walk-hidden = subst (MarkedAreHidden more kept) (sym goes.onward) (go (is_marked marks sell.zone) refl is_kept)
          where
            behind_too : (other : Shown) → IsIn other goes.back → is_lt (price_cmp Sell other.price sell.price) ≡ false
            behind_too other i = let both : at.back ≡ goes.back = cc (here, goes.was) in behind other (subst (IsIn other) (sym both) i)

            go : (b : Bool) → is_marked marks sell.zone ≡ b → kept ≡ (if b then fronts else (fronts ++ sell ∷ [])) → MarkedAreHidden more kept goes.back
            go true e same =
                subst (λ xs. MarkedAreHidden more xs goes.back) (sym same) (hidden-still marks more fronts goes.back sell hidden_here e marked)
            go false e same =
                subst (λ xs. MarkedAreHidden more xs goes.back) (sym same) (hidden-more marks more fronts goes.back sell hidden_here behind_too marked)

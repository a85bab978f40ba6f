-- The walk along the buys: none so far has a leg, nor has any behind one of its zone that was tried.
use Rattle.std.proofs.Common.{◌≡◌, ◌∙◌, ◌<◌, ◌&&◌, ◌==◌, inl, inr, ℕ, Bool, true, false, List, [], ◌∷◌, length, Option, Some, None, if◌then◌else◌, eqb-true, refl, sym, ap, subst}
use Rattle.std.proofs.lemmas.Bool.{and_from, and_parts, false_from_ne_true, true≢false}
use Rattle.std.specs.List.{find}
use Rattle.std.specs.Option.{is_some, option_and_then}
use Rattle.std.specs.Ordering.{is_lt}
use Rattle.order_kinds.specs.declared.side.Side.TheVariants.{Buy, Sell}
use Rattle.order_kinds.specs.Side.{crosses, price_cmp}
use Rattle.zone_graph.specs.declared.route.Arc.{Arc}
use Rattle.zone_graph.specs.Graph.{Graph}
use Rattle.zone_graph.specs.Reach.{reaches}
use Rattle.zone_graph.specs.Route.{IsIn, best_route}
use Rattle.zone_graph.proofs.Finding.{find-none, from_find, map-none}
use Rattle.market_model.specs.declared.board.Shown.{Shown}
use Rattle.market_model.specs.declared.event.Leg.{Leg}
use Rattle.market_model.specs.Sweep.{first_answer, or_else}
use Rattle.laws_of_boards.proofs.Worse.{crosses-worse}
use Rattle.sweep_core.specs.Meeting.{can_meet, first_of, from_order, is_marked, leg_of_buy, leg_of_lines, leg_with, resting_leg}
use Rattle.sweep_core.proofs.Lines.{IsLine, WorseBehind, number_of, worse-behind}
use Rattle.sweep_core.proofs.SellFronts.{find-nothing}
use Rattle.zone_graph.proofs.Walks.{GoesOn, StandsAt, after_in, fewer, goes-on, stands-at, stands-in}

answers-here : {X Y : Type 0} (ask : X → Option Y) (x : X) (xs : List X) (y : Y) → ask x ≡ Some y → first_answer ask (x ∷ xs) ≡ Some y
answers-here ask x xs y e = ap (λ o. or_else o (λ _. first_answer ask xs)) e

answers-later : {X Y : Type 0} (ask : X → Option Y) (x : X) (xs : List X) → ask x ≡ None → first_answer ask (x ∷ xs) ≡ first_answer ask xs
answers-later ask x xs e = ap (λ o. or_else o (λ _. first_answer ask xs)) e

answers-none : {X Y : Type 0} (ask : X → Option Y) (xs : List X) → ((x : X) → IsIn x xs → ask x ≡ None) → first_answer ask xs ≡ None
answers-none ask [] none = refl
answers-none ask (x ∷ xs) none = answers-later ask x xs (none x (inl refl)) ∙ answers-none ask xs (λ y i. none y (inr i))

module _ (graph : Graph) (hour : ℕ) (room : Arc → ℕ) (sells : List Shown) where
  abbrev ask : Shown → Option Leg
  ask buy = leg_of_buy graph hour room sells buy

  -- a buy that has no leg can trade with no sell, and the other way round
  meets-none : (buy : Shown) → ask buy ≡ None → (sell : Shown) → IsIn sell sells → can_meet graph room buy sell ≡ false
  meets-none buy none = find-none (can_meet graph room buy) sells (go (find (can_meet graph room buy) sells) refl none)
    where
      go : (o : Option Shown) → find (can_meet graph room buy) sells ≡ o → option_and_then (leg_with graph hour room buy) o ≡ None → o ≡ None
      go None e k = refl
      go (Some sell) e k =
          let no_route : best_route graph room sell.zone buy.zone ≡ None = map-none (resting_leg hour room buy sell) (best_route graph room sell.zone buy.zone) k in
          let meets = (from_find (can_meet graph room buy) sell sells e).1 in
          let reached = (and_parts (crosses Buy buy.price sell.price) (reaches graph room sell.zone buy.zone) meets).1 in
          absurd (true≢false (sym reached ∙ ap is_some no_route))

  no-leg : (buy : Shown) → ((sell : Shown) → IsIn sell sells → can_meet graph room buy sell ≡ false) → ask buy ≡ None
  no-leg buy none = ap (λ o. option_and_then (leg_with graph hour room buy) o) (find-nothing (can_meet graph room buy) sells none)

  -- so does no buy of its zone that pays no more
  pub same-zone : (buy other : Shown) → other.zone ≡ buy.zone → is_lt (price_cmp Buy other.price buy.price) ≡ false → ask buy ≡ None → ask other ≡ None
  same-zone buy other zone worse none =
      no-leg other (λ sell i. false_from_ne_true (can_meet graph room other sell) (λ now.
      let parts = and_parts (crosses Buy other.price sell.price) (reaches graph room sell.zone other.zone) now in
      let reached : reaches graph room sell.zone buy.zone ≡ true = ap (reaches graph room sell.zone) (sym zone) ∙ parts.1 in
      crossing sell (meets-none buy none sell i) reached parts.0 (crosses Buy buy.price sell.price) refl))
    where
      crossing : (sell : Shown) → can_meet graph room buy sell ≡ false → reaches graph room sell.zone buy.zone ≡ true → crosses Buy other.price sell.price ≡ true
          → (c : Bool) → crosses Buy buy.price sell.price ≡ c → ⊥
      crossing sell apart reached now true e = true≢false (sym (and_from (crosses Buy buy.price sell.price) (reaches graph room sell.zone buy.zone) e reached) ∙ apart)
      crossing sell apart reached now false e = true≢false (sym now ∙ crosses-worse Sell sell.price buy.price other.price worse e)

  -- a buy whose price does not cross that of the best sell has no leg
  pub apart : (best buy : Shown) → WorseBehind Sell sells → first_of sells ≡ Some best → crosses Buy buy.price best.price ≡ false → ask buy ≡ None
  apart best buy worse first none =
      no-leg buy (λ sell i. ap (λ b. b && reaches graph room sell.zone buy.zone) (uncrossed sells worse first sell i))
    where
      uncrossed : (xs : List Shown) → WorseBehind Sell xs → first_of xs ≡ Some best → (sell : Shown) → IsIn sell xs → crosses Buy buy.price sell.price ≡ false
      uncrossed [] up e sell i = absurd i
      uncrossed (x ∷ xs) up e sell i =
          let is : x ≡ best = cc in
          elim i [
            | inl same ↦ ap (λ (s : Shown). crosses Buy buy.price s.price) (same ∙ is) ∙ none
            | inr j ↦ crosses-worse Buy buy.price best.price sell.price (subst (λ (s : Shown). is_lt (price_cmp Sell sell.price s.price) ≡ false) is (up.0 sell j)) none
          ]

  -- those of the zones that were tried have no leg
  abbrev pub TriedHaveNone : (tried : List Bool) → List Shown → Type 0
  TriedHaveNone tried buys = (buy : Shown) → IsIn buy buys → is_marked tried buy.zone ≡ true → ask buy ≡ None

  module _ (buys : List Shown) (is_line : IsLine graph Buy buys) (tried : List Bool) (found : Option Shown)
      (stands : found ≡ first_of (from_order buys found))
      (onward : first_answer ask (from_order buys found) ≡ first_answer ask buys)
      (none : TriedHaveNone tried (from_order buys found)) where
    module _ (buy : Shown) (is : found ≡ Some buy) where
      at : StandsAt number_of buys buy
      at = stands-at number_of buys found buy is stands

      here : from_order buys found ≡ buy ∷ at.back
      here = ap (from_order buys) is ∙ at.here

      pub buys-there : IsIn buy buys
      buys-there = stands-in number_of buys buy at

      behind-worse : (other : Shown) → IsIn other at.back → is_lt (price_cmp Buy other.price buy.price) ≡ false
      behind-worse other i = worse-behind Buy at.front at.back buy (subst (WorseBehind Buy) at.parts is_line.worse) other i

      -- its price does not cross that of the best sell, and so none behind it has a leg
      pub buys-apart : (best : Shown) → WorseBehind Sell sells → first_of sells ≡ Some best → crosses Buy buy.price best.price ≡ false
          → leg_of_lines graph hour room sells buys ≡ None
      buys-apart best worse first uncrossed =
          sym onward ∙ ap (first_answer ask) here
          ∙ answers-none ask (buy ∷ at.back) (λ other i. apart best other worse first (elim i [
            | inl same ↦ ap (λ (s : Shown). crosses Buy s.price best.price) same ∙ uncrossed
            | inr j ↦ crosses-worse Sell best.price buy.price other.price (behind-worse other j) uncrossed
          ]))

      -- what is asked of it, if its zone was not tried
      pub asked-none : (if is_marked tried buy.zone then None else ask buy) ≡ None → ask buy ≡ None
      asked-none e = go (is_marked tried buy.zone) refl e
        where
          go : (b : Bool) → is_marked tried buy.zone ≡ b → (if b then None else ask buy) ≡ None → ask buy ≡ None
          go true m k = none buy (subst (IsIn buy) (sym here) (inl refl)) m
          go false m k = k

      pub buys-found : (leg : Leg) → (if is_marked tried buy.zone then None else ask buy) ≡ Some leg → leg_of_lines graph hour room sells buys ≡ Some leg
      buys-found leg e = sym onward ∙ ap (first_answer ask) here ∙ answers-here ask buy at.back leg (go (is_marked tried buy.zone) e)
        where
          go : (b : Bool) → (if b then None else ask buy) ≡ Some leg → ask buy ≡ Some leg
          go true k = absurd (cc)
          go false k = k

      -- it has none, and the walk goes on
      module _ (next : Option Shown) (after : next ≡ after_in number_of buy.number buys) where
        goes : GoesOn number_of buys found next buy
        goes = goes-on number_of buys found next buy is_line.differ is stands after

        pub buys-fewer : length (from_order buys next) < length (from_order buys found)
        buys-fewer = fewer number_of buys found next buy goes

        pub buys-stands : next ≡ first_of (from_order buys next)
        buys-stands = goes.stands

        module _ (asked : (if is_marked tried buy.zone then None else ask buy) ≡ None) where
          pub buys-onward : first_answer ask (from_order buys next) ≡ first_answer ask buys
          buys-onward =
              ap (first_answer ask) goes.onward ∙ sym (answers-later ask buy goes.back (asked-none asked))
              ∙ ap (first_answer ask) (sym goes.was) ∙ onward

          pub buys-tried : (more : List Bool) → ((zone : ℕ) → is_marked more zone ≡ (if zone == buy.zone then true else is_marked tried zone))
              → TriedHaveNone more (from_order buys next)
          buys-tried more marked other i m = go (other.zone == buy.zone) refl
            where
              in_back : IsIn other goes.back
              in_back = subst (IsIn other) goes.onward i

              in_mine : IsIn other at.back
              in_mine = let both : at.back ≡ goes.back = cc (here, goes.was) in subst (IsIn other) (sym both) in_back

              go : (b : Bool) → (other.zone == buy.zone) ≡ b → ask other ≡ None
              go true e = same-zone buy other (eqb-true other.zone buy.zone e) (behind-worse other in_mine) (asked-none asked)
              go false e =
                  none other (subst (IsIn other) (sym goes.was) (inr in_back))
                  (sym (ap (λ b. if b then true else is_marked tried other.zone) e) ∙ sym (marked other.zone) ∙ m)

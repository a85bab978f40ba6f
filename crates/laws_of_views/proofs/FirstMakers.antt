-- What a taker takes of the first makers that it finds is the bound of some zones around its own, of
-- what these makers show.
use Rattle.std.proofs.Common.{◌≡◌, ◌∙◌, ◌⊎◌, inl, inr, ℕ, ◌+◌, ◌-◌, ◌≤◌, ◌&&◌, ◌||◌, Bool, true, false, cond, List, [], ◌∷◌, ◌++◌, find, fold, map, nat_lt, sum_by, Option, Some, None, is_some, refl, sym, ap, subst, if◌then◌else◌, arith}
use Rattle.std.proofs.Math.Path.{fun_ext}
use Rattle.std.proofs.lemmas.Bool.{and_parts, ltb-false, true≢false}
use Rattle.std.proofs.lemmas.List.Sums.{sum_by-cons}
use Rattle.std.specs.List.{list_any}
use Rattle.std.specs.Option.{option_and_then, option_map}
use Rattle.order_kinds.specs.declared.order.OrderName.{OrderName}
use Rattle.order_kinds.specs.declared.side.Side.{Side}
use Rattle.order_kinds.specs.declared.side.Side.TheVariants.{Buy, Sell}
use Rattle.order_kinds.specs.Same.{same_name}
use Rattle.order_kinds.specs.Side.{opposite}
use Rattle.zone_graph.specs.declared.route.Arc.{Arc}
use Rattle.zone_graph.specs.Graph.{Graph, HasZone, IsGraph}
use Rattle.zone_graph.specs.Pour.{lots_if, room_after}
use Rattle.zone_graph.specs.Reach.{reaches}
use Rattle.zone_graph.specs.Route.{IsIn, has}
use Rattle.zone_graph.specs.Steps.{IsRun}
use Rattle.zone_graph.proofs.BestRoute.{reaches-route}
use Rattle.zone_graph.proofs.Finding.{find-none, from_find}
use Rattle.zone_graph.proofs.Membership.{IsIn-append, from_map}
use Rattle.cut_proof.specs.Cut.{HasRoomFor}
use Rattle.cut_proof.proofs.ArcSums.{sum_nothing}
use Rattle.cut_proof.proofs.Crossing.{entering_after, leaving_after}
use Rattle.cut_proof.proofs.ReachLaws.{beyond-has, has-beyond, has-towards, no_room_enters, no_room_leaves, reach_from_start, reach_to_end, towards-has}
use Rattle.market_model.specs.Certificate.{room_across, zones_in_reach}
use Rattle.laws_of_market.proofs.Tests.{same_name-refl}
use Rattle.laws_of_rows.specs.declared.trades.Fill.{Fill}
use Rattle.laws_of_rows.specs.declared.trades.Maker.{Maker}
use Rattle.laws_of_rows.specs.Depth.{Depth, after_fill, buyer_zone, can_fill, crosses_any, fill_over, fill_with, next_fill, route_with, seller_zone, taken_of}
use Rattle.laws_of_rows.proofs.Fills.{IsFill, carried_by, next_fill-is}
use Rattle.laws_of_rows.proofs.RowLemmas.{same_name-sym}

-- ---- makers by their names

-- a name is that of one of some makers
abbrev pub is_named_in : List Maker → OrderName → Bool
is_named_in makers name = list_any (λ maker. same_name maker.name name) makers

-- the lots that trades take of some makers
abbrev pub lots_with : List Maker → List Fill → ℕ
lots_with makers fills = sum_by (λ fill. lots_if (is_named_in makers fill.maker) fill.lots) fills

-- the lots of all trades
abbrev pub lots_filled : List Fill → ℕ
lots_filled fills = sum_by (λ fill. fill.lots) fills

-- each name stands once
abbrev pub AreOnce : List Maker → Type 0
AreOnce [] = Unit {0}
AreOnce (maker ∷ makers) = ((other : Maker) → IsIn other makers → same_name maker.name other.name ≡ false) × AreOnce makers

-- none of some makers has the name of one of others
abbrev pub AreApart : List Maker → List Maker → Type 0
AreApart makers others = (one other : Maker) → IsIn one makers → IsIn other others → same_name one.name other.name ≡ false

-- no trade is with any of some makers
abbrev pub AreUnnamed : List Maker → List Fill → Type 0
AreUnnamed makers [] = Unit {0}
AreUnnamed makers (fill ∷ fills) = (is_named_in makers fill.maker ≡ false) × AreUnnamed makers fills

-- the prices of some makers cross that of the taker
abbrev pub AllCross : Side → List Maker → Type 0
AllCross side makers = (maker : Maker) → IsIn maker makers → crosses_any side maker ≡ true

pub once-parts : (makers others : List Maker) → AreOnce (makers ++ others) → AreOnce makers × AreApart makers others
once-parts [] others once = (tt, λ one other i j. absurd i)
once-parts (maker ∷ makers) others once =
    let rest = once-parts makers others once.1 in (
      (λ other i. once.0 other (left_in makers other i), rest.0),
      λ one other i j. elim i [
        | inl same ↦ ap (λ (m : Maker). same_name m.name other.name) same ∙ once.0 other (right_in makers other j)
        | inr later ↦ rest.1 one other later j
      ],
    )
  where
    left_in : (xs : List Maker) (x : Maker) → IsIn x xs → IsIn x (xs ++ others)
    left_in [] x i = absurd i
    left_in (y ∷ xs) x i = elim i [ inl s ↦ inl s | inr l ↦ inr (left_in xs x l) ]

    right_in : (xs : List Maker) (x : Maker) → IsIn x others → IsIn x (xs ++ others)
    right_in [] x i = i
    right_in (y ∷ xs) x i = inr (right_in xs x i)

pub named-true : (makers : List Maker) (maker : Maker) (name : OrderName) → IsIn maker makers → maker.name ≡ name → is_named_in makers name ≡ true
named-true [] maker name i same = absurd i
named-true (m ∷ makers) maker name i same = elim i [
  | inl first ↦ ap (λ b. b || is_named_in makers name) (ap (λ (x : Maker). same_name x.name name) (sym first) ∙ ap (λ n. same_name n name) same ∙ same_name-refl name)
  | inr later ↦ ap (λ b. same_name m.name name || b) (named-true makers maker name later same) ∙ or-true (same_name m.name name)
]
  where
    or-true : (b : Bool) → (b || true) ≡ true
    or-true true = refl
    or-true false = refl

named-false : (makers : List Maker) (name : OrderName) → ((maker : Maker) → IsIn maker makers → same_name maker.name name ≡ false) → is_named_in makers name ≡ false
named-false [] name none = refl
named-false (m ∷ makers) name none =
    ap (λ b. b || is_named_in makers name) (none m (inl refl)) ∙ named-false makers name (λ x i. none x (inr i))

-- ---- what is taken of them

pub taken-is : (name : OrderName) (lots : ℕ) (maker : Maker) → taken_of name lots maker ≡ record maker { left = maker.left - lots_if (same_name maker.name name) lots }
taken-is name lots maker = by (same_name maker.name name)
  where
    by : (b : Bool) → (if b then record maker { left = maker.left - lots } else maker) ≡ record maker { left = maker.left - lots_if b lots }
    by true = refl
    by false = let same : maker.left ≡ maker.left - 0 = omega arith in λ i. record maker { left = same i }

pub taken-name : (name : OrderName) (lots : ℕ) (maker : Maker) → (taken_of name lots maker).name ≡ maker.name
taken-name name lots maker = ap (λ (m : Maker). m.name) (taken-is name lots maker)

abbrev pub taken : OrderName → ℕ → List Maker → List Maker
taken name lots makers = map (taken_of name lots) makers

taken-none : (name : OrderName) (lots : ℕ) (makers : List Maker) → ((maker : Maker) → IsIn maker makers → same_name maker.name name ≡ false) → taken name lots makers ≡ makers
taken-none name lots [] none = refl
taken-none name lots (maker ∷ makers) none =
    ap (λ b. (if b then record maker { left = maker.left - lots } else maker) ∷ taken name lots makers) (none maker (inl refl))
    ∙ ap (λ l. maker ∷ l) (taken-none name lots makers (λ x i. none x (inr i)))

pub taken-names : (name : OrderName) (lots : ℕ) (makers : List Maker) (other : OrderName) → is_named_in (taken name lots makers) other ≡ is_named_in makers other
taken-names name lots [] other = refl
taken-names name lots (maker ∷ makers) other =
    ap (λ n. same_name n other || is_named_in (taken name lots makers) other) (taken-name name lots maker)
    ∙ ap (λ b. same_name maker.name other || b) (taken-names name lots makers other)

pub taken-once : (name : OrderName) (lots : ℕ) (makers : List Maker) → AreOnce makers → AreOnce (taken name lots makers)
taken-once name lots [] once = tt
taken-once name lots (maker ∷ makers) once = (
  λ other i.
      let from = from_map (taken_of name lots) other makers i in
      ap (λ n. same_name n other.name) (taken-name name lots maker)
      ∙ ap (λ (m : Maker). same_name maker.name m.name) from.2
      ∙ ap (same_name maker.name) (taken-name name lots from.0)
      ∙ once.0 from.0 from.1,
  taken-once name lots makers once.1,
)

pub taken-apart : (name : OrderName) (lots : ℕ) (makers others : List Maker) → AreApart makers others → AreApart (taken name lots makers) (taken name lots others)
taken-apart name lots makers others apart one other i j =
    let from = from_map (taken_of name lots) one makers i in
    let to = from_map (taken_of name lots) other others j in
    ap (λ (m : Maker). same_name m.name other.name) from.2
    ∙ ap (λ n. same_name n other.name) (taken-name name lots from.0)
    ∙ ap (λ (m : Maker). same_name from.0.name m.name) to.2
    ∙ ap (same_name from.0.name) (taken-name name lots to.0)
    ∙ apart from.0 to.0 from.1 to.1

taken-cross : (side : Side) (name : OrderName) (lots : ℕ) (makers : List Maker) → AllCross side makers → AllCross side (taken name lots makers)
taken-cross side name lots makers all maker i =
    let from = from_map (taken_of name lots) maker makers i in
    ap (crosses_any side) (from.2 ∙ taken-is name lots from.0) ∙ all from.0 from.1

pub taken-append : (name : OrderName) (lots : ℕ) (makers others : List Maker) → taken name lots (makers ++ others) ≡ taken name lots makers ++ taken name lots others
taken-append name lots [] others = refl
taken-append name lots (maker ∷ makers) others = ap (λ l. taken_of name lots maker ∷ l) (taken-append name lots makers others)

-- what makers show in some zones
abbrev pub shown_in : (zones : List ℕ) → List Maker → ℕ
shown_in zones makers = sum_by (λ maker. lots_if (has maker.zone zones) maker.left) makers

parted : (b : Bool) (all lots : ℕ) → lots ≤ all → lots_if b all ≡ lots_if b (all - lots) + lots_if b lots
parted true all lots most = omega (arith, most)
parted false all lots most = refl

-- a trade with one of them takes its lots from what they show
shown-falls : (zones : List ℕ) (name : OrderName) (lots : ℕ) (makers : List Maker) (with : Maker) → AreOnce makers → IsIn with makers → name ≡ with.name → lots ≤ with.left
    → shown_in zones makers ≡ shown_in zones (taken name lots makers) + lots_if (has with.zone zones) lots
shown-falls zones name lots [] with once i named most = absurd i
shown-falls zones name lots (maker ∷ makers) with once i named most = elim i [
  | inl first ↦
      let own : same_name maker.name name ≡ true = ap (λ (m : Maker). same_name m.name name) (sym first) ∙ ap (same_name with.name) named ∙ same_name-refl with.name in
      let others : taken name lots makers ≡ makers = taken-none name lots makers (λ x j.
      same_name-sym x.name name ∙ ap (λ n. same_name n x.name) (named ∙ ap (λ (m : Maker). m.name) first) ∙ once.0 x j) in
      let rest : shown_in zones (taken name lots makers) ≡ shown_in zones makers = ap (shown_in zones) others in
      let here : lots_if (has (taken_of name lots maker).zone zones) (taken_of name lots maker).left ≡ lots_if (has maker.zone zones) (maker.left - lots) =
      ap (λ (b : Bool). let m : Maker = (if b then record maker { left = maker.left - lots } else maker) in lots_if (has m.zone zones) m.left) own in
      let fewer : lots ≤ maker.left = subst (λ (m : Maker). lots ≤ m.left) first most in
      let parts = parted (has maker.zone zones) maker.left lots fewer in
      let zone : lots_if (has with.zone zones) lots ≡ lots_if (has maker.zone zones) lots = ap (λ (m : Maker). lots_if (has m.zone zones) lots) first in
      omega (arith, sum_by-cons (λ (m : Maker). lots_if (has m.zone zones) m.left) maker makers, sum_by-cons (λ (m : Maker). lots_if (has m.zone zones) m.left) (taken_of name lots maker) (taken name lots makers), rest, here, parts, zone)
  | inr later ↦
      let other : same_name maker.name name ≡ false = ap (same_name maker.name) named ∙ once.0 with later in
      let here : lots_if (has (taken_of name lots maker).zone zones) (taken_of name lots maker).left ≡ lots_if (has maker.zone zones) maker.left =
      ap (λ (b : Bool). let m : Maker = (if b then record maker { left = maker.left - lots } else maker) in lots_if (has m.zone zones) m.left) other in
      let rest = shown-falls zones name lots makers with once.1 later named most in
      omega (arith, sum_by-cons (λ (m : Maker). lots_if (has m.zone zones) m.left) maker makers, sum_by-cons (λ (m : Maker). lots_if (has m.zone zones) m.left) (taken_of name lots maker) (taken name lots makers), rest, here)
]

-- ---- searches

pub find-front : (p : Maker → Bool) (xs ys : List Maker) (x : Maker) → find p xs ≡ Some x → find p (xs ++ ys) ≡ Some x
find-front p [] ys x e = cc
find-front p (y ∷ xs) ys x e = by (p y) (find-front p xs ys x) e
  where
    by : (b : Bool) → (find p xs ≡ Some x → find p (xs ++ ys) ≡ Some x) → cond b (Some y) (find p xs) ≡ Some x → cond b (Some y) (find p (xs ++ ys)) ≡ Some x
    by true rest f = f
    by false rest f = rest f

module _ (graph : Graph) (is : IsGraph graph) (side : Side) (zone : ℕ) (known : HasZone graph zone) where
  -- the zones in reach of the taker
  abbrev pub reach : (Arc → ℕ) → List ℕ
  reach room = zones_in_reach graph room (opposite side) zone

  pub own_reached : (room : Arc → ℕ) → has zone (reach room) ≡ true
  own_reached room = by side
    where
      itself : reaches graph room zone zone ≡ true
      itself = reaches-route graph room zone zone [] is (record { way = refl; simple = (λ h. h, tt) })

      by : (side : Side) → has zone (zones_in_reach graph room (opposite side) zone) ≡ true
      by Buy = has-beyond graph room zone zone known itself
      by Sell = has-towards graph room zone zone known itself

  -- the bound of some zones, of what some makers show
  abbrev pub bound : (Arc → ℕ) → (zones : List ℕ) → List Maker → ℕ
  bound room zones makers = shown_in zones makers + room_across graph room (opposite side) zones

  abbrev can : (Arc → ℕ) → Maker → Bool
  can room maker = can_fill graph room side zone maker

  -- a trade takes its lots from what the maker shows in the zones, or from the room across their edge
  across-falls : (room : Arc → ℕ) (maker : Maker) (fill : Fill) (zones : List ℕ) → HasRoomFor graph room (seller_zone side zone maker) (buyer_zone side zone maker) (carried_by fill)
      → has zone zones ≡ true → room_across graph (room_after room (carried_by fill)) (opposite side) zones + fill.lots
      ≡ room_across graph room (opposite side) zones + lots_if (has maker.zone zones) fill.lots
  across-falls room maker fill zones fits inside = by side fits
    where
      own : lots_if (has zone zones) fill.lots ≡ fill.lots
      own = ap (λ b. lots_if b fill.lots) inside

      by : (side : Side) → HasRoomFor graph room (seller_zone side zone maker) (buyer_zone side zone maker) (carried_by fill)
          → room_across graph (room_after room (carried_by fill)) (opposite side) zones + fill.lots ≡ room_across graph room (opposite side) zones + lots_if (has maker.zone zones) fill.lots
      by Buy f = omega (arith, leaving_after graph room zone maker.zone zones (carried_by fill) f, own)
      by Sell f = omega (arith, entering_after graph room maker.zone zone zones (carried_by fill) f, own)

  bound-falls : (room : Arc → ℕ) (makers : List Maker) (with : Maker) (fill : Fill) (zones : List ℕ) → AreOnce makers → IsIn with makers → fill.maker ≡ with.name → fill.lots ≤ with.left
      → HasRoomFor graph room (seller_zone side zone with) (buyer_zone side zone with) (carried_by fill) → has zone zones ≡ true
      → bound room zones makers ≡ bound (room_after room (carried_by fill)) zones (taken fill.maker fill.lots makers) + fill.lots
  bound-falls room makers with fill zones once i named most fits inside =
      let shown = shown-falls zones fill.maker fill.lots makers with once i named most in
      let across = across-falls room with fill zones fits inside in
      omega (arith, shown, across)

  -- where the taker can trade with none of them nothing is left of the bound of the zones in reach
  bound-none : (room : Arc → ℕ) (makers : List Maker) → AllCross side makers → ((maker : Maker) → IsIn maker makers → can room maker ≡ false) → bound room (reach room) makers ≡ 0
  bound-none room makers cross none =
      let shown = sum_nothing (λ (maker : Maker). lots_if (has maker.zone (reach room)) maker.left) makers each in
      omega (arith, shown, across side)
    where
      across : (side : Side) → room_across graph room (opposite side) (zones_in_reach graph room (opposite side) zone) ≡ 0
      across Buy = no_room_leaves graph room zone is
      across Sell = no_room_enters graph room zone is

      joined : (side : Side) (maker : Maker) → has maker.zone (zones_in_reach graph room (opposite side) zone) ≡ true → is_some (route_with graph room side zone maker) ≡ true
      joined Buy maker h = beyond-has graph room zone maker.zone h
      joined Sell maker h = towards-has graph room zone maker.zone h

      each : (maker : Maker) → IsIn maker makers → lots_if (has maker.zone (reach room)) maker.left ≡ 0
      each maker i = by (has maker.zone (reach room)) refl
        where
          by : (b : Bool) → has maker.zone (reach room) ≡ b → lots_if b maker.left ≡ 0
          by false h = refl
          by true h =
              let shows_not : nat_lt 0 maker.left ≡ false = first_false (nat_lt 0 maker.left) (crosses_any side maker) (is_some (route_with graph room side zone maker)) (cross maker i) (joined side maker h) (none maker i) in
              let least = ltb-false 0 maker.left shows_not in omega (arith, least)
            where
              first_false : (a b c : Bool) → b ≡ true → c ≡ true → (a && b && c) ≡ false → a ≡ false
              first_false true b c e f n = sym (ap (λ x. x && c) e ∙ f) ∙ n
              first_false false b c e f n = refl

  -- ---- trade by trade

  abbrev pub depth : (Arc → ℕ) → List Maker → ℕ → Depth
  depth room makers left = record { makers = makers; room = room; left = left }

  unnamed-lots : (makers : List Maker) (fills : List Fill) → AreUnnamed makers fills → lots_with makers fills ≡ 0
  unnamed-lots makers [] none = refl
  unnamed-lots makers (fill ∷ fills) none =
      let none_here : lots_if (is_named_in makers fill.maker) fill.lots ≡ 0 = ap (λ b. lots_if b fill.lots) none.0 in
      omega (arith, sum_by-cons (λ (x : Fill). lots_if (is_named_in makers x.maker) x.lots) fill fills, none_here, unnamed-lots makers fills none.1)

  -- makers that cannot be traded with are never traded with
  pub idle : (room : Arc → ℕ) (makers others : List Maker) (left : ℕ) (fills : List Fill) → ((maker : Maker) → IsIn maker makers → can room maker ≡ false) → AreApart makers others
      → IsRun (next_fill graph side zone) after_fill (depth room (makers ++ others) left) fills → AreUnnamed makers fills
  idle room makers others left [] none apart run = tt
  idle room makers others left (fill ∷ fills) none apart run =
      let f = next_fill-is graph side zone (depth room (makers ++ others) left) fill is run.0 in
      let found = from_find (can room) f.with (makers ++ others) f.found in
      let behind : IsIn f.with others = elim (IsIn-append f.with makers others found.0) [
        | inl i ↦ absurd (true≢false (sym found.1 ∙ none f.with i))
        | inr i ↦ i
      ] in
      let away : (maker : Maker) → IsIn maker makers → same_name maker.name fill.maker ≡ false = λ maker i. ap (same_name maker.name) f.named ∙ apart maker f.with i behind in
      let unnamed = named-false makers fill.maker away in
      let same : taken fill.maker fill.lots (makers ++ others) ≡ makers ++ taken fill.maker fill.lots others =
      taken-append fill.maker fill.lots makers others ∙ ap (λ l. l ++ taken fill.maker fill.lots others) (taken-none fill.maker fill.lots makers away) in
      let later = idle (room_after room (carried_by fill)) makers (taken fill.maker fill.lots others) (left - fill.lots) fills
      (λ maker i. still room f maker (none maker i))
      (λ one other i j. let to = from_map (taken_of fill.maker fill.lots) other others j in
      ap (λ (m : Maker). same_name one.name m.name) to.2 ∙ ap (same_name one.name) (taken-name fill.maker fill.lots to.0) ∙ apart one to.0 i to.1)
      (subst (λ l. IsRun (next_fill graph side zone) after_fill (depth (room_after room (carried_by fill)) l (left - fill.lots)) fills) same run.1) in
      (unnamed, later)
    where
      still : (room : Arc → ℕ) (f : IsFill graph side zone (depth room (makers ++ others) left) fill) (maker : Maker) → can room maker ≡ false → can (room_after room (carried_by fill)) maker ≡ false
      still room f maker cannot = by (nat_lt 0 maker.left && crosses_any side maker) (is_some (route_with graph room side zone maker)) refl cannot
        where
          apart_still : (side : Side) → HasRoomFor graph room (seller_zone side zone f.with) (buyer_zone side zone f.with) (carried_by fill) → is_some (route_with graph room side zone maker) ≡ false
              → is_some (route_with graph (room_after room (carried_by fill)) side zone maker) ≡ false
          apart_still Buy fits away = reach_from_start graph room zone f.with.zone maker.zone (carried_by fill) is fits.is_route away
          apart_still Sell fits away = reach_to_end graph room f.with.zone zone maker.zone (carried_by fill) is fits.is_route away

          by : (a r : Bool) → is_some (route_with graph room side zone maker) ≡ r → (a && r) ≡ false → (a && is_some (route_with graph (room_after room (carried_by fill)) side zone maker)) ≡ false
          by false r e n = refl
          by true r e n = apart_still side f.fits (e ∙ n)

  -- what a taker takes of the first makers is the bound of some zones around its own, or it takes all
  -- that it asks
  pub record IsBound (room : Arc → ℕ) (makers : List Maker) (lots : ℕ) : Type 0 where
    pub zones : List ℕ
    pub has_own : has zone zones ≡ true
    pub is_bound : lots ≡ bound room zones makers

  first-none : (room : Arc → ℕ) (makers others : List Maker) (left : ℕ) (fills : List Fill) → AreApart makers others → AllCross side makers
      → IsRun (next_fill graph side zone) after_fill (depth room (makers ++ others) left) fills → find (can room) makers ≡ None → IsBound room makers (lots_with makers fills)
  first-none room makers others left fills apart cross run none =
      let cannot = find-none (can room) makers none in
      let idles = unnamed-lots makers fills (idle room makers others left fills cannot apart run) in
      let nothing = bound-none room makers cross cannot in
      record { zones = reach room; has_own = own_reached room; is_bound = idles ∙ sym nothing }

  -- where one of them can be traded with, a trade comes unless nothing is left to take
  goes_on : (room : Arc → ℕ) (makers others : List Maker) (left : ℕ) (maker : Maker) → find (can room) makers ≡ Some maker
      → next_fill graph side zone (depth room (makers ++ others) left) ≡ None → left ≡ 0
  goes_on room makers others left maker found none = at (nat_lt 0 left) refl none
    where
      at_found : option_and_then (fill_with graph room side zone left) (find (can room) (makers ++ others)) ≡ fill_with graph room side zone left maker
      at_found = ap (option_and_then (fill_with graph room side zone left)) (find-front (can room) makers others maker found)

      route_there : is_some (route_with graph room side zone maker) ≡ true
      route_there = (and_parts (nat_lt 0 maker.left && crosses_any side maker) (is_some (route_with graph room side zone maker)) (from_find (can room) maker makers found).1).1

      some_fill : (o : Option (List Arc)) → route_with graph room side zone maker ≡ o → option_map (fill_over room left maker) o ≡ None → ⊥
      some_fill None e f = true≢false (sym route_there ∙ ap is_some e)
      some_fill (Some route) e f = cc

      at : (b : Bool) → nat_lt 0 left ≡ b → (if b then option_and_then (fill_with graph room side zone left) (find (can room) (makers ++ others)) else None) ≡ None → left ≡ 0
      at false e f = let least = ltb-false 0 left e in omega (arith, least)
      at true e f = absurd (some_fill (route_with graph room side zone maker) refl (sym at_found ∙ f))

  pub first-bound : (room : Arc → ℕ) (makers others : List Maker) (left : ℕ) (fills : List Fill) → AreOnce makers → AreApart makers others → AllCross side makers
      → IsRun (next_fill graph side zone) after_fill (depth room (makers ++ others) left) fills → (lots_filled fills ≡ left) ⊎ IsBound room makers (lots_with makers fills)
  first-bound room makers others left [] once apart cross run = by (find (can room) makers) refl
    where
      by : (o : Option Maker) → find (can room) makers ≡ o → (0 ≡ left) ⊎ IsBound room makers 0
      by None none = inr (first-none room makers others left [] apart cross run none)
      by (Some maker) found = inl (sym (goes_on room makers others left maker found run))
  first-bound room makers others left (fill ∷ fills) once apart cross run =
      by (find (can room) makers) refl
      (first-bound (room_after room (carried_by fill)) (taken fill.maker fill.lots makers) (taken fill.maker fill.lots others) (left - fill.lots) fills
      (taken-once fill.maker fill.lots makers once) (taken-apart fill.maker fill.lots makers others apart) (taken-cross side fill.maker fill.lots makers cross)
      (subst (λ l. IsRun (next_fill graph side zone) after_fill (depth (room_after room (carried_by fill)) l (left - fill.lots)) fills) (taken-append fill.maker fill.lots makers others) run.1))
    where
      by : (o : Option Maker) → find (can room) makers ≡ o
          → (lots_filled fills ≡ left - fill.lots) ⊎ IsBound (room_after room (carried_by fill)) (taken fill.maker fill.lots makers) (lots_with (taken fill.maker fill.lots makers) fills)
          → (lots_filled (fill ∷ fills) ≡ left) ⊎ IsBound room makers (lots_with makers (fill ∷ fills))
      by None none rest = inr (first-none room makers others left (fill ∷ fills) apart cross run none)
      by (Some maker) found rest =
          let f = next_fill-is graph side zone (depth room (makers ++ others) left) fill is run.0 in
          let same : f.with ≡ maker = (let two : Some f.with ≡ Some maker = sym f.found ∙ find-front (can room) makers others maker found in cc) in
          let there : IsIn f.with makers = subst (λ m. IsIn m makers) (sym same) (from_find (can room) maker makers found).0 in
          let own : lots_if (is_named_in makers fill.maker) fill.lots ≡ fill.lots = ap (λ b. lots_if b fill.lots) (named-true makers f.with fill.maker there (sym f.named)) in
          let names : lots_with (taken fill.maker fill.lots makers) fills ≡ lots_with makers fills =
          ap (λ (test : OrderName → Bool). sum_by (λ (x : Fill). lots_if (test x.maker) x.lots) fills) (fun_ext (taken-names fill.maker fill.lots makers)) in
          let enough = f.enough in
          elim rest [
            | inl all ↦ inl (omega (arith, all, enough, sum_by-cons (λ (x : Fill). x.lots) fill fills))
            | inr bounded ↦
                let falls = bound-falls room makers f.with fill bounded.zones once there f.named f.shows f.fits bounded.has_own in
                let is_bound = bounded.is_bound in
                inr (record {
                  zones = bounded.zones;
                  has_own = bounded.has_own;
                  is_bound = omega (arith, falls, is_bound, names, own, sum_by-cons (λ (x : Fill). lots_if (is_named_in makers x.maker) x.lots) fill fills);
                })
          ]

  -- no more is taken than is shown
  pub filled-most : (zones : List ℕ) (room : Arc → ℕ) (makers : List Maker) (left : ℕ) (fills : List Fill) → AreOnce makers → ((maker : Maker) → IsIn maker makers → has maker.zone zones ≡ true)
      → IsRun (next_fill graph side zone) after_fill (depth room makers left) fills → lots_filled fills ≤ shown_in zones makers
  filled-most zones room makers left [] once inside run = omega arith
  filled-most zones room makers left (fill ∷ fills) once inside run =
      let f = next_fill-is graph side zone (depth room makers left) fill is run.0 in
      let falls = shown-falls zones fill.maker fill.lots makers f.with once f.is_in f.named f.shows in
      let own : lots_if (has f.with.zone zones) fill.lots ≡ fill.lots = ap (λ b. lots_if b fill.lots) (inside f.with f.is_in) in
      let rest = filled-most zones (room_after room (carried_by fill)) (taken fill.maker fill.lots makers) (left - fill.lots) fills (taken-once fill.maker fill.lots makers once)
      (λ maker i. let from = from_map (taken_of fill.maker fill.lots) maker makers i in
      ap (λ (m : Maker). has m.zone zones) (from.2 ∙ taken-is fill.maker fill.lots from.0) ∙ inside from.0 from.1) run.1 in
      omega (arith, falls, own, rest, sum_by-cons (λ (x : Fill). x.lots) fill fills)

  -- nor more than the bound of any zones around the taker's
  pub filled-within : (zones : List ℕ) (room : Arc → ℕ) (makers : List Maker) (left : ℕ) (fills : List Fill) → AreOnce makers → has zone zones ≡ true
      → IsRun (next_fill graph side zone) after_fill (depth room makers left) fills → lots_filled fills ≤ bound room zones makers
  filled-within zones room makers left [] once inside run = omega arith
  filled-within zones room makers left (fill ∷ fills) once inside run =
      let f = next_fill-is graph side zone (depth room makers left) fill is run.0 in
      let falls = bound-falls room makers f.with fill zones once f.is_in f.named f.shows f.fits inside in
      let rest = filled-within zones (room_after room (carried_by fill)) (taken fill.maker fill.lots makers) (left - fill.lots) fills (taken-once fill.maker fill.lots makers once) inside run.1 in
      omega (arith, falls, rest, sum_by-cons (λ (x : Fill). x.lots) fill fills)

  -- ---- all makers

  -- the lots of all trades are the bound of the zones that are in reach in the end
  pub all-bound : (room : Arc → ℕ) (makers : List Maker) (left : ℕ) (fills : List Fill) → AreOnce makers → AllCross side makers
      → IsRun (next_fill graph side zone) after_fill (depth room makers left) fills
      → (lots_filled fills ≡ left) ⊎ (lots_filled fills ≡ bound room (reach (fold after_fill (depth room makers left) fills).room) makers)
  all-bound room makers left [] once cross none = at (nat_lt 0 left) refl (find (can room) makers) refl none
    where
      some_fill : (maker : Maker) → find (can room) makers ≡ Some maker → (o : Option (List Arc)) → route_with graph room side zone maker ≡ o → option_map (fill_over room left maker) o ≡ None → ⊥
      some_fill maker found None e f =
          true≢false (sym (and_parts (nat_lt 0 maker.left && crosses_any side maker) (is_some (route_with graph room side zone maker)) (from_find (can room) maker makers found).1).1 ∙ ap is_some e)
      some_fill maker found (Some route) e f = cc

      at : (b : Bool) → nat_lt 0 left ≡ b → (o : Option Maker) → find (can room) makers ≡ o → (if b then option_and_then (fill_with graph room side zone left) o else None) ≡ None
          → (0 ≡ left) ⊎ (0 ≡ bound room (reach room) makers)
      at false e o is_found f = inl (let least = ltb-false 0 left e in omega (arith, least))
      at true e None is_found f = inr (sym (bound-none room makers cross (find-none (can room) makers is_found)))
      at true e (Some maker) is_found f = absurd (some_fill maker is_found (route_with graph room side zone maker) refl f)
  all-bound room makers left (fill ∷ fills) once cross run =
      let f = next_fill-is graph side zone (depth room makers left) fill is run.0 in
      let rest = all-bound (room_after room (carried_by fill)) (taken fill.maker fill.lots makers) (left - fill.lots) fills (taken-once fill.maker fill.lots makers once)
      (taken-cross side fill.maker fill.lots makers cross) run.1 in
      let last : List ℕ = reach (fold after_fill (depth room makers left) (fill ∷ fills)).room in
      let enough = f.enough in
      elim rest [
        | inl all ↦ inl (omega (arith, all, enough, sum_by-cons (λ (x : Fill). x.lots) fill fills))
        | inr bounded ↦
            let falls = bound-falls room makers f.with fill last once f.is_in f.named f.shows f.fits (own_reached (fold after_fill (depth room makers left) (fill ∷ fills)).room) in
            inr (omega (arith, bounded, falls, sum_by-cons (λ (x : Fill). x.lots) fill fills))
      ]

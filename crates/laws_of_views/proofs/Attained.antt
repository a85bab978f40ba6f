-- What a taker takes of the first makers flows to it, and is a flow plan from these alone.
use Rattle.std.proofs.Common.{◌≡◌, ◌≢◌, ◌∙◌, inl, inr, ℕ, ◌+◌, ◌-◌, ◌≤◌, ◌==◌, ◌||◌, Bool, true, false, List, [], ◌∷◌, ◌++◌, filter, find, sum_by, Option, Some, None, refl, sym, ap, subst, arith}
use Rattle.std.proofs.lemmas.Bool.{ne_eqb, true≢false}
use Rattle.std.proofs.lemmas.List.Sums.{sum_by-cons}
use Rattle.order_kinds.specs.declared.order.OrderName.{OrderName}
use Rattle.order_kinds.specs.declared.side.Side.{Side}
use Rattle.order_kinds.specs.declared.side.Side.TheVariants.{Buy, Sell}
use Rattle.order_kinds.specs.Same.{same_name}
use Rattle.zone_graph.specs.declared.route.Arc.{Arc}
use Rattle.zone_graph.specs.Graph.{Graph, HasArc, HasZone, IsGraph, arcs_of, end_of, start_of}
use Rattle.zone_graph.specs.Pour.{lots_if, opposite_arc, room_after, uses}
use Rattle.zone_graph.specs.Route.{IsIn}
use Rattle.zone_graph.specs.Steps.{IsRun}
use Rattle.zone_graph.proofs.Arcs.{IsIn-uses}
use Rattle.zone_graph.proofs.Finding.{find-none, from_find}
use Rattle.zone_graph.proofs.Membership.{IsIn-map}
use Rattle.cut_proof.specs.Cut.{HasRoomFor}
use Rattle.cut_proof.proofs.ArcSums.{sum_nothing, sum_parts}
use Rattle.laws_of_market.proofs.Tests.{same_name-eq, same_name-refl}
use Rattle.route_choice.specs.Flow.{sent_out, taken_in}
use Rattle.route_choice.proofs.Flows.{route-balance}
use Rattle.laws_of_rows.specs.declared.trades.Fill.{Fill}
use Rattle.laws_of_rows.specs.declared.trades.Maker.{Maker}
use Rattle.laws_of_rows.specs.Depth.{after_fill, buyer_zone, can_fill, next_fill, seller_zone, taken_of}
use Rattle.laws_of_rows.proofs.Fills.{carried_by, next_fill-is}
use Rattle.laws_of_rows.proofs.RowLemmas.{same_name-sym}
use Rattle.laws_of_views.proofs.FirstMakers.{AreApart, AreOnce, AreUnnamed, depth, find-front, idle, is_named_in, lots_with, named-true, taken, taken-append, taken-apart, taken-is, taken-names, taken-once}

-- ---- what trades give and carry

-- the lots that trades take of the maker of a name
abbrev pub gives : List Fill → OrderName → ℕ
gives [] name = 0
gives (fill ∷ fills) name = lots_if (same_name fill.maker name) fill.lots + gives fills name

-- the lots that a trade carries over an arc
abbrev pub over : Fill → Arc → ℕ
over fill arc = lots_if (uses fill.route arc) fill.lots

-- the lots that the trades with some makers carry over an arc
abbrev pub flow_of : List Maker → List Fill → Arc → ℕ
flow_of makers [] arc = 0
flow_of makers (fill ∷ fills) arc = lots_if (is_named_in makers fill.maker) (over fill arc) + flow_of makers fills arc

-- what is taken of the makers of a zone
abbrev pub given : List Maker → List Fill → (zone : ℕ) → ℕ
given makers fills zone = sum_by (λ maker. lots_if (maker.zone == zone) (gives fills maker.name)) makers

-- ---- sums over makers

not_named : (makers : List Maker) (name : OrderName) → is_named_in makers name ≡ false → (maker : Maker) → IsIn maker makers → same_name maker.name name ≡ false
not_named makers name none maker i = by (same_name maker.name name) refl
  where
    by : (b : Bool) → same_name maker.name name ≡ b → b ≡ false
    by false e = refl
    by true e = absurd (true≢false (sym (named-true makers maker name i (same_name-eq maker.name name e)) ∙ none))

-- what counts at the maker of a name counts once
once-sum : (name : OrderName) (lots : ℕ) (makers : List Maker) → AreOnce makers → sum_by (λ (m : Maker). lots_if (same_name name m.name) lots) makers ≡ lots_if (is_named_in makers name) lots
once-sum name lots [] once = refl
once-sum name lots (maker ∷ makers) once = by (same_name maker.name name) refl (once-sum name lots makers once.1)
  where
    by : (b : Bool) → same_name maker.name name ≡ b → sum_by (λ (m : Maker). lots_if (same_name name m.name) lots) makers ≡ lots_if (is_named_in makers name) lots
        → sum_by (λ (m : Maker). lots_if (same_name name m.name) lots) (maker ∷ makers) ≡ lots_if (same_name maker.name name || is_named_in makers name) lots
    by true e rest =
        let own : lots_if (same_name name maker.name) lots ≡ lots = ap (λ b. lots_if b lots) (same_name-sym name maker.name ∙ e) in
        let none = sum_nothing (λ (m : Maker). lots_if (same_name name m.name) lots) makers
        (λ m i. ap (λ b. lots_if b lots) (ap (λ n. same_name n m.name) (sym (same_name-eq maker.name name e)) ∙ once.0 m i)) in
        let all : lots_if (same_name maker.name name || is_named_in makers name) lots ≡ lots = ap (λ b. lots_if (b || is_named_in makers name) lots) e in
        omega (arith, sum_by-cons (λ (m : Maker). lots_if (same_name name m.name) lots) maker makers, own, none, all)
    by false e rest =
        let own : lots_if (same_name name maker.name) lots ≡ 0 = ap (λ b. lots_if b lots) (same_name-sym name maker.name ∙ e) in
        let all : lots_if (same_name maker.name name || is_named_in makers name) lots ≡ lots_if (is_named_in makers name) lots = ap (λ b. lots_if (b || is_named_in makers name) lots) e in
        omega (arith, sum_by-cons (λ (m : Maker). lots_if (same_name name m.name) lots) maker makers, own, rest, all)

-- and at its zone
zone-sum : (name : OrderName) (lots zone : ℕ) (makers : List Maker) (with : Maker) → AreOnce makers → IsIn with makers → name ≡ with.name
    → sum_by (λ (m : Maker). lots_if (m.zone == zone) (lots_if (same_name name m.name) lots)) makers ≡ lots_if (with.zone == zone) lots
zone-sum name lots zone [] with once i named = absurd i
zone-sum name lots zone (maker ∷ makers) with once i named = elim i [
  | inl first ↦
      let own : lots_if (maker.zone == zone) (lots_if (same_name name maker.name) lots) ≡ lots_if (with.zone == zone) lots =
      ap (λ (m : Maker). lots_if (m.zone == zone) (lots_if (same_name name m.name) lots)) (sym first)
      ∙ ap (λ b. lots_if (with.zone == zone) (lots_if b lots)) (ap (λ n. same_name n with.name) named ∙ same_name-refl with.name) in
      let none = sum_nothing (λ (m : Maker). lots_if (m.zone == zone) (lots_if (same_name name m.name) lots)) makers
      (λ m j. ap (λ b. lots_if (m.zone == zone) (lots_if b lots)) (ap (λ n. same_name n m.name) (named ∙ ap (λ (x : Maker). x.name) first) ∙ once.0 m j) ∙ nothing (m.zone == zone)) in
      omega (arith, sum_by-cons (λ (m : Maker). lots_if (m.zone == zone) (lots_if (same_name name m.name) lots)) maker makers, own, none)
  | inr later ↦
      let own : lots_if (maker.zone == zone) (lots_if (same_name name maker.name) lots) ≡ 0 =
      ap (λ b. lots_if (maker.zone == zone) (lots_if b lots)) (ap (λ n. same_name n maker.name) named ∙ same_name-sym with.name maker.name ∙ once.0 with later) ∙ nothing (maker.zone == zone) in
      omega (arith, sum_by-cons (λ (m : Maker). lots_if (m.zone == zone) (lots_if (same_name name m.name) lots)) maker makers, own, zone-sum name lots zone makers with once.1 later named)
]
  where
    nothing : (b : Bool) → lots_if b 0 ≡ 0
    nothing true = refl
    nothing false = refl

split_lots : (b : Bool) (m n : ℕ) → lots_if b (m + n) ≡ lots_if b m + lots_if b n
split_lots true m n = refl
split_lots false m n = refl

-- what is taken of the makers of a zone by one more trade
given-more : (fill : Fill) (fills : List Fill) (zone : ℕ) (makers : List Maker) (with : Maker) → AreOnce makers → IsIn with makers → fill.maker ≡ with.name
    → given makers (fill ∷ fills) zone ≡ lots_if (with.zone == zone) fill.lots + given makers fills zone
given-more fill fills zone makers with once i named =
    sum_parts (λ (m : Maker). lots_if (m.zone == zone) (gives (fill ∷ fills) m.name)) (λ (m : Maker). lots_if (m.zone == zone) (lots_if (same_name fill.maker m.name) fill.lots))
    (λ (m : Maker). lots_if (m.zone == zone) (gives fills m.name)) makers (λ m. split_lots (m.zone == zone) (lots_if (same_name fill.maker m.name) fill.lots) (gives fills m.name))
    ∙ ap (λ n. n + given makers fills zone) (zone-sum fill.maker fill.lots zone makers with once i named)

-- what is taken of makers does not change what is given at their zones
given-taken : (name : OrderName) (lots : ℕ) (fills : List Fill) (zone : ℕ) (makers : List Maker) → given (taken name lots makers) fills zone ≡ given makers fills zone
given-taken name lots fills zone [] = refl
given-taken name lots fills zone (maker ∷ makers) =
    let own : lots_if ((taken_of name lots maker).zone == zone) (gives fills (taken_of name lots maker).name) ≡ lots_if (maker.zone == zone) (gives fills maker.name) =
    ap (λ (m : Maker). lots_if (m.zone == zone) (gives fills m.name)) (taken-is name lots maker) in
    omega (
      arith,
      sum_by-cons (λ (m : Maker). lots_if (m.zone == zone) (gives fills m.name)) (taken_of name lots maker) (taken name lots makers),
      sum_by-cons (λ (m : Maker). lots_if (m.zone == zone) (gives fills m.name)) maker makers,
      own,
      given-taken name lots fills zone makers,
    )

flow-taken : (name : OrderName) (lots : ℕ) (makers : List Maker) (fills : List Fill) (arc : Arc) → flow_of (taken name lots makers) fills arc ≡ flow_of makers fills arc
flow-taken name lots makers [] arc = refl
flow-taken name lots makers (fill ∷ fills) arc =
    let own : lots_if (is_named_in (taken name lots makers) fill.maker) (over fill arc) ≡ lots_if (is_named_in makers fill.maker) (over fill arc) = ap (λ b. lots_if b (over fill arc)) (taken-names name lots makers fill.maker) in
    omega (arith, own, flow-taken name lots makers fills arc)

-- all that is taken of makers
pub all-given : (makers : List Maker) (fills : List Fill) → AreOnce makers → sum_by (λ (m : Maker). gives fills m.name) makers ≡ lots_with makers fills
all-given makers [] once = sum_nothing (λ (m : Maker). 0) makers (λ m i. refl)
all-given makers (fill ∷ fills) once =
    omega (
      arith,
      sum_parts (λ (m : Maker). gives (fill ∷ fills) m.name) (λ (m : Maker). lots_if (same_name fill.maker m.name) fill.lots) (λ (m : Maker). gives fills m.name) makers (λ m. refl),
      once-sum fill.maker fill.lots makers once,
      all-given makers fills once,
      sum_by-cons (λ (x : Fill). lots_if (is_named_in makers x.maker) x.lots) fill fills,
    )

-- ---- trades with none of them

unnamed-gives : (makers : List Maker) (fills : List Fill) → AreUnnamed makers fills → (maker : Maker) → IsIn maker makers → gives fills maker.name ≡ 0
unnamed-gives makers [] none maker i = refl
unnamed-gives makers (fill ∷ fills) none maker i =
    let own : lots_if (same_name fill.maker maker.name) fill.lots ≡ 0 = ap (λ b. lots_if b fill.lots) (same_name-sym fill.maker maker.name ∙ not_named makers fill.maker none.0 maker i) in
    omega (arith, own, unnamed-gives makers fills none.1 maker i)

unnamed-flow : (makers : List Maker) (fills : List Fill) → AreUnnamed makers fills → (arc : Arc) → flow_of makers fills arc ≡ 0
unnamed-flow makers [] none arc = refl
unnamed-flow makers (fill ∷ fills) none arc =
    let own : lots_if (is_named_in makers fill.maker) (over fill arc) ≡ 0 = ap (λ b. lots_if b (over fill arc)) none.0 in
    omega (arith, own, unnamed-flow makers fills none.1 arc)

-- ---- trade by trade

module _ (graph : Graph) (is : IsGraph graph) (side : Side) (zone : ℕ) (known : HasZone graph zone) where
  -- a zone but the taker's passes on what comes in and what is taken of its makers, or takes in what
  -- it passes on and what is taken of its makers
  abbrev pub Balances : Side → (Arc → ℕ) → (other lots : ℕ) → Type 0
  Balances Sell flow other lots = sent_out graph flow other ≡ taken_in graph flow other + lots
  Balances Buy flow other lots = taken_in graph flow other ≡ sent_out graph flow other + lots

  -- what the trades with some makers carry is a flow within the rooms, of what is taken of these
  pub record Flows (room : Arc → ℕ) (makers : List Maker) (fills : List Fill) : Type 0 where
    pub most : (maker : Maker) → IsIn maker makers → gives fills maker.name ≤ maker.left
    pub within : (arc : Arc) → HasArc graph arc → flow_of makers fills arc ≤ room arc + flow_of makers fills (opposite_arc arc)
    pub balanced : (other : ℕ) → other ≢ zone → Balances side (flow_of makers fills) other (given makers fills other)

  nothing-out : (flow : Arc → ℕ) (test : Arc → Bool) → ((arc : Arc) → flow arc ≡ 0) → sum_by flow (filter test (arcs_of graph)) ≡ 0
  nothing-out flow test none = sum_nothing flow (filter test (arcs_of graph)) (λ arc i. none arc)

  nothing-given : (makers : List Maker) (fills : List Fill) (other : ℕ) → ((maker : Maker) → IsIn maker makers → gives fills maker.name ≡ 0) → given makers fills other ≡ 0
  nothing-given makers fills other none =
      sum_nothing (λ (m : Maker). lots_if (m.zone == other) (gives fills m.name)) makers (λ m i. ap (lots_if (m.zone == other)) (none m i) ∙ nothing (m.zone == other))
    where
      nothing : (b : Bool) → lots_if b 0 ≡ 0
      nothing true = refl
      nothing false = refl

  flows-none : (room : Arc → ℕ) (makers : List Maker) (fills : List Fill) → AreUnnamed makers fills → Flows room makers fills
  flows-none room makers fills none =
      let no_flow = unnamed-flow makers fills none in
      let no_lots = unnamed-gives makers fills none in
      record {
        most = λ maker i. let n = no_lots maker i in omega (arith, n);
        within = λ arc on. let n = no_flow arc in omega (arith, n);
        balanced = λ other apart. even side other;
      }
    where
      even : (side : Side) (other : ℕ) → Balances side (flow_of makers fills) other (given makers fills other)
      even Sell other =
          omega (arith, nothing-out (flow_of makers fills) (λ arc. start_of graph arc == other) (unnamed-flow makers fills none), nothing-out (flow_of makers fills) (λ arc. end_of graph arc == other) (unnamed-flow makers fills none), nothing-given makers fills other (unnamed-gives makers fills none))
      even Buy other =
          omega (arith, nothing-out (flow_of makers fills) (λ arc. start_of graph arc == other) (unnamed-flow makers fills none), nothing-out (flow_of makers fills) (λ arc. end_of graph arc == other) (unnamed-flow makers fills none), nothing-given makers fills other (unnamed-gives makers fills none))

  -- one more trade with one of them
  flows-more : (room : Arc → ℕ) (makers : List Maker) (with : Maker) (fill : Fill) (fills : List Fill) → AreOnce makers → IsIn with makers → fill.maker ≡ with.name → fill.lots ≤ with.left
      → HasRoomFor graph room (seller_zone side zone with) (buyer_zone side zone with) (carried_by fill)
      → Flows (room_after room (carried_by fill)) (taken fill.maker fill.lots makers) fills → Flows room makers (fill ∷ fills)
  flows-more room makers with fill fills once i named shows fits later = record {
    most = λ maker j.
        let rest = later.most (taken_of fill.maker fill.lots maker) (IsIn-map (taken_of fill.maker fill.lots) maker makers j) in
        let told : gives fills maker.name ≤ maker.left - lots_if (same_name maker.name fill.maker) fill.lots =
        subst (λ (m : Maker). gives fills m.name ≤ m.left) (taken-is fill.maker fill.lots maker) rest in
        fits_left maker j (same_name maker.name fill.maker) refl told;
    within = λ arc on.
        let rest = later.within arc on in
        let one = flow-taken fill.maker fill.lots makers fills arc in
        let back = flow-taken fill.maker fill.lots makers fills (opposite_arc arc) in
        let own : lots_if (is_named_in makers fill.maker) (over fill arc) ≡ over fill arc = ap (λ b. lots_if b (over fill arc)) named_there in
        let own_back : lots_if (is_named_in makers fill.maker) (over fill (opposite_arc arc)) ≡ over fill (opposite_arc arc) = ap (λ b. lots_if b (over fill (opposite_arc arc))) named_there in
        let has = has_room arc (uses fill.route arc) refl in
        omega (arith, rest, one, back, own, own_back, has);
    balanced = λ other apart. even side fits later.balanced other apart;
  }
    where
      named_there : is_named_in makers fill.maker ≡ true
      named_there = named-true makers with fill.maker i (sym named)

      has_room : (arc : Arc) (b : Bool) → uses fill.route arc ≡ b → lots_if b fill.lots ≤ room arc
      has_room arc true e = fits.has_room arc (IsIn-uses fill.route arc e)
      has_room arc false e = omega arith

      fits_left : (maker : Maker) → IsIn maker makers → (b : Bool) → same_name maker.name fill.maker ≡ b → gives fills maker.name ≤ maker.left - lots_if (same_name maker.name fill.maker) fill.lots
          → gives (fill ∷ fills) maker.name ≤ maker.left
      fits_left maker j false e told =
          let none : lots_if (same_name fill.maker maker.name) fill.lots ≡ 0 = ap (λ b. lots_if b fill.lots) (same_name-sym fill.maker maker.name ∙ e) in
          omega (arith, told, none)
      fits_left maker j true e told =
          let name : maker.name ≡ with.name = same_name-eq maker.name fill.maker e ∙ named in
          let same : maker ≡ with = one_of makers once maker with j i name in
          let fewer : fill.lots ≤ maker.left = subst (λ (m : Maker). fill.lots ≤ m.left) (sym same) shows in
          let own : lots_if (same_name fill.maker maker.name) fill.lots ≡ fill.lots = ap (λ b. lots_if b fill.lots) (same_name-sym fill.maker maker.name ∙ e) in
          let less : lots_if (same_name maker.name fill.maker) fill.lots ≡ fill.lots = ap (λ b. lots_if b fill.lots) e in
          omega (arith, told, own, less, fewer)
        where
          one_of : (xs : List Maker) → AreOnce xs → (a b : Maker) → IsIn a xs → IsIn b xs → a.name ≡ b.name → a ≡ b
          one_of [] o a b i j e = absurd i
          one_of (x ∷ xs) o a b i j e = elim i [
            | inl s ↦ elim j [
              | inl t ↦ s ∙ sym t
              | inr t ↦ absurd (true≢false (sym (same_name-refl x.name) ∙ ap (same_name x.name) (ap (λ (m : Maker). m.name) (sym s) ∙ e) ∙ o.0 b t))
            ]
            | inr s ↦ elim j [
              | inl t ↦ absurd (true≢false (sym (same_name-refl x.name) ∙ ap (same_name x.name) (ap (λ (m : Maker). m.name) (sym t) ∙ sym e) ∙ o.0 a s))
              | inr t ↦ one_of xs o.1 a b s t e
            ]
          ]

      -- over the arcs that pass a test
      sums : (test : Arc → Bool) → sum_by (flow_of makers (fill ∷ fills)) (filter test (arcs_of graph))
          ≡ sum_by (over fill) (filter test (arcs_of graph)) + sum_by (flow_of (taken fill.maker fill.lots makers) fills) (filter test (arcs_of graph))
      sums test =
          sum_parts (flow_of makers (fill ∷ fills)) (over fill) (flow_of (taken fill.maker fill.lots makers) fills) (filter test (arcs_of graph))
          (λ arc.
          let own : lots_if (is_named_in makers fill.maker) (over fill arc) ≡ over fill arc = ap (λ b. lots_if b (over fill arc)) named_there in
          omega (arith, own, flow-taken fill.maker fill.lots makers fills arc))

      even : (side : Side) → HasRoomFor graph room (seller_zone side zone with) (buyer_zone side zone with) (carried_by fill)
          → ((other : ℕ) → other ≢ zone → Balances side (flow_of (taken fill.maker fill.lots makers) fills) other (given (taken fill.maker fill.lots makers) fills other))
          → (other : ℕ) → other ≢ zone → Balances side (flow_of makers (fill ∷ fills)) other (given makers (fill ∷ fills) other)
      even Sell fit rest other apart =
          let own = route-balance graph room with.zone zone fill.lots fill.route fit.is_route other in
          let not_here : lots_if (zone == other) fill.lots ≡ 0 = ap (λ b. lots_if b fill.lots) (ne_eqb zone other (λ e. apart (sym e))) in
          omega (
            arith,
            own,
            not_here,
            rest other apart,
            sums (λ arc. start_of graph arc == other),
            sums (λ arc. end_of graph arc == other),
            given-more fill fills other makers with once i named,
            given-taken fill.maker fill.lots fills other makers,
          )
      even Buy fit rest other apart =
          let own = route-balance graph room zone with.zone fill.lots fill.route fit.is_route other in
          let not_here : lots_if (zone == other) fill.lots ≡ 0 = ap (λ b. lots_if b fill.lots) (ne_eqb zone other (λ e. apart (sym e))) in
          omega (
            arith,
            own,
            not_here,
            rest other apart,
            sums (λ arc. start_of graph arc == other),
            sums (λ arc. end_of graph arc == other),
            given-more fill fills other makers with once i named,
            given-taken fill.maker fill.lots fills other makers,
          )

  pub first-flows : (room : Arc → ℕ) (makers others : List Maker) (left : ℕ) (fills : List Fill) → AreOnce makers → AreApart makers others
      → IsRun (next_fill graph side zone) after_fill (depth graph is side zone known room (makers ++ others) left) fills → Flows room makers fills
  first-flows room makers others left [] once apart run = flows-none room makers [] tt
  first-flows room makers others left (fill ∷ fills) once apart run =
      by (find (can_fill graph room side zone) makers) refl
      (first-flows (room_after room (carried_by fill)) (taken fill.maker fill.lots makers) (taken fill.maker fill.lots others) (left - fill.lots) fills
      (taken-once fill.maker fill.lots makers once) (taken-apart fill.maker fill.lots makers others apart)
      (subst (λ l. IsRun (next_fill graph side zone) after_fill (depth graph is side zone known (room_after room (carried_by fill)) l (left - fill.lots)) fills) (taken-append fill.maker fill.lots makers others) run.1))
    where
      by : (o : Option Maker) → find (can_fill graph room side zone) makers ≡ o → Flows (room_after room (carried_by fill)) (taken fill.maker fill.lots makers) fills → Flows room makers (fill ∷ fills)
      by None none rest =
          flows-none room makers (fill ∷ fills)
          (idle graph is side zone known room makers others left (fill ∷ fills) (find-none (can_fill graph room side zone) makers none) apart run)
      by (Some maker) found rest =
          let f = next_fill-is graph side zone (depth graph is side zone known room (makers ++ others) left) fill is run.0 in
          let same : f.with ≡ maker = (let two : Some f.with ≡ Some maker = sym f.found ∙ find-front (can_fill graph room side zone) makers others maker found in cc) in
          let there : IsIn f.with makers = subst (λ m. IsIn m makers) (sym same) (from_find (can_fill graph room side zone) maker makers found).0 in
          flows-more room makers f.with fill fills once there f.named f.shows f.fits rest

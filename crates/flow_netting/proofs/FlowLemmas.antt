-- What a change of one border's rows does to offers and flows on all arcs.
use Rattle.std.proofs.Common.{◌≡◌, ◌∙◌, ◌+◌, ◌<◌, ◌≤◌, ◌==◌, ◌&&◌, not, ℕ, pos, ◌+ℤ◌, ◌-ℤ◌, ℤ, Bool, true, false, List, length, get_or, if◌then◌else◌, refl, sym, ap, subst, arith, eqb-true, get_or-set_same, get_or-set_other, slice_set}
use Rattle.std.proofs.lemmas.Bool.{eqb-false, ne_eqb}
use Rattle.std.proofs.lemmas.Int.{ints}
use Rattle.quarter_capacity.specs.Row.{Row, flow, offered, with_offered, with_taken}
use Rattle.zone_graph.specs.declared.route.Arc.{Arc}
use Rattle.zone_graph.specs.Pour.{lots_if, same_arc, same_bool}
use Rattle.zone_graph.proofs.Places.{at_any}
use Rattle.flow_netting.specs.Border.{Border, idle_border, row_in}
use Rattle.flow_netting.specs.Flows.{added_by, border_at, flow_at, offered_at, row_at}

-- a list with one border put in place
pub border_at-set : (borders : List Border) (i j : ℕ) (border : Border) → i < length borders
    → border_at (slice_set borders i border) j ≡ (if i == j then border else border_at borders j)
border_at-set borders i j border within = by (i == j) refl
  where
    by : (b : Bool) → (i == j) ≡ b → border_at (slice_set borders i border) j ≡ (if b then border else border_at borders j)
    by true e = subst (λ k. border_at (slice_set borders i border) k ≡ border) (eqb-true i j e) (get_or-set_same borders i border idle_border within)
    by false e = get_or-set_other borders i j border idle_border (λ same. eqb-false i j e (sym same))

row_at-set : (borders : List Border) (arc other : Arc) (border : Border) (number : ℕ) → arc.border < length borders
    → row_at (slice_set borders arc.border border) other number ≡ row_in (if arc.border == other.border then border else border_at borders other.border) number
row_at-set borders arc other border number within = ap (λ b. row_in b number) (border_at-set borders arc.border other.border border within)

-- ---- what is taken

no_change : (z : ℤ) → z ≡ z +ℤ (pos 0 -ℤ pos 0)
no_change z = omega (arith, ints)

flow_if : (row : Row) (forward direction counts : Bool) (lots : ℕ)
    → flow (if counts then with_taken row forward lots else row) direction
    ≡ (if counts then flow row direction +ℤ (pos (lots_if (same_bool forward direction) lots) -ℤ pos (lots_if (same_bool forward (not direction)) lots)) else flow row direction)
flow_if row forward direction false lots = refl
flow_if row true true true lots = omega (arith, ints)
flow_if row true false true lots = omega (arith, ints)
flow_if row false true true lots = omega (arith, ints)
flow_if row false false true lots = omega (arith, ints)

-- what is taken on an arc in a quarter, if it counts, moves the flow over this arc and the opposite
-- one, and over no other
pub flow_at-set : (borders : List Border) (arc other : Arc) (d border : Border) (number lots : ℕ) (counts : Bool) → arc.border < length borders
    → row_in border number ≡ (if counts then with_taken (row_in (get_or borders arc.border d) number) arc.forward lots else row_in (get_or borders arc.border d) number)
    → flow_at (slice_set borders arc.border border) other number
    ≡ (if counts then flow_at borders other number +ℤ added_by (same_arc arc) lots other else flow_at borders other number)
flow_at-set borders arc other d border number lots counts within taken =
    ap (λ row. flow row other.forward) (row_at-set borders arc other border number within)
    ∙ by (arc.border == other.border) refl counts
    (taken ∙ ap (λ b. if counts then with_taken (row_in b number) arc.forward lots else row_in b number) (at_any borders arc.border d idle_border within))
  where
    by : (b : Bool) → (arc.border == other.border) ≡ b → (c : Bool)
        → row_in border number ≡ (if c then with_taken (row_at borders arc number) arc.forward lots else row_at borders arc number)
        → flow (row_in (if b then border else border_at borders other.border) number) other.forward
        ≡ (if c then flow_at borders other number +ℤ (pos (lots_if (b && same_bool arc.forward other.forward) lots) -ℤ pos (lots_if (b && same_bool arc.forward (not other.forward)) lots)) else flow_at borders other number)
    by true e c h =
        ap (λ row. flow row other.forward)
        (h ∙ ap (λ k. if c then with_taken (row_in (border_at borders k) number) arc.forward lots else row_in (border_at borders k) number) (eqb-true arc.border other.border e))
        ∙ flow_if (row_at borders other number) arc.forward other.forward c lots
    by false e true h = no_change (flow_at borders other number)
    by false e false h = refl

-- ---- what is offered

offered_if : (row : Row) (forward direction counts : Bool) (lots : ℕ)
    → offered (if counts then with_offered row forward lots else row) direction
    ≡ (if same_bool forward direction && counts then lots else offered row direction)
offered_if row true true true lots = refl
offered_if row true false true lots = refl
offered_if row false true true lots = refl
offered_if row false false true lots = refl
offered_if row true true false lots = refl
offered_if row true false false lots = refl
offered_if row false true false lots = refl
offered_if row false false false lots = refl

-- an offer on an arc in a quarter, if it counts, is what is offered there, and nowhere else
pub offered_at-set : (borders : List Border) (arc other : Arc) (d border : Border) (number lots : ℕ) (counts : Bool) → arc.border < length borders
    → row_in border number ≡ (if counts then with_offered (row_in (get_or borders arc.border d) number) arc.forward lots else row_in (get_or borders arc.border d) number)
    → offered_at (slice_set borders arc.border border) other number
    ≡ (if same_arc arc other && counts then lots else offered_at borders other number)
offered_at-set borders arc other d border number lots counts within offered_now =
    ap (λ row. offered row other.forward) (row_at-set borders arc other border number within) ∙ by (arc.border == other.border) refl
  where
    by : (b : Bool) → (arc.border == other.border) ≡ b
        → offered (row_in (if b then border else border_at borders other.border) number) other.forward
        ≡ (if (b && same_bool arc.forward other.forward) && counts then lots else offered_at borders other number)
    by true e =
        ap (λ row. offered row other.forward)
        (offered_now
        ∙ ap (λ b. if counts then with_offered (row_in b number) arc.forward lots else row_in b number) (at_any borders arc.border d idle_border within)
        ∙ ap (λ k. if counts then with_offered (row_in (border_at borders k) number) arc.forward lots else row_in (border_at borders k) number) (eqb-true arc.border other.border e))
        ∙ offered_if (row_at borders other number) arc.forward other.forward counts lots
    by false e = refl

-- ---- a border, quarter by quarter

module _ (new mid old : ℕ → Row) (counts : ℕ → Bool) (change : Row → Row) (number : ℕ) (first : 1 ≤ number) (last : number ≤ 4)
    (step : (n : ℕ) → 1 ≤ n → n ≤ 4 → new n ≡ (if (n == number) && counts number then change (mid n) else mid n))
    (left : (n : ℕ) → number ≤ n → n ≤ 4 → mid n ≡ old n) where
  -- the quarters before the next one are changed where they count
  pub done_more : ((n : ℕ) → 1 ≤ n → n < number → mid n ≡ (if counts n then change (old n) else old n))
      → (n : ℕ) → 1 ≤ n → n < number + 1 → new n ≡ (if counts n then change (old n) else old n)
  done_more done n above below = by (n == number) refl (step n above (omega arith))
    where
      by : (b : Bool) → (n == number) ≡ b → new n ≡ (if b && counts number then change (mid n) else mid n) → new n ≡ (if counts n then change (old n) else old n)
      by true e h =
          let same : n ≡ number = eqb-true n number e in
          h ∙ ap (λ row. if counts number then change row else row) (left n (omega arith) (omega arith)) ∙ ap (λ k. if counts k then change (old n) else old n) (sym same)
      by false e h =
          let apart : n ≡ number → ⊥ = eqb-false n number e in
          h ∙ done n above (omega arith)

  -- the quarters after it are as before
  pub left_more : (n : ℕ) → number + 1 ≤ n → n ≤ 4 → new n ≡ old n
  left_more n above most =
      let apart : (n == number) ≡ false = ne_eqb n number (λ same. let no : ⊥ = omega arith in no) in
      step n (omega arith) most ∙ ap (λ b. if b && counts number then change (mid n) else mid n) apart ∙ left n (omega arith) most

-- What becomes of lines where a place joins one, leaves one, or holds another record.
use Rattle.std.proofs.Common.{◌≡◌, ◌≢◌, ◌∙◌, ◌⊎◌, inl, inr, ℕ, zero, suc, ◌+◌, ◌<◌, Bool, true, false, List, [], ◌∷◌, ◌++◌, length, set, get_or, sum_by, replicate, Contains, Option, Some, None, IsSome, refl, sym, ap, subst, arith}
use Rattle.std.proofs.lemmas.Bool.{cases_eq}
use Rattle.std.proofs.lemmas.List.{get_or-set_same, get_or-set_other, length-set, get_or-replicate, length-replicate, append-nil}
use Rattle.std.proofs.lemmas.List.Folds.{sum_by-replicate}
use Rattle.std.proofs.lemmas.List.Elements.{filter_map-append}
use Rattle.std.proofs.lemmas.List.Sorted.{ranks_by}
use Rattle.std.specs.Cmp.{IsTotalOrder}
use Rattle.std.specs.List.{cons_option}
use Rattle.std.specs.Ordering.{is_lt}
use Rattle.std.specs.declared.cmp.Ordering.{Ordering}
use Rattle.order_kinds.specs.declared.side.Side.{Side}
use Rattle.order_pool.specs.Lines.{line_at, first_in, StandsIn, StandsBetween, IsInserted, IsRemoved}
use Rattle.order_pool.specs.Rings.{AreRings}
use Rattle.order_pool.proofs.Chains.{Misses, contains_between, misses_absent}
use Rattle.order_pool.proofs.MoveLemmas.{between_in}
use Rattle.order_pool.proofs.OnceLemmas.{once_front, once_back, once_other, removed_loses, removed_keeps, removed_total, joined_here, joined_keeps, joined_cases, joined_total}
use Rattle.zone_graph.specs.InOrder.{IsStrictlyInOrder, put_in_order}
use Rattle.zone_graph.specs.Route.{IsIn}
use Rattle.zone_graph.proofs.InOrder.{in_order-between, in_order-without, in_order-ahead, in_order-behind, in_order-put, put_in_order-between}
use Rattle.record_pool.specs.Keyed.{held_at, held_count}
use Rattle.record_pool.specs.Lines.{AreLines}
use Rattle.record_pool.specs.Ranked.{records_of, IsSpot}
use Rattle.record_pool.proofs.Counts.{held_count-put, held_count-take, held_count-set, held_count-none}
use Rattle.record_pool.proofs.KeyedLemmas.{held-within}
use Rattle.record_pool.proofs.SpotLemmas.{records-through}

module _ {T : Type 0} (places : List (Option T)) where
  -- a place that a line does not have changes none of its records
  pub records-other : (place : ℕ) (o : Option T) (line : List ℕ) → Misses place line → records_of (set places place o) line ≡ records_of places line
  records-other place o [] misses = refl
  records-other place o (at ∷ line) misses =
      rw (get_or-set_other places place at o None misses.0) (ap (cons_option (held_at places at)) (records-other place o line misses.1))

  -- a record of a line is that of a place of it
  pub from_records : (item : T) (line : List ℕ) → IsIn item (records_of places line) → (place : ℕ) × Contains line place × (held_at places place ≡ Some item)
  from_records item [] i = absurd i
  from_records item (at ∷ line) i = go (from_records item line) (held_at places at) refl i
    where
      later : (place : ℕ) × Contains line place × (held_at places place ≡ Some item) → (place : ℕ) × Contains (at ∷ line) place × (held_at places place ≡ Some item)
      later found = (found.0, (suc found.1.0, (let less = found.1.1 in omega (arith, less)), found.1.2), found.2)

      go : (IsIn item (records_of places line) → (place : ℕ) × Contains line place × (held_at places place ≡ Some item)) → (o : Option T) → held_at places at ≡ o
          → IsIn item (cons_option o (records_of places line)) → (place : ℕ) × Contains (at ∷ line) place × (held_at places place ≡ Some item)
      go rest None e k = later (rest k)
      go rest (Some x) e k = elim k [ inl same ↦ (at, (0, omega arith, refl), e ∙ ap Some (sym same)) | inr j ↦ later (rest j) ]

  pub in_records : (item : T) (place : ℕ) (line : List ℕ) → Contains line place → held_at places place ≡ Some item → IsIn item (records_of places line)
  in_records item place [] has holds = absurd (omega (arith, has.1))
  in_records item place (at ∷ line) (zero, within, found) holds =
      subst (λ o. IsIn item (cons_option o (records_of places line))) (sym (ap (held_at places) found ∙ holds)) (inl refl)
  in_records item place (at ∷ line) (suc k, within, found) holds =
      later (held_at places at) (in_records item place line (k, omega (arith, within), found) holds)
    where
      later : (o : Option T) → IsIn item (records_of places line) → IsIn item (cons_option o (records_of places line))
      later None i = i
      later (Some x) i = inr i

-- where the spot of a record is, its place joins the line
pub spot-inserted : {T : Type 0} (cmp : T → T → Ordering) (places : List (Option T)) (lines new : List (List ℕ)) (k place : ℕ) (joining : T) (before : Option ℕ) → k < length lines
    → (spot : IsSpot cmp places (line_at lines k) joining before) → IsInserted lines new k before place → new ≡ set lines k (spot.front ++ place ∷ spot.back)
spot-inserted cmp places lines new k place joining before within spot inserted = go before spot.back spot.at spot.whole inserted
  where
    go : (b : Option ℕ) (back : List ℕ) → b ≡ first_in back → line_at lines k ≡ spot.front ++ back → IsInserted lines new k b place → new ≡ set lines k (spot.front ++ place ∷ back)
    go None [] at whole is = is ∙ ap (λ l. set lines k (l ++ place ∷ [])) (whole ∙ append-nil spot.front)
    go None (after ∷ back) at whole is = absurd (cc)
    go (Some after) [] at whole is = absurd (cc)
    go (Some after) (first ∷ back) at whole is =
        let same : after ≡ first = cc in
        is spot.front back (within, whole ∙ ap (λ p. spot.front ++ p ∷ back) (sym same)) ∙ ap (λ p. set lines k (spot.front ++ place ∷ p ∷ back)) same

-- the place at a spot stands in the line
pub spot-stands : {T : Type 0} (cmp : T → T → Ordering) (places : List (Option T)) (lines : List (List ℕ)) (k : ℕ) (joining : T) (before : Option ℕ) → k < length lines
    → IsSpot cmp places (line_at lines k) joining before → (after : ℕ) → before ≡ Some after → StandsIn lines k after
spot-stands cmp places lines k joining before within spot after is =
    (within, subst (λ l. Contains l after) (sym spot.whole) (go spot.front spot.back (sym is ∙ spot.at)))
  where
    go : (front back : List ℕ) → Some after ≡ first_in back → Contains (front ++ back) after
    go front [] e = absurd (cc)
    go front (first ∷ back) e =
        let same : after ≡ first = cc in
        subst (λ p. Contains (front ++ p ∷ back) after) same (contains_between after front back)

module _ {T : Type 0} (cmp : Side → T → T → Ordering) (side_of : ℕ → Side) (BelongsTo : ℕ → T → Type 0) (places : List (Option T)) (lines : List (List ℕ)) (are : AreLines cmp side_of BelongsTo places lines) where
  pub free-absent : (place : ℕ) → held_at places place ≡ None → (line : ℕ) → StandsIn lines line place → ⊥
  free-absent place free line stands = let there = are.live line place stands in (let holds = there.1 in absurd (cc))

  free-misses : (place : ℕ) → held_at places place ≡ None → (line : ℕ) → line < length lines → Misses place (line_at lines line)
  free-misses place free line within = misses_absent place (line_at lines line) (λ has. free-absent place free line (within, has))

  -- a record comes to a free place, which joins the line at its spot
  module _ (k place : ℕ) (joining : T) (before : Option ℕ) (within : k < length lines) (low : place < length places) (free : held_at places place ≡ None)
      (spot : IsSpot (cmp (side_of k)) places (line_at lines k) joining before) where
    parts_miss : Misses place spot.front × Misses place spot.back
    parts_miss = go spot.front (subst (Misses place) spot.whole (free-misses place free k within))
      where
        go : (front : List ℕ) → Misses place (front ++ spot.back) → Misses place front × Misses place spot.back
        go [] misses = (tt, misses)
        go (at ∷ front) misses = let rest = go front misses.1 in ((misses.0, rest.0), rest.1)

    -- the records of that line
    pub put-here : records_of (set places place (Some joining)) (spot.front ++ place ∷ spot.back) ≡ put_in_order (cmp (side_of k)) (records_of places (line_at lines k)) joining
    put-here =
        records-through (set places place (Some joining)) spot.front spot.back place joining (get_or-set_same places place (Some joining) None low)
        ∙ ap (λ l. l ++ joining ∷ records_of (set places place (Some joining)) spot.back) (records-other places place (Some joining) spot.front parts_miss.0)
        ∙ ap (λ l. records_of places spot.front ++ joining ∷ l) (records-other places place (Some joining) spot.back parts_miss.1)
        ∙ sym (put_in_order-between (cmp (side_of k)) (records_of places spot.front) (records_of places spot.back) joining spot.ahead spot.behind)
        ∙ ap (λ l. put_in_order (cmp (side_of k)) l joining) (sym (ap (records_of places) spot.whole ∙ filter_map-append (held_at places) spot.front spot.back))

    -- and those of any other
    pub put-other : (line : ℕ) → line < length lines → records_of (set places place (Some joining)) (line_at lines line) ≡ records_of places (line_at lines line)
    put-other line inside = records-other places place (Some joining) (line_at lines line) (free-misses place free line inside)

    module _ (total : IsTotalOrder (cmp (side_of k))) (rings : AreRings (set lines k (spot.front ++ place ∷ spot.back))) (belongs : BelongsTo k joining)
        (apart : (other : T) → IsIn other (records_of places (line_at lines k)) → is_lt (cmp (side_of k) joining other) ≡ false → is_lt (cmp (side_of k) other joining) ≡ true) where
      pub AreLines-put : AreLines cmp side_of BelongsTo (set places place (Some joining)) (set lines k (spot.front ++ place ∷ spot.back))
      AreLines-put = record {
        rings = rings;
        live = λ line at stands. elim (joined_cases lines k place spot.front spot.back within spot.whole line at stands) [
          | inl was ↦
              let there = are.live line at was in
              (there.0, get_or-set_other places place at (Some joining) None (λ same. free-absent place free line (subst (StandsIn lines line) same was)) ∙ there.1, there.2)
          | inr it ↦ (
            joining,
            ap (held_at (set places place (Some joining))) (sym it.0) ∙ get_or-set_same places place (Some joining) None low,
            subst (λ l. BelongsTo l joining) (sym it.1) belongs,
          )
        ];
        stands = λ at item holds. elim (cases_eq at place) [
          | inl is ↦ (k, subst (StandsIn (set lines k (spot.front ++ place ∷ spot.back)) k) (sym is) (joined_here lines k place spot.front spot.back within spot.whole))
          | inr differs ↦
              let there = are.stands at item (sym (get_or-set_other places place at (Some joining) None differs) ∙ holds) in
              (there.0, joined_keeps lines k place spot.front spot.back within spot.whole there.0 at there.1)
        ];
        total = omega (arith, joined_total lines k place spot.front spot.back within spot.whole, held_count-put places place joining low free, are.total);
        sorted = λ line inside. elim (cases_eq line k) [
          | inl is ↦
              let ring = spot.front ++ place ∷ spot.back in
              let here : line_at (set lines k ring) line ≡ ring = ap (line_at (set lines k ring)) is ∙ get_or-set_same lines k ring [] within in
              let strict = in_order-put (cmp (side_of k)) (ranks_by total (λ (x : T). x)) (records_of places (line_at lines k)) joining (are.sorted k within) apart in
              rw (here, is) (subst (IsStrictlyInOrder (cmp (side_of k))) (sym put-here) strict)
          | inr differs ↦
              let ring = spot.front ++ place ∷ spot.back in
              let was : line < length lines = omega (arith, inside, length-set lines k ring) in
              rw (get_or-set_other lines k line ring [] differs) (subst (IsStrictlyInOrder (cmp (side_of line))) (sym (put-other line was)) (are.sorted line was))
        ];
      }

  -- a place that holds a record
  module _ (k place : ℕ) (old : T) (holds : held_at places place ≡ Some old) (front back : List ℕ) (stands : StandsBetween lines k front place back) where
    front_misses : Misses place front
    front_misses = once_front lines are.rings.once k place front back stands

    back_misses : Misses place back
    back_misses = once_back lines are.rings.once k place front back stands

    -- the records of its line
    pub line-through : records_of places (line_at lines k) ≡ records_of places front ++ old ∷ records_of places back
    line-through = ap (records_of places) stands.1 ∙ records-through places front back place old holds

    pub other-kept : (o : Option T) (line : ℕ) → line < length lines → line ≢ k → records_of (set places place o) (line_at lines line) ≡ records_of places (line_at lines line)
    other-kept o line inside differs =
        records-other places place o (line_at lines line) (once_other lines are.rings.once k line place front back inside differs stands)

    -- it leaves its line and holds nothing more
    pub take-here : records_of (set places place None) (front ++ back) ≡ records_of places front ++ records_of places back
    take-here =
        filter_map-append (held_at (set places place None)) front back
        ∙ ap (λ l. l ++ records_of (set places place None) back) (records-other places place None front front_misses)
        ∙ ap (λ l. records_of places front ++ l) (records-other places place None back back_misses)

    pub AreLines-take : AreRings (set lines k (front ++ back)) → AreLines cmp side_of BelongsTo (set places place None) (set lines k (front ++ back))
    AreLines-take rings = record {
      rings = rings;
      live = λ line at has.
          let was = removed_loses lines are.rings.once k place front back stands line at has in
          let there = are.live line at was.0 in
          (there.0, get_or-set_other places place at None None was.1 ∙ there.1, there.2);
      stands = λ at item held. elim (cases_eq at place) [
        | inl is ↦
            let none : held_at (set places place None) at ≡ None = ap (held_at (set places place None)) is ∙ get_or-set_same places place None None (held-within places place old holds) in
            absurd (cc)
        | inr differs ↦
            let there = are.stands at item (sym (get_or-set_other places place at None None differs) ∙ held) in
            (there.0, removed_keeps lines are.rings.once k place front back stands there.0 at differs there.1)
      ];
      total = omega (arith, removed_total lines are.rings.once k place front back stands, held_count-take places place old holds, are.total);
      sorted = λ line inside. elim (cases_eq line k) [
        | inl is ↦
            let here : line_at (set lines k (front ++ back)) line ≡ front ++ back = ap (line_at (set lines k (front ++ back))) is ∙ get_or-set_same lines k (front ++ back) [] stands.0 in
            let strict : IsStrictlyInOrder (cmp (side_of k)) (records_of places front ++ old ∷ records_of places back) = subst (IsStrictlyInOrder (cmp (side_of k))) line-through (are.sorted k stands.0) in
            rw (here, is) (subst (IsStrictlyInOrder (cmp (side_of k))) (sym take-here) (in_order-without (cmp (side_of k)) (records_of places front) (records_of places back) old strict))
        | inr differs ↦
            let was : line < length lines = omega (arith, inside, length-set lines k (front ++ back)) in
            rw (get_or-set_other lines k line (front ++ back) [] differs) (subst (IsStrictlyInOrder (cmp (side_of line))) (sym (other-kept None line was differs)) (are.sorted line was))
      ];
    }

    -- it holds another record of the same rank
    module _ (item : T) where
      pub set-here : records_of (set places place (Some item)) (line_at lines k) ≡ records_of places front ++ item ∷ records_of places back
      set-here =
          ap (records_of (set places place (Some item))) stands.1
          ∙ records-through (set places place (Some item)) front back place item (get_or-set_same places place (Some item) None (held-within places place old holds))
          ∙ ap (λ l. l ++ item ∷ records_of (set places place (Some item)) back) (records-other places place (Some item) front front_misses)
          ∙ ap (λ l. records_of places front ++ item ∷ l) (records-other places place (Some item) back back_misses)

      pub AreLines-set : BelongsTo k item → ((other : T) → cmp (side_of k) item other ≡ cmp (side_of k) old other) → ((other : T) → cmp (side_of k) other item ≡ cmp (side_of k) other old)
          → AreLines cmp side_of BelongsTo (set places place (Some item)) lines
      AreLines-set belongs same same_too = record {
        rings = are.rings;
        live = λ line at has. elim (cases_eq at place) [
          | inl is ↦
              let only : line ≡ k = own_line line (subst (StandsIn lines line) is has) in (
                item,
                ap (held_at (set places place (Some item))) is ∙ get_or-set_same places place (Some item) None (held-within places place old holds),
                subst (λ l. BelongsTo l item) (sym only) belongs,
              )
          | inr differs ↦
              let there = are.live line at has in
              (there.0, get_or-set_other places place at (Some item) None differs ∙ there.1, there.2)
        ];
        stands = λ at held_item held. elim (cases_eq at place) [
          | inl is ↦ are.stands at old (ap (held_at places) is ∙ holds)
          | inr differs ↦ are.stands at held_item (sym (get_or-set_other places place at (Some item) None differs) ∙ held)
        ];
        total = are.total ∙ sym (held_count-set places place old item holds);
        sorted = λ line inside. elim (cases_eq line k) [
          | inl is ↦
              let strict : IsStrictlyInOrder (cmp (side_of k)) (records_of places front ++ old ∷ records_of places back) = subst (IsStrictlyInOrder (cmp (side_of k))) line-through (are.sorted k stands.0) in
              let kept = in_order-between (cmp (side_of k)) (records_of places front) (records_of places back) item
              (in_order-without (cmp (side_of k)) (records_of places front) (records_of places back) old strict)
              (λ y i. ap is_lt (same_too y) ∙ in_order-ahead (cmp (side_of k)) (records_of places front) (records_of places back) old strict y i)
              (λ y i. ap is_lt (same y) ∙ in_order-behind (cmp (side_of k)) (records_of places front) (records_of places back) old strict y i) in
              rw is (subst (IsStrictlyInOrder (cmp (side_of k))) (sym set-here) kept)
          | inr differs ↦ subst (IsStrictlyInOrder (cmp (side_of line))) (sym (other-kept (Some item) line inside differs)) (are.sorted line inside)
        ];
      }
        where
          own_line : (line : ℕ) → StandsIn lines line place → line ≡ k
          own_line line has =
              let cut = between_in lines line place has in
              (are.rings.once line k place cut.0 cut.1 front back cut.2 stands).0

-- lines with no place
pub AreLines-none : {T : Type 0} (cmp : Side → T → T → Ordering) (side_of : ℕ → Side) (BelongsTo : ℕ → T → Type 0) (places : List (Option T)) (lines : List (List ℕ)) (count : ℕ)
    → ((place : ℕ) → held_at places place ≡ None) → lines ≡ replicate count [] → AreRings lines → AreLines cmp side_of BelongsTo places lines
AreLines-none {T} cmp side_of BelongsTo places lines count free empty rings =
    let none : List ℕ = [] in
    let at : (line : ℕ) → line < length lines → line_at lines line ≡ none =
    λ line within. ap (λ l. line_at l line) empty ∙ get_or-replicate count line none none (omega (arith, within, ap length empty, length-replicate count none)) in
    record {
      rings = rings;
      live = λ line place stands. absurd (omega (arith, stands.1.1, ap length (at line stands.0)));
      stands = λ place item holds. absurd (let nothing = free place in cc);
      total = omega (arith, ap (sum_by length) empty, sum_by-replicate length count none, held_count-none places free);
      sorted = λ line within. subst (λ l. IsStrictlyInOrder (cmp (side_of line)) (records_of places l)) (sym (at line within)) tt;
    }

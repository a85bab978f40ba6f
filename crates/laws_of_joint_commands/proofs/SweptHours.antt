-- The sweeps of several hours, each by its own hour's events.
use Rattle.std.proofs.Common.{◌≡◌, ◌∙◌, inl, inr, ℕ, zero, suc, ◌+◌, ◌<◌, Bool, true, false, ◌||◌, List, [], ◌∷◌, ◌++◌, flat_map, nat_eq, nat_lt, eqb-true, eq-eqb, refl, sym, ap, subst, if◌then◌else◌, arith}
use Rattle.std.specs.List.{range_with_len}
use Rattle.std.proofs.lemmas.Bool.{and_from, and_parts, lt-ltb, ltb-true, true≢false}
use Rattle.std.proofs.lemmas.List.{append-nil}
use Rattle.std.proofs.lemmas.List.Elements.{filter-append}
use Rattle.order_kinds.specs.declared.contract.Part.{Part}
use Rattle.order_kinds.specs.Period.{hours_from}
use Rattle.zone_graph.specs.Graph.{Graph}
use Rattle.zone_graph.specs.Route.{AreDifferent, IsIn, has}
use Rattle.zone_graph.proofs.Membership.{IsIn-has, from_filter}
use Rattle.market_model.specs.declared.event.Event.{Event}
use Rattle.market_model.specs.History.{of_hour, touches}
use Rattle.market_model.specs.Rules.{ascends}
use Rattle.market_model.specs.Sweep.{sweep, sweeps}
use Rattle.laws_of_market.proofs.LocalEntries.{sweeps-agree}
use Rattle.laws_of_market.proofs.LocalLines.{sweep-agree, sweep-named}
use Rattle.laws_of_market.proofs.NamedByHour.{AreNamedByHour, history-named, named-append}
use Rattle.laws_of_market.proofs.Restrict.{filter-filter}
use Rattle.laws_of_market.proofs.LocalStates.{Agree}
use Rattle.laws_of_market.proofs.WithinHours.{AreWithinHours, sweep-within}
use Rattle.laws_of_joint_commands.proofs.Touching.{none-elsewhere, sweep-own}
use Rattle.laws_of_joint_commands.specs.Sweeps.{SweepsAreHourByHour, SweepsOfAnHour}

-- ---- hours that ascend

-- what stands behind an hour is above it
above : (hour : ℕ) (hours : List ℕ) → ascends (hour ∷ hours) ≡ true → (other : ℕ) → IsIn other hours → hour < other
above hour [] up other i = absurd i
above hour (next ∷ hours) up other i =
    let both = and_parts (nat_lt hour next) (ascends (next ∷ hours)) up in
    let less = ltb-true hour next both.0 in
    elim i [
      | inl same ↦ subst (λ n. hour < n) (sym same) less
      | inr j ↦ let more = above next hours both.1 other j in omega (arith, less, more)
    ]

ascends-rest : (hour : ℕ) (hours : List ℕ) → ascends (hour ∷ hours) ≡ true → ascends hours ≡ true
ascends-rest hour [] up = refl
ascends-rest hour (next ∷ hours) up = (and_parts (nat_lt hour next) (ascends (next ∷ hours)) up).1

-- so no hour stands twice
pub ascends-different : (hours : List ℕ) → ascends hours ≡ true → AreDifferent hours
ascends-different [] up = tt
ascends-different (hour ∷ hours) up =
    ((λ i. let less = above hour hours up hour i in omega (arith, less)), ascends-different hours (ascends-rest hour hours up))

-- the hours of a period ascend
pub hours-ascend : (first last : ℕ) → ascends (hours_from first last) ≡ true
hours-ascend first last = count first _
  where
    count : (first most : ℕ) → ascends (range_with_len first most) ≡ true
    count first zero = refl
    count first (suc zero) = refl
    count first (suc (suc most)) =
        and_from (nat_lt first (first + 1)) (ascends (range_with_len (first + 1) (suc most))) (lt-ltb first (first + 1) (omega arith)) (count (first + 1) (suc most))

-- ---- events of some hours

-- a history agrees with itself and more events on the hours that these do not touch
pub aside-agrees : (hours own : List ℕ) (events more : List Event) → AreNamedByHour events → AreNamedByHour more → AreWithinHours own more
    → ((hour : ℕ) → IsIn hour hours → IsIn hour own → ⊥) → Agree hours (events ++ more) events
aside-agrees hours own events more named added within apart = record {
  named_a = named-append events more named added;
  named_b = named;
  same = λ hour i. filter-append (touches hour) events more ∙ ap (λ es. of_hour hour events ++ es) (none-elsewhere own hour more within (apart hour i)) ∙ append-nil (of_hour hour events);
}

-- ---- sweeps

module _ (parts : List Part) (graph : Graph) where
  -- the sweep of one hour leaves those of others as they were
  pub sweeps-apart : (hours : List ℕ) (events : List Event) → AreNamedByHour events → AreDifferent hours
      → sweeps parts graph hours events ≡ flat_map (λ hour. sweep parts graph hour events) hours
  sweeps-apart [] events named differ = refl
  sweeps-apart (hour ∷ hours) events named differ =
      let legs : List Event = sweep parts graph hour events in
      let agree = aside-agrees hours (hour ∷ []) events legs named (sweep-named parts graph hour events named) (sweep-within (hour ∷ []) parts graph hour events (inl refl) named)
      (λ other i own. elim own [ inl same ↦ differ.0 (subst (λ n. IsIn n hours) same i) | inr j ↦ absurd j ]) in
      ap (λ rest. legs ++ rest) (sweeps-agree hours parts graph hours (events ++ legs) events agree (λ other i. i) ∙ sweeps-apart hours events named differ.1)

-- what stands for each of some items in a row can be exchanged
pub flat_map-same : {X Y : Type 0} (f g : X → List Y) (xs : List X) → ((x : X) → IsIn x xs → f x ≡ g x) → flat_map f xs ≡ flat_map g xs
flat_map-same f g [] same = refl
flat_map-same f g (x ∷ xs) same = rw (same x (inl refl), flat_map-same f g xs (λ y i. same y (inr i))) refl

-- the events of an hour agree with the history on it
pub own-agrees : (events : List Event) → AreNamedByHour events → (hour : ℕ) → Agree (hour ∷ []) (of_hour hour events) events
own-agrees events named hour = record {
  named_a = λ e i. named e (from_filter (touches hour) e events i).0;
  named_b = named;
  same = λ other i. elim i [
    | inl same ↦ subst (λ h. of_hour h (of_hour hour events) ≡ of_hour h events) (sym same) (filter-filter (touches hour) (touches hour) events (λ e j own. own))
    | inr j ↦ absurd j
  ];
}

-- what lists for different hours, each within its own, have of one
pub of_one : (hours : List ℕ) (made : ℕ → List Event) → AreDifferent hours → ((hour : ℕ) → IsIn hour hours → AreWithinHours (hour ∷ []) (made hour))
    → (hour : ℕ) → of_hour hour (flat_map made hours) ≡ (if has hour hours then of_hour hour (made hour) else [])
of_one [] made differ own hour = refl
of_one (other ∷ hours) made differ own hour =
    filter-append (touches hour) (made other) (flat_map made hours)
    ∙ ap (λ es. of_hour hour (made other) ++ es) (of_one hours made differ.1 (λ k i. own k (inr i)) hour)
    ∙ by_test (nat_eq other hour) refl
  where
    by_rest : other ≡ hour → (t : Bool) → has hour hours ≡ t → of_hour hour (made other) ++ (if t then of_hour hour (made hour) else []) ≡ of_hour hour (made hour)
    by_rest same true there = absurd (differ.0 (subst (λ n. IsIn n hours) (sym same) (IsIn-has hour hours there)))
    by_rest same false apart = append-nil (of_hour hour (made other)) ∙ ap (λ k. of_hour hour (made k)) same

    by_test : (t : Bool) → nat_eq other hour ≡ t
        → of_hour hour (made other) ++ (if has hour hours then of_hour hour (made hour) else []) ≡ (if t || has hour hours then of_hour hour (made hour) else [])
    by_test true e = by_rest (eqb-true other hour e) (has hour hours) refl
    by_test false e = ap (λ es. es ++ (if has hour hours then of_hour hour (made hour) else []))
        (none-elsewhere (other ∷ []) hour (made other) (own other (inl refl)) (λ i. elim i [ inl same ↦ true≢false (sym (eq-eqb other hour (sym same)) ∙ e) | inr j ↦ absurd j ]))

-- ---- events that hours share, and then their sweeps

module _ (parts : List Part) (graph : Graph) (hours : List ℕ) (differ : AreDifferent hours) (events done : List Event) (named : AreNamedByHour events) (added : AreNamedByHour done) where
  -- what an hour has before its sweep, and the sweep
  abbrev own_before : (hour : ℕ) → List Event
  own_before hour = of_hour hour events ++ of_hour hour done

  abbrev own_sweep : (hour : ℕ) → List Event
  own_sweep hour = sweep parts graph hour (own_before hour)

  all_named : AreNamedByHour (events ++ done)
  all_named = named-append events done named added

  swept : (hour : ℕ) → sweep parts graph hour (events ++ done) ≡ own_sweep hour
  swept hour =
      sym (sweep-agree (hour ∷ []) (of_hour hour (events ++ done)) (events ++ done) parts graph hour (own-agrees (events ++ done) all_named hour) (inl refl))
      ∙ ap (sweep parts graph hour) (filter-append (touches hour) events done)

  -- each hour's sweep is its own
  pub then-swept : sweeps parts graph hours (events ++ done) ≡ flat_map own_sweep hours
  then-swept =
      sweeps-apart parts graph hours (events ++ done) all_named differ
      ∙ flat_map-same (λ hour. sweep parts graph hour (events ++ done)) own_sweep hours (λ hour i. swept hour)

  -- so is what an hour has of all
  pub then-of_hour : (hour : ℕ) → of_hour hour (done ++ sweeps parts graph hours (events ++ done)) ≡ of_hour hour done ++ (if has hour hours then own_sweep hour else [])
  then-of_hour hour =
      filter-append (touches hour) done (sweeps parts graph hours (events ++ done))
      ∙ ap (λ es. of_hour hour done ++ es) (ap (of_hour hour) (sweeps-apart parts graph hours (events ++ done) all_named differ)
      ∙ of_one hours (λ other. sweep parts graph other (events ++ done)) differ
      (λ other i. sweep-within (other ∷ []) parts graph other (events ++ done) (inl refl) all_named) hour
      ∙ ap (λ es. if has hour hours then es else []) (sweep-own graph (events ++ done) all_named parts hour ∙ swept hour))

-- ---- the laws

nothing-named : AreNamedByHour []
nothing-named e i = absurd i

pub by_hour : SweepsAreHourByHour
by_hour setup parts graph hours history fit up =
    ap (sweeps parts graph hours) (sym (append-nil history))
    ∙ then-swept parts graph hours (ascends-different hours up) history [] (history-named setup history fit) nothing-named
    ∙ flat_map-same _ (λ hour. sweep parts graph hour (of_hour hour history)) hours (λ hour i. ap (sweep parts graph hour) (append-nil (of_hour hour history)))

pub of_an_hour : SweepsOfAnHour
of_an_hour setup parts graph hours history hour fit up =
    ap (λ es. of_hour hour (sweeps parts graph hours es)) (sym (append-nil history))
    ∙ then-of_hour parts graph hours (ascends-different hours up) history [] (history-named setup history fit) nothing-named hour
    ∙ ap (λ es. if has hour hours then sweep parts graph hour es else []) (append-nil (of_hour hour history))

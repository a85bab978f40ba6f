-- The events that are looked at for an hour say of it what all events say.
use Rattle.std.proofs.Common.{◌≡◌, ◌∙◌, inl, inr, ℕ, zero, suc, ◌+◌, ◌<◌, ◌==◌, ◌&&◌, Bool, true, false, cond, List, [], ◌∷◌, ◌++◌, filter, length, take, get_or, Option, Some, None, unwrap_or, refl, sym, ap, ap₂, subst, if◌then◌else◌, arith}
use Rattle.std.proofs.lemmas.Bool.{true≢false}
use Rattle.order_kinds.specs.declared.phase.Phase.TheVariants as phase
use Rattle.order_kinds.specs.Period.{EachQuarter, is_within, quarter_of}
use Rattle.quarter_capacity.specs.Capacity.{flow_of}
use Rattle.zone_graph.specs.Graph.{Graph}
use Rattle.zone_graph.specs.Pour.{opposite_arc}
use Rattle.zone_graph.proofs.Membership.{from_filter}
use Rattle.market_model.specs.declared.event.Event.{Event}
use Rattle.market_model.specs.declared.event.Event.TheVariants as event
use Rattle.market_model.specs.History.{last_said, touches}
use Rattle.market_model.specs.Room.{halt_by, is_halted, phase_by, phase_of}
use Rattle.market_model.specs.WellFormed.{FitAfter, IsLegalOver}
use Rattle.laws_of_market.proofs.Growing.{fit-back, fit-front}
use Rattle.laws_of_market.proofs.LocalStates.{Agree, allocated-agree, halted-agree, offered-agree, phase-agree}
use Rattle.laws_of_market.proofs.NamedByHour.{history-named}
use Rattle.laws_of_market.proofs.Restrict.{filter-filter, fold-filter}
use Rattle.laws_of_market.proofs.Uses.{within_offers}
use Rattle.event_history.specs.Near.{AreGates, IsNear, is_gate}
use Rattle.plain_capacity.specs.Rows.{IsNoted}
use Rattle.plain_capacity.specs.Hour.{CanNoteIn, Capacity, IsCapacityOf, halted_at, is_of_orders, rows_in, size_of}
use Rattle.plain_capacity.proofs.Hours.{can-note-in, no-halt, no-phase, noted-in, same-rows, take-more}

-- ---- phases and halts

-- an hour's phase is said by gates alone
phase-ungated : (hour : ℕ) (e : Event) → is_gate e ≡ false → phase_by hour e ≡ None
phase-ungated hour (event.Gated gated asked) h = absurd (true≢false h)
phase-ungated hour _ h = refl

pub phase-gates : (hour : ℕ) (events gates : List Event) → AreGates events gates → phase_of gates hour ≡ phase_of events hour
phase-gates hour events gates are =
    ap (λ es. phase_of es hour) are
    ∙ fold-filter (λ said e. unwrap_or (phase_by hour e) said) is_gate events
    (λ e i out said. ap (λ o. unwrap_or o said) (phase-ungated hour e out)) phase.Open

-- what an event says of a halt in an hour is said by one that touches it
unsaid : (here within said : Bool) → within ≡ false → (if here && within then Some said else None) ≡ None
unsaid true within said apart = rw apart refl
unsaid false within said apart = refl

halt-elsewhere : (border hour : ℕ) (e : Event) → touches hour e ≡ false → halt_by border hour e ≡ None
halt-elsewhere border hour (event.Halted halted first last) h = unsaid (halted == border) (is_within first last hour) true h
halt-elsewhere border hour (event.Resumed resumed first last) h = unsaid (resumed == border) (is_within first last hour) false h
halt-elsewhere border hour _ h = refl

module _ (hour : ℕ) (events near : List Event) (is : IsNear hour events near) where
  -- what is left out does not touch the hour
  left_out : (e : Event) → is.keeps e ≡ false → touches hour e ≡ false
  left_out e out = go (touches hour e) refl
    where
      go : (t : Bool) → touches hour e ≡ t → t ≡ false
      go true on = absurd (true≢false (sym (is.all e on) ∙ out))
      go false on = refl

  said-near : {X : Type 0} (says : Event → Option X) (start : X) → ((e : Event) → touches hour e ≡ false → says e ≡ None)
      → last_said says start near ≡ last_said says start events
  said-near says start elsewhere =
      ap (last_said says start) is.some
      ∙ fold-filter (λ said e. unwrap_or (says e) said) is.keeps events (λ e i out said. ap (λ o. unwrap_or o said) (elsewhere e (left_out e out))) start

  pub halted-near : (border : ℕ) → is_halted near border hour ≡ is_halted events border hour
  halted-near border = said-near (halt_by border hour) false (halt-elsewhere border hour)

-- ---- an event by its place among those that are kept

-- what stands before an event and after it, and that what is kept of the events before it stands before
-- its place
record IsKeptAt (keeps : Event → Bool) (events : List Event) (i : ℕ) (e : Event) : Type 0 where
  before : List Event
  after : List Event
  all : events ≡ before ++ e ∷ after
  so_far : take i (filter keeps events) ≡ filter keeps before

kept-at : (keeps : Event → Bool) (e : Event) (events : List Event) (i : ℕ) → i < length (filter keeps events) → e ≡ get_or (filter keeps events) i e
    → IsKeptAt keeps events i e
kept-at keeps e [] i within at = absurd (omega arith)
kept-at keeps e (x ∷ events) i within at = go (kept-at keeps e events) (keeps x) refl i within at
  where
    one : (xs : List Event) (t : Bool) → keeps x ≡ t → filter keeps (x ∷ xs) ≡ cond t (x ∷ filter keeps xs) (filter keeps xs)
    one xs t k = ap (λ b. cond b (x ∷ filter keeps xs) (filter keeps xs)) k

    go : ((i : ℕ) → i < length (filter keeps events) → e ≡ get_or (filter keeps events) i e → IsKeptAt keeps events i e) → (t : Bool) → keeps x ≡ t
        → (i : ℕ) → i < length (cond t (x ∷ filter keeps events) (filter keeps events)) → e ≡ get_or (cond t (x ∷ filter keeps events) (filter keeps events)) i e
        → IsKeptAt keeps (x ∷ events) i e
    go rest true k zero within at = record { before = []; after = events; all = ap (λ y. y ∷ events) (sym at); so_far = ap (take 0) (one events true k) }
    go rest true k (suc i) within at =
        let found = rest i (omega arith) at in
        record { before = x ∷ found.before; after = found.after; all = ap (λ l. x ∷ l) found.all; so_far = ap (take (suc i)) (one events true k) ∙ ap (λ l. x ∷ l) found.so_far ∙ sym (one found.before true k) }
    go rest false k i within at =
        let found = rest i within at in
        record { before = x ∷ found.before; after = found.after; all = ap (λ l. x ∷ l) found.all; so_far = ap (take i) (one events false k) ∙ found.so_far ∙ sym (one found.before false k) }

-- ---- the capacity of an hour

module _ (graph : Graph) (events near : List Event) (legal : IsLegalOver graph events) (hour : ℕ) (is : IsNear hour events near) where
  agree : (before : List Event) → FitAfter legal.setup [] before → Agree (hour ∷ []) (filter is.keeps before) before
  agree before fit = record {
    named_a = λ e i. history-named legal.setup before fit e (from_filter is.keeps e before i).0;
    named_b = history-named legal.setup before fit;
    same = λ other i. elim i [
      | inl same ↦ filter-filter (touches other) is.keeps before (λ e j own. is.all e (subst (λ h. touches h e ≡ true) same own))
      | inr j ↦ absurd j
    ];
  }

  -- the capacity that is left by those events of a first part that are kept is left by all of them
  of-all : (before : List Event) (capacity : Capacity) → FitAfter legal.setup [] before → IsCapacityOf graph (filter is.keeps before) hour capacity
      → IsCapacityOf graph before hour capacity
  of-all before capacity fit of = record {
    size = of.size;
    quarters = λ number first last. record {
      size = (of.quarters number first last).size;
      offers = λ arc. (of.quarters number first last).offers arc ∙ offered-agree (hour ∷ []) (filter is.keeps before) before (agree before fit) (quarter_of hour number) arc (inl refl);
      flows = λ arc. (of.quarters number first last).flows arc
          ∙ ap₂ flow_of
          (allocated-agree (hour ∷ []) (filter is.keeps before) before (agree before fit) (quarter_of hour number) arc (inl refl))
          (allocated-agree (hour ∷ []) (filter is.keeps before) before (agree before fit) (quarter_of hour number) (opposite_arc arc) (inl refl));
    };
    halts = λ border within. of.halts border within ∙ halted-agree (hour ∷ []) (filter is.keeps before) before (agree before fit) border hour (inl refl);
    phase = of.phase ∙ phase-agree (hour ∷ []) (filter is.keeps before) before (agree before fit) hour (inl refl);
  }

  pub near-all : (capacity : Capacity) → IsCapacityOf graph near hour capacity → IsCapacityOf graph events hour capacity
  near-all capacity of = of-all events capacity legal.fit (subst (λ l. IsCapacityOf graph l hour capacity) is.some of)

  module _ (i : ℕ) (e : Event) (capacity : Capacity) (within : i < length near) (at : e ≡ get_or near i e)
      (of : IsCapacityOf graph (take i near) hour capacity) where
    -- the next event can count
    pub next-can : CanNoteIn hour e capacity
    next-can =
        let found = kept-at is.keeps e events i (subst (λ l. i < length l) is.some within) (subst (λ l. e ≡ get_or l i e) is.some at) in
        let fit = subst (FitAfter legal.setup []) found.all legal.fit in
        let fit_before = fit-front legal.setup [] found.before (e ∷ found.after) fit in
        let fits = (fit-back legal.setup [] found.before (e ∷ found.after) fit).0 in
        can-note-in graph found.before e hour capacity
        (of-all found.before capacity fit_before (subst (λ l. IsCapacityOf graph l hour capacity) (ap (take i) is.some ∙ found.so_far) of))
        legal.setup legal.over (within_offers legal.setup found.before fit_before) fits

    -- and then the capacity is that of the events with it
    pub next-is : (new : Capacity) → EachQuarter (λ number. IsNoted (quarter_of hour number) e (rows_in capacity number) (rows_in new number))
        → size_of new ≡ size_of capacity
        → ((border : ℕ) → border < size_of capacity → halted_at new border ≡ unwrap_or (halt_by border hour e) (halted_at capacity border))
        → new.phase ≡ unwrap_or (phase_by hour e) capacity.phase → IsCapacityOf graph (take (i + 1) near) hour new
    next-is new quarters size halts phased =
        subst (λ l. IsCapacityOf graph l hour new) (sym (take-more near i e within at))
        (noted-in graph (take i near) e hour capacity of new quarters size halts phased)

    -- an event of orders leaves it as it is
    pub next-same : is_of_orders e ≡ true → IsCapacityOf graph (take (i + 1) near) hour capacity
    next-same of_orders =
        next-is capacity (λ number first last. same-rows (quarter_of hour number) e (rows_in capacity number) of_orders) refl
        (λ border there. ap (λ said. unwrap_or said (halted_at capacity border)) (sym (no-halt border hour e of_orders)))
        (ap (λ said. unwrap_or said capacity.phase) (sym (no-phase hour e of_orders)))

-- The capacity of an hour, event by event.
use Rattle.std.proofs.Common.{◌≡◌, ◌∙◌, ◌+◌, ◌<◌, ℕ, pos, zero, suc, Bool, true, false, List, [], ◌∷◌, ◌++◌, length, take, get_or, replicate, unwrap_or, None, refl, sym, ap, subst, arith}
use Rattle.std.proofs.lemmas.List.{length-replicate}
use Rattle.std.proofs.Math.IntN.{+ℤ_idr}
use Rattle.std.proofs.Math.Seq.{take-append_seam}
use Rattle.order_kinds.specs.declared.contract.Quarter.{Quarter}
use Rattle.order_kinds.specs.declared.phase.Phase.TheVariants as phase
use Rattle.order_kinds.specs.Period.{EachQuarter, quarter_of}
use Rattle.quarter_capacity.specs.Row.{Row, flow, nothing_offered, offered}
use Rattle.zone_graph.specs.Graph.{Graph, border_count}
use Rattle.market_model.specs.declared.event.Event.{Event}
use Rattle.market_model.specs.declared.event.Event.TheVariants as event
use Rattle.market_model.specs.declared.setup.Setup.{Setup}
use Rattle.market_model.specs.Grid.{graph_of}
use Rattle.market_model.specs.History.{and_then}
use Rattle.market_model.specs.Room.{halt_by, phase_by}
use Rattle.market_model.specs.WellFormed.{Fits}
use Rattle.laws_of_market.proofs.Capacities.{last_said-more}
use Rattle.laws_of_market.proofs.Uses.{IsWithinOffers}
use Rattle.plain_capacity.specs.Rows.{IsNoted, IsQuarterOf}
use Rattle.plain_capacity.specs.Hour.{CanNoteIn, Capacity, HasBorder, IsCapacityOf, halted_at, idle, is_of_orders, rows_in, size_of}
use Rattle.plain_capacity.proofs.Legal.{can-note, noted-is}

-- what is true of quarters 1 to 4 is true of each quarter
pub each : (P : ℕ → Type 0) → P 1 → P 2 → P 3 → P 4 → EachQuarter P
each P one two three four zero first last = absurd (omega arith)
each P one two three four (suc zero) first last = one
each P one two three four (suc (suc zero)) first last = two
each P one two three four (suc (suc (suc zero))) first last = three
each P one two three four (suc (suc (suc (suc zero)))) first last = four
each P one two three four (suc (suc (suc (suc (suc n))))) first last = absurd (omega arith)

-- ---- before any event

at-replicate : {X : Type 0} (x : X) (size i : ℕ) → get_or (replicate size x) i x ≡ x
at-replicate x zero i = refl
at-replicate x (suc size) zero = refl
at-replicate x (suc size) (suc i) = at-replicate x size i

idle-offered : (forward : Bool) → offered nothing_offered forward ≡ 0
idle-offered true = refl
idle-offered false = refl

idle-flow : (forward : Bool) → flow nothing_offered forward ≡ pos 0
idle-flow true = refl
idle-flow false = refl

pub idle-is : (graph : Graph) (hour : ℕ) → IsCapacityOf graph [] hour (idle (border_count graph))
idle-is graph hour = record {
  size = length-replicate (border_count graph) false;
  quarters = each (λ number. IsQuarterOf graph [] (quarter_of hour number) (rows_in (idle (border_count graph)) number)) (quarter 1) (quarter 2) (quarter 3) (quarter 4);
  halts = λ border within. at-replicate false (border_count graph) border;
  phase = refl;
}
  where
    quarter : (number : ℕ) → IsQuarterOf graph [] (quarter_of hour number) (replicate (border_count graph) nothing_offered)
    quarter number = record {
      size = length-replicate (border_count graph) nothing_offered;
      offers = λ arc. ap (λ row. offered row arc.forward) (at-replicate nothing_offered (border_count graph) arc.border) ∙ idle-offered arc.forward;
      flows = λ arc. ap (λ row. flow row arc.forward) (at-replicate nothing_offered (border_count graph) arc.border) ∙ idle-flow arc.forward;
    }

-- ---- one more event

module _ (graph : Graph) (before : List Event) (e : Event) (hour : ℕ) (capacity : Capacity) (is : IsCapacityOf graph before hour capacity) where
  border-there : (setup : Setup) → graph ≡ graph_of setup → Fits setup before e → HasBorder (size_of capacity) hour e
  border-there setup over fits = by e fits
    where
      there : (border : ℕ) → border < border_count (graph_of setup) → border < size_of capacity
      there border known =
          let here : border < border_count graph = subst (λ g. border < border_count g) (sym over) known in
          let size = is.size in
          omega arith

      by : (e : Event) → Fits setup before e → HasBorder (size_of capacity) hour e
      by (event.Halted border first last) f = λ on. there border f.on_border
      by (event.Resumed border first last) f = λ on. there border f.on_border
      by (event.Leg contract leg) f = tt
      by (event.BlockLeg first last leg) f = tt
      by (event.Granted arc first last lots) f = tt
      by (event.Offered arc first last lots) f = tt
      by (event.Entered name caller order) f = tt
      by (event.EnteredBlock name caller order) f = tt
      by (event.Gated gated moved) f = tt
      by (event.Withdrawn name lots) f = tt
      by (event.Reduced name less) f = tt

  -- an event that fits can count
  pub can-note-in : (setup : Setup) → graph ≡ graph_of setup → IsWithinOffers before → Fits setup before e → CanNoteIn hour e capacity
  can-note-in setup over within fits = record {
    quarters = λ number first last. can-note graph before (quarter_of hour number) (rows_in capacity number) (is.quarters number first last) setup e over within fits;
    border = border-there setup over fits;
  }

  -- and then the capacity is that of the events with it
  pub noted-in : (new : Capacity) → EachQuarter (λ number. IsNoted (quarter_of hour number) e (rows_in capacity number) (rows_in new number))
      → size_of new ≡ size_of capacity
      → ((border : ℕ) → border < size_of capacity → halted_at new border ≡ unwrap_or (halt_by border hour e) (halted_at capacity border))
      → new.phase ≡ unwrap_or (phase_by hour e) capacity.phase → IsCapacityOf graph (and_then before e) hour new
  noted-in new quarters size halts phased = record {
    size = size ∙ is.size;
    quarters = λ number first last.
        noted-is graph before (quarter_of hour number) (rows_in capacity number) (is.quarters number first last) e (rows_in new number) (quarters number first last);
    halts = λ border known.
        let there : border < size_of capacity = (let same = is.size in omega arith) in
        halts border there ∙ ap (unwrap_or (halt_by border hour e)) (is.halts border known) ∙ sym (last_said-more (halt_by border hour) false before e);
    phase = phased ∙ ap (unwrap_or (phase_by hour e)) is.phase ∙ sym (last_said-more (phase_by hour) phase.Open before e);
  }

-- an event of orders changes no row
pub same-rows : (quarter : Quarter) (e : Event) (rows : List Row) → is_of_orders e ≡ true → IsNoted quarter e rows rows
same-rows quarter (event.Entered name caller order) rows is = record { size = refl; offers = λ arc. refl; flows = λ arc. sym (+ℤ_idr _) }
same-rows quarter (event.EnteredBlock name caller order) rows is = record { size = refl; offers = λ arc. refl; flows = λ arc. sym (+ℤ_idr _) }
same-rows quarter (event.Withdrawn name lots) rows is = record { size = refl; offers = λ arc. refl; flows = λ arc. sym (+ℤ_idr _) }
same-rows quarter (event.Reduced name by) rows is = record { size = refl; offers = λ arc. refl; flows = λ arc. sym (+ℤ_idr _) }
same-rows quarter (event.Leg contract leg) rows is = absurd (cc)
same-rows quarter (event.BlockLeg first last leg) rows is = absurd (cc)
same-rows quarter (event.Granted arc first last lots) rows is = absurd (cc)
same-rows quarter (event.Offered arc first last lots) rows is = absurd (cc)
same-rows quarter (event.Halted border first last) rows is = absurd (cc)
same-rows quarter (event.Resumed border first last) rows is = absurd (cc)
same-rows quarter (event.Gated gated moved) rows is = absurd (cc)

-- and says nothing of halts and of the phase
pub no-halt : (border hour : ℕ) (e : Event) → is_of_orders e ≡ true → halt_by border hour e ≡ None
no-halt border hour (event.Halted halted first last) is = absurd (cc)
no-halt border hour (event.Resumed resumed first last) is = absurd (cc)
no-halt border hour _ is = refl

pub no-phase : (hour : ℕ) (e : Event) → is_of_orders e ≡ true → phase_by hour e ≡ None
no-phase hour (event.Gated gated moved) is = absurd (cc)
no-phase hour _ is = refl

-- ---- an event by its place among others

pub take-more : (events : List Event) (i : ℕ) (e : Event) → i < length events → e ≡ get_or events i e → take (i + 1) events ≡ and_then (take i events) e
take-more [] i e within is = absurd (omega arith)
take-more (x ∷ events) zero e within is = cc
take-more (x ∷ events) (suc i) e within is =
    let one : suc i + 1 ≡ suc (i + 1) = omega arith in
    rw one (ap (λ l. x ∷ l) (take-more events i e (omega arith) is))

-- ---- rows that are written back

pub written_back : {X : Type 0} (n : ℕ) (new rest : List X) → length new ≡ n → new ≡ take n (new ++ rest)
written_back n new rest size = subst (λ k. new ≡ take k (new ++ rest)) size (sym (take-append_seam new rest))

pub noted_back : (quarter given : Quarter) (e : Event) (old was new rest : List Row) (n : ℕ) → given ≡ quarter → was ≡ old → length was ≡ n
    → IsNoted given e was new → IsNoted quarter e old (take n (new ++ rest))
noted_back quarter given e old was new rest n same kept size noted =
    subst (IsNoted quarter e old) (written_back n new rest (noted.size ∙ size))
    (subst (λ rows. IsNoted quarter e rows new) kept (subst (λ q. IsNoted q e was new) same noted))

pub halts_back : (hour border : ℕ) (e : Event) (old was new rest : List Bool) (n : ℕ) → was ≡ old → length was ≡ n → length new ≡ length was
    → (border < length was → get_or new border false ≡ unwrap_or (halt_by border hour e) (get_or was border false)) → border < length old
    → get_or (take n (new ++ rest)) border false ≡ unwrap_or (halt_by border hour e) (get_or old border false)
halts_back hour border e old was new rest n kept size same step within =
    let there : border < length was = (let equal = ap (λ (l : List Bool). length l) kept in omega arith) in
    ap (λ l. get_or l border false) (sym (written_back n new rest (same ∙ size))) ∙ step there ∙ ap (λ l. unwrap_or (halt_by border hour e) (get_or l border false)) kept

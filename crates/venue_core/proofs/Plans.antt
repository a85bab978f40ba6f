-- Commands that are planned on the desks that are held for them.
use Rattle.std.proofs.Common.{◌≡◌, ◌∙◌, ℕ, ◌+◌, ◌-◌, filter, List, map, None, Some, Result, Ok, Err, IfOk, OnErr, sym, ap, arith, subst}
use Rattle.std.specs.List.{range_with_len}
use Rattle.zone_graph.specs.Graph.{Graph}
use Rattle.zone_graph.specs.Route.{has}
use Rattle.market_model.specs.declared.command.Command.{Command}
use Rattle.market_model.specs.declared.entry.Entry.{Entry}
use Rattle.market_model.specs.declared.refusal.Refusal.{Refusal}
use Rattle.market_model.specs.declared.reply.Reply.{Reply}
use Rattle.market_model.specs.declared.reply.Reply.TheVariants as replies
use Rattle.market_model.specs.declared.setup.Setup.{Setup}
use Rattle.market_model.specs.Grid.{graph_of}
use Rattle.market_model.specs.History.{events_of, journal_events}
use Rattle.market_model.specs.Market.{reply_to}
use Rattle.market_model.specs.Rules.{early_refusal, touched_hours}
use Rattle.desk_locks.specs.Desk.{DeskState}
use Rattle.journal_front.specs.Fronts.{FrontState}
use Rattle.desk_locks.specs.Rows as rows
use Rattle.desk_locks.specs.Rows.{AreReady, IsJournalOf, dropped, planning_all}
use Rattle.desk_locks.specs.Held.{AllInPlace, HeldState, IsAllInPlace, without_desks}
use Rattle.desk_locks.specs.Places.{Place, place_at}
use Rattle.desk_locks.proofs.Commands.{refused-early}
use Rattle.desk_locks.proofs.TouchedHours.{filter-has, touched-hours}
use Rattle.venue_core.specs.Planning.{IsHeldFor, IsPlannedFor, hours_asked}
use Rattle.venue_core.specs.Setups.{IsOpenSetup}
use Rattle.venue_core.specs.Shared.{AreOfOneJournal}
use Rattle.venue_core.proofs.InPlace.{are-ready, desks-hours, dropped-in-place, undone-in-place}

-- a command that breaks no rule by itself asks for all hours that it touches
all-asked : (setup : Setup) (caller : ℕ) (given : Command) → early_refusal setup caller given ≡ None → hours_asked setup caller given ≡ touched_hours setup caller given
all-asked setup caller given early =
    let hours : List ℕ = touched_hours setup caller given in
    let are = touched-hours setup caller given early in
    let day : setup.hours + 1 - 1 ≡ setup.hours = omega arith in
    ap (λ n. filter (λ hour. has hour hours) (range_with_len 1 n)) day ∙ filter-has 1 setup.hours hours are.up are.within

module _ (front : FrontState) (caller : ℕ) (given : Command) (held : HeldState) (is : IsHeldFor front caller given held) where
  abbrev asked : List ℕ
  asked = hours_asked front.setup caller given

  pub in-place : AllInPlace (map (place_at front) asked) held.desks held.seats
  in-place = subst (λ (places : List Place). AllInPlace places held.desks held.seats) is.places is.all_in_place

  pub held-ready : (setup : Setup) (graph : Graph) → front.setup ≡ setup → graph ≡ graph_of setup → IsOpenSetup setup → AreOfOneJournal front held.seats
      → AreReady setup graph held.desks
  held-ready setup graph same over is_open one =
      subst (λ (s : Setup). AreReady s graph held.desks) same
      (are-ready front asked held.desks held.seats graph in-place (over ∙ ap graph_of (sym same)) (subst IsOpenSetup (sym same) is_open) one)

  pub held-hours : (setup : Setup) → front.setup ≡ setup → early_refusal setup caller given ≡ None → rows.hours_of held.desks ≡ touched_hours setup caller given
  held-hours setup same early =
      desks-hours front asked held.desks held.seats in-place
      ∙ ap (λ (s : Setup). hours_asked s caller given) same
      ∙ all-asked setup caller given early

  -- what is held then, where the places and the seats are the same
  module _ (new : HeldState) (rest : without_desks new ≡ without_desks held) where
    same-places : new.places ≡ held.places
    same-places = ap (λ (h : HeldState). h.places) rest

    -- it plans a reply
    pub now-planned : (reply : Reply) → new.desks ≡ planning_all held.desks (events_of reply)
        → ((entries : List Entry) → IsJournalOf front.setup held.desks entries → reply ≡ reply_to front.setup (journal_events entries) caller given)
        → IsPlannedFor front caller given reply new
    now-planned reply plans fresh = record {
      before = held.desks;
      places = same-places ∙ is.places;
      were_in_place = subst (λ (h : HeldState). AllInPlace h.places held.desks h.seats) (sym rest) is.all_in_place;
      desks = plans;
      fresh = fresh;
    }

    pub planned-if : {E : Type 0} (result : Result Reply E) (setup : Setup) → front.setup ≡ setup
        → IfOk result (λ reply. new.desks ≡ planning_all held.desks (events_of reply))
        → ((entries : List Entry) → IsJournalOf setup held.desks entries → IfOk result (λ reply. reply ≡ reply_to setup (journal_events entries) caller given))
        → IfOk result (λ reply. IsPlannedFor front caller given reply new)
    planned-if (Ok reply) setup same plans fresh =
        now-planned reply plans
        (subst (λ (s : Setup). (entries : List Entry) → IsJournalOf s held.desks entries → reply ≡ reply_to s (journal_events entries) caller given) (sym same) fresh)
    planned-if (Err error) setup same plans fresh = tt

    -- a command that a rule refuses by itself
    pub now-refused : (broken : Refusal) (reply : Reply) → early_refusal front.setup caller given ≡ Some broken → reply ≡ replies.Refused broken
        → new.desks ≡ planning_all held.desks (events_of reply) → IsPlannedFor front caller given reply new
    now-refused broken reply early same plans =
        now-planned reply plans (λ entries journal. same ∙ sym (refused-early front.setup caller given (journal_events entries) broken early))

    -- it plans nothing
    pub now-dropped : new.desks ≡ dropped held.desks → IsAllInPlace new
    now-dropped none =
        subst (λ (ds : List DeskState). AllInPlace new.places ds new.seats) (sym none)
        (subst (λ (h : HeldState). AllInPlace h.places (dropped held.desks) h.seats) (sym rest)
        (subst (λ (places : List Place). AllInPlace places (dropped held.desks) held.seats) (sym is.places)
        (dropped-in-place front asked held.desks held.seats in-place)))

    pub dropped-if : {E : Type 0} (result : Result Reply E) → OnErr result (new.desks ≡ dropped held.desks) → OnErr result (IsAllInPlace new)
    dropped-if (Ok reply) none = tt
    dropped-if (Err error) none = now-dropped none

-- what is planned is dropped
pub undone : (front : FrontState) (caller : ℕ) (given : Command) (reply : Reply) (held new : HeldState) → IsPlannedFor front caller given reply held
    → new.desks ≡ dropped held.desks → without_desks new ≡ without_desks held → IsAllInPlace new
undone front caller given reply held new is none rest =
    let asked : List ℕ = hours_asked front.setup caller given in
    let were : AllInPlace (map (place_at front) asked) is.before held.seats = subst (λ (places : List Place). AllInPlace places is.before held.seats) is.places is.were_in_place in
    let now : new.desks ≡ dropped (planning_all is.before (events_of reply)) = none ∙ ap dropped is.desks in
    subst (λ (ds : List DeskState). AllInPlace new.places ds new.seats) (sym now)
    (subst (λ (h : HeldState). AllInPlace h.places (dropped (planning_all is.before (events_of reply))) h.seats) (sym rest)
    (subst (λ (places : List Place). AllInPlace places (dropped (planning_all is.before (events_of reply))) held.seats) (sym is.places)
    (undone-in-place front asked is.before held.seats (events_of reply) were)))

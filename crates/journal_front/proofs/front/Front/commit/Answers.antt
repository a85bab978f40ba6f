use Rattle.std.proofs.Common.{◌≡◌, ◌∙◌, ◌++◌, [], ◌∷◌, ap, arith, inl, inr, map, refl, sym, subst}
use Rattle.market_model.specs.declared.who.Who.TheVariants as who
use Rattle.market_model.specs.Concerned.{IsCurrent}
use Rattle.zone_graph.specs.Route.{IsIn}
use Rattle.zone_graph.proofs.Membership.{IsIn-map}
use Rattle.journal_front.specs.Ruled.{Holds}
use Rattle.journal_front.specs.Seats.{desk_standing, hours_of, standing_of_desk, view_in}
use Rattle.journal_front.specs.Steps.{HasConcerned}
use Rattle.journal_front.specs.Views.{lead_view}
use Rattle.journal_front.proofs.Commits.{desks-back, desks-left, few-made, gathered, has-concerned, hours-within, journal-view, pass-after, pass-back, pass-view, standing_of_pass}
use Rattle.journal_front.proofs.front.Front.commit.Given.{Over}
use Rattle.journal_front.proofs.front.Front.commit.Goals as goal
use Rattle.journal_front.proofs.front.Front.commit.Goals.{After-deal, After-learn}

-- the journal's place has the standings of the pass and of the desks
all-joined : (g : Over) (c : After-learn g) → c.gather_desks.new.lead.me
    ≡ (lead_view c.args.journal.now.setup c.args.journal.now.entries (standing_of_pass c.args.pass.now ∷ map standing_of_desk (g.H.HourSeats.seats c.args.hours.now)), [])
all-joined g c =
    let before = journal-view c.journal.inside.place.table_id c.journal.inside.place.me c.args.journal.now c.journal.invariant c.journal.view_is in
    let viewed =
    ap (λ badge. view_in badge.views) c.replace-badge.ensures.value
    ∙ pass-view c.pass.inside.badge.table_id c.pass.inside.caller c.pass.inside.made c.pass.inside.badge.views c.args.pass.now c.pass.invariant c.pass.view_is in
    gathered c.args.journal.now c.args.pass.now (g.H.HourSeats.seats c.args.hours.now) c.journal.inside.place.me c.gather.new.lead.me c.gather_desks.new.lead.me
    (view_in c.replace-badge.result.views) before viewed c.gather.ensures.lead c.gather_desks.ensures.lead

-- and they fit the journal
all-hold : (g : Over) (c : After-learn g) (standing : _) → IsIn standing (standing_of_pass c.args.pass.now ∷ map standing_of_desk (g.H.HourSeats.seats c.args.hours.now))
    → Holds c.args.journal.now.setup c.args.journal.now.entries standing
all-hold g c = subst (λ me. (standing : _) → IsIn standing me.0.standings → Holds me.0.setup me.0.entries standing) (all-joined g c) c.learn.ensures.standings

pass-current : (g : Over) (c : After-learn g) → IsCurrent c.args.journal.now.setup (who.Caller c.args.pass.now.caller) c.args.pass.now.entries c.args.journal.now.entries
pass-current g c = (all-hold g c (standing_of_pass c.args.pass.now) (inl refl)).current

-- what is left for the desks
all-left : (g : Over) (c : After-deal g)
    → c.gather_desks.new.lead.me ≡ (lead_view c.args.journal.now.setup c.args.journal.now.entries (standing_of_pass c.args.pass.now ∷ map standing_of_desk (g.H.HourSeats.seats c.args.hours.now)), [])
    → c.deal.new.lead.me ≡ (
      lead_view c.args.journal.now.setup (c.args.journal.now.entries ++ c.args.entry.now ∷ [])
          (map (λ hour. desk_standing hour (c.args.journal.now.entries ++ c.args.entry.now ∷ [])) (hours_of (g.H.HourSeats.seats c.args.hours.now))),
      [],
    )
all-left g c joined =
    desks-left c.args.journal.now c.args.pass.now (g.H.HourSeats.seats c.args.hours.now) c.args.entry.now c.learn.new.lead.me c.add.new.lead.me
    (c.learn.ensures.lead ∙ joined) c.add.ensures.lead c.deal.new.lead.me c.deal.ensures.lead

pub gather_desks-requires-clause-desks : goal.gather_desks-requires-clause-desks
gather_desks-requires-clause-desks g c = λ seat there.
    let own = c.requires.seats seat there in
    (own.same_front ∙ sym (ap (λ front. front.id) c.self.view_is), own.in_place)

pub add-requires-clause-concerned : goal.add-requires-clause-concerned
add-requires-clause-concerned g c =
    let all = c.learn.ensures.lead ∙ all-joined g (goal.at.add-requires-clause-concerned g c).After-learn in
    subst (λ setup. HasConcerned setup c.args.entry.now c.learn.new.lead.me.0) (sym (ap (λ front. front.setup) c.self.view_is))
    (has-concerned c.args.self.now.setup c.args.entry.now c.learn.new.lead.me.0 (standing_of_pass c.args.pass.now) (g.H.HourSeats.seats c.args.hours.now)
    (ap (λ me. me.0.standings) all) (ap who.Caller c.requires.caller) c.requires.hours)

pub overflow_add-pass : goal.overflow_add-pass
overflow_add-pass g c = let few = few-made c.pass.inside.caller c.pass.inside.made c.pass.inside.badge.views c.pass.invariant in omega arith

pub deal_desks-requires-clause-standings : goal.deal_desks-requires-clause-standings
deal_desks-requires-clause-standings g c =
    let longer = c.args.journal.now.entries ++ c.args.entry.now ∷ [] in
    let left = all-left g (goal.at.deal_desks-requires-clause-standings g c).After-deal (all-joined g (goal.at.deal_desks-requires-clause-standings g c).After-learn) in
    ap (λ me. me.0.standings) left
    ∙ ap (map (λ hour. desk_standing hour longer)) (sym c.gather_desks.ensures.hours)
    ∙ ap (λ me. map (λ hour. desk_standing hour me.0.entries) (hours_of (g.H.HourSeats.seats c.gather_desks.new.hours))) (sym left)

pub deal_desks-requires-clause-hours : goal.deal_desks-requires-clause-hours
deal_desks-requires-clause-hours g c = λ hour inside.
    let left = all-left g (goal.at.deal_desks-requires-clause-hours g c).After-deal (all-joined g (goal.at.deal_desks-requires-clause-hours g c).After-learn) in
    let same = ap (λ me. me.0.setup.hours) left ∙ ap (λ setup. setup.hours) c.requires.journal.same_setup in
    let within = hours-within c.args.self.now.setup c.args.entry.now (hours_of (g.H.HourSeats.seats c.gather_desks.new.hours)) (c.gather_desks.ensures.hours ∙ c.requires.hours) hour inside in
    (within.0, omega (arith, within.1, same))

pub invariant_of-pass : goal.invariant_of-pass
invariant_of-pass g c =
    let journal = c.args.journal.now in
    let joined = all-joined g (goal.at.invariant_of-pass g c).After-learn in
    let back = pass-back journal c.args.pass.now (g.H.HourSeats.seats c.args.hours.now) c.args.entry.now c.learn.new.lead.me c.add.new.lead.me
    (c.learn.ensures.lead ∙ joined) c.add.ensures.lead c.deal.result.views c.deal.ensures.dealt in
    pass-after journal c.args.entry.now c.pass.inside.badge.table_id c.pass.inside.caller c.pass.inside.made c.pass.inside.badge.views c.args.pass.now c.deal.result.views
    c.pass.invariant c.pass.view_is c.requires.caller (c.requires.pass.same_setup ∙ sym c.requires.journal.same_setup)
    (pass-current g (goal.at.invariant_of-pass g c).After-learn) c.requires.room back

pub returns-clause-pass_was_current : goal.returns-clause-pass_was_current
returns-clause-pass_was_current g c =
    subst (λ setup. IsCurrent setup (who.Caller c.args.pass.now.caller) c.args.pass.now.entries c.args.journal.now.entries) c.requires.journal.same_setup
    (pass-current g (goal.at.returns-clause-pass_was_current g c).After-learn)

pub returns-clause-desks_were_current : goal.returns-clause-desks_were_current
returns-clause-desks_were_current g c = λ seat there.
    let seats = g.H.HourSeats.seats c.args.hours.now in
    subst (λ setup. IsCurrent setup (who.Hour seat.hour) seat.entries c.args.journal.now.entries) c.requires.journal.same_setup
    (all-hold g (goal.at.returns-clause-desks_were_current g c).After-learn (standing_of_desk seat) (inr (IsIn-map standing_of_desk seat seats there))).current

pub returns-clause-desks : goal.returns-clause-desks
returns-clause-desks g c =
    let journal = c.args.journal.now in
    let seats = g.H.HourSeats.seats c.args.hours.now in
    let longer = journal.entries ++ c.args.entry.now ∷ [] in
    let left = all-left g (goal.at.returns-clause-desks g c).After-deal (all-joined g (goal.at.returns-clause-desks g c).After-learn) in
    c.deal_desks.ensures.seats
    ∙ desks-back c.args.self.now seats (hours_of (g.H.HourSeats.seats c.gather_desks.new.hours)) c.deal.new.lead.table_id journal.setup longer
    (map (λ hour. desk_standing hour longer) (hours_of seats)) c.deal.new.lead.me
    (c.deal.ensures.place ∙ c.add.ensures.place ∙ c.learn.ensures.place ∙ c.gather_desks.ensures.place ∙ c.gather.ensures.place
    ∙ ap (λ state. state.front) c.journal.view_is ∙ c.requires.journal.same_front)
    c.requires.journal.same_setup c.gather_desks.ensures.hours left c.requires.seats

use Rattle.std.proofs.Common.{◌≡◌, [], ◌∙◌, ◌+◌, ap, arith, drop, map}
use Rattle.market_model.specs.declared.who.Who.TheVariants as who
use Rattle.journal_front.specs.Fronts.{FrontState}
use Rattle.journal_front.specs.Seats.{desk_state}
use Rattle.journal_front.specs.Views.{everyone, fresh, lead_view}
use Rattle.journal_front.proofs.Firsts.{first-dealt, first-left, hour-at, hours-left, more-desks, some-next}
use Rattle.journal_front.proofs.Lists.{back-place}
use Rattle.journal_front.proofs.opening.first_desks.Goals as goal

pub deal-badge-requires-clause-some : goal.deal-badge-requires-clause-some
deal-badge-requires-clause-some c =
    let setup = c.args.word.now.key in
    let i = c.loop-before.before in
    some-next setup (everyone setup) i (who.Hour (i + 1)) (hour-at setup i (omega (arith, c.requires.hours))) c.loop-before.lead.me c.loop-before.invariant.lead

pub new-requires : goal.new-requires
new-requires c =
    let setup = c.args.word.now.key in
    let i = c.loop-before.before in
    let views = c.deal-badge.result.views in
    back-place setup [] (i + 1) views
    (first-dealt setup (everyone setup) i (who.Hour (i + 1)) (hour-at setup i (omega (arith, c.requires.hours))) c.loop-before.lead.me c.loop-before.invariant.lead views c.deal-badge.ensures.dealt)
    (omega arith, omega (arith, c.requires.hours))
    (omega arith)

pub loop-before-preserved : goal.loop-before-preserved
loop-before-preserved c =
    let word = c.args.word.now in
    let front : FrontState = record { id = word.table_id; setup = word.key } in
    let i = c.loop-before.before in
    let lead = c.loop-before.lead in
    let badge = c.deal-badge.result in
    let at = hour-at word.key i (omega (arith, c.requires.hours)) in
    let same = c.deal-badge.ensures.front ∙ c.loop-before.invariant.place in record {
      place = c.deal-badge.ensures.place ∙ c.loop-before.invariant.place;
      lead = first-left word.key (everyone word.key) i (who.Hour (i + 1)) at lead.me c.loop-before.invariant.lead c.deal-badge.new.lead.me c.deal-badge.ensures.lead;
      desks =
          more-desks front c.loop-before.desks c.push.new.self i c.new.result badge.views c.loop-before.invariant.desks
          (first-dealt word.key (everyone word.key) i (who.Hour (i + 1)) at lead.me c.loop-before.invariant.lead badge.views c.deal-badge.ensures.dealt)
          (c.new.ensures ∙ ap (λ id. desk_state id (i + 1) badge.views) same)
          c.in_ok-push.ensures.ok;
    }

pub returns-clause-lead : goal.returns-clause-lead
returns-clause-lead c =
    let setup = c.args.word.now.key in
    let all : c.loop-before.before ≡ setup.hours = omega (arith, c.requires.hours) in
    c.loop-before.invariant.lead ∙ ap (λ n. (lead_view setup [] (drop n (map fresh (everyone setup))), [])) all ∙ ap (λ l. (lead_view setup [] l, [])) (hours-left setup)

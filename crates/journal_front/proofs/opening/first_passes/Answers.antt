use Rattle.std.proofs.Common.{◌≡◌, [], ◌∙◌, ap, arith, drop, map}
use Rattle.std.specs.List.{range_with_len}
use Rattle.market_model.specs.declared.who.Who.TheVariants as who
use Rattle.journal_front.specs.Fronts.{FrontState}
use Rattle.journal_front.specs.Seats.{pass_state}
use Rattle.journal_front.specs.Views.{fresh, lead_view}
use Rattle.journal_front.proofs.Firsts.{caller-at, callers-left, first-dealt, first-left, first-pass, more-passes, some-next}
use Rattle.journal_front.proofs.opening.first_passes.Goals as goal

pub deal-badge-requires-clause-some : goal.deal-badge-requires-clause-some
deal-badge-requires-clause-some c =
    let callers = c.args.callers in
    let i = c.loop-caller.caller in
    some-next c.args.word.now.key (map who.Caller (range_with_len 0 callers)) i (who.Caller i) (caller-at callers i (omega (arith, c.in-Ok.ensures)))
    c.loop-caller.lead.me c.loop-caller.invariant.lead

pub new-requires : goal.new-requires
new-requires c =
    let setup = c.args.word.now.key in
    let callers = c.args.callers in
    let i = c.loop-caller.caller in
    let views = c.deal-badge.result.views in
    first-pass setup i views (omega (arith, c.in-Ok.ensures, c.requires.callers))
    (first-dealt setup (map who.Caller (range_with_len 0 callers)) i (who.Caller i) (caller-at callers i (omega (arith, c.in-Ok.ensures)))
    c.loop-caller.lead.me c.loop-caller.invariant.lead views c.deal-badge.ensures.dealt)

pub loop-caller-preserved : goal.loop-caller-preserved
loop-caller-preserved c =
    let word = c.args.word.now in
    let front : FrontState = record { id = word.table_id; setup = word.key } in
    let callers = c.args.callers in
    let all = map who.Caller (range_with_len 0 callers) in
    let i = c.loop-caller.caller in
    let lead = c.loop-caller.lead in
    let badge = c.deal-badge.result in
    let at = caller-at callers i (omega (arith, c.in-Ok.ensures)) in
    let same = c.deal-badge.ensures.front ∙ c.loop-caller.invariant.place in record {
      place = c.deal-badge.ensures.place ∙ c.loop-caller.invariant.place;
      lead = first-left word.key all i (who.Caller i) at lead.me c.loop-caller.invariant.lead c.deal-badge.new.lead.me c.deal-badge.ensures.lead;
      passes =
          more-passes front c.loop-caller.passes c.push.new.self i c.new.result badge.views c.loop-caller.invariant.passes
          (first-dealt word.key all i (who.Caller i) at lead.me c.loop-caller.invariant.lead badge.views c.deal-badge.ensures.dealt)
          (c.new.ensures ∙ ap (λ id. pass_state id i badge.views) same)
          c.in_ok-push.ensures.ok;
    }

pub returns-clause-lead : goal.returns-clause-lead
returns-clause-lead c =
    let setup = c.args.word.now.key in
    let callers = c.args.callers in
    let all : c.loop-caller.caller ≡ callers = omega (arith, c.in-Ok.ensures) in
    c.loop-caller.invariant.lead
    ∙ ap (λ n. (lead_view setup [] (drop n (map fresh (map who.Caller (range_with_len 0 callers)))), [])) all
    ∙ ap (λ l. (lead_view setup [] l, [])) (callers-left callers)

use Rattle.std.proofs.Common.{◌≡◌, ◌∙◌, ◌++◌, ◌<◌, List, ap, length, subst, sym}
use Rattle.std.proofs.lemmas.List.{append-nil}
use Rattle.market_model.specs.declared.event.Event.{Event}
use Rattle.market_model.specs.Blocks.{block_deal, block_deals}
use Rattle.plain_matching.proofs.Legs.{IsSoFar, all-so_far}
use Rattle.plain_matching.specs.BlockEntering.{IsHistoryOver}
use Rattle.plain_matching.specs.Meeting.{legs_of}
use Rattle.plain_matching.proofs.Rounds.{a-deal, dealt_legs, last-round, more-dealt, next-round, no-deal}
use Rattle.plain_matching.proofs.block_matching.match_deals.Goals as goal

pub loop-smaller : goal.loop-smaller
loop-smaller c =
    let deal = a-deal (block_deal c.args.grid.now c.args.first c.args.last c.loop.events) (sym c.if-branch.true ∙ c.in_ok-deal_next.ensures.found) in
    let next = next-round c.args.grid.now c.deal_next.ensures.grid.is_graph c.args.first c.args.last c.loop.events c.loop.invariant.legal deal.0 deal.1 in
    subst (λ history. length (block_deals c.args.grid.now c.args.first c.args.last history) < length (block_deals c.args.grid.now c.args.first c.args.last c.loop.events))
    (sym (c.in_ok-deal_next.ensures.ok ∙ ap (λ o. c.loop.events ++ legs_of o) deal.1)) next.fewer

pub loop-preserved : goal.loop-preserved
loop-preserved c =
    let deal = a-deal (block_deal c.args.grid.now c.args.first c.args.last c.loop.events) (sym c.if-branch.true ∙ c.in_ok-deal_next.ensures.found) in
    let next = next-round c.args.grid.now c.deal_next.ensures.grid.is_graph c.args.first c.args.last c.loop.events c.loop.invariant.legal deal.0 deal.1 in
    let new : c.deal_next.new.events ≡ c.loop.events ++ deal.0 = c.in_ok-deal_next.ensures.ok ∙ ap (λ o. c.loop.events ++ legs_of o) deal.1 in
    let legs : List Event → List Event = λ history. dealt_legs c.args.grid.now c.args.first c.args.last history in
    record {
      so_far = subst (λ history. IsSoFar legs c.args.events.now history) (sym new)
          (more-dealt legs c.args.events.now c.loop.events deal.0 c.loop.invariant.so_far next.onward);
      legal = subst (λ history. IsHistoryOver c.args.grid.now history) (sym new) next.legal;
    }

pub returns-clause-ok : goal.returns-clause-ok
returns-clause-ok c =
    let none = no-deal (block_deal c.args.grid.now c.args.first c.args.last c.loop.events) (sym c.if-branch.false ∙ c.in_ok-deal_next.ensures.found) in
    c.in_ok-deal_next.ensures.ok ∙ ap (λ o. c.loop.events ++ legs_of o) none ∙ append-nil c.loop.events
    ∙ all-so_far (λ history. dealt_legs c.args.grid.now c.args.first c.args.last history) c.args.events.now c.loop.events c.loop.invariant.so_far
    (last-round c.args.grid.now c.deal_next.ensures.grid.is_graph c.args.first c.args.last c.loop.events c.loop.invariant.legal none)

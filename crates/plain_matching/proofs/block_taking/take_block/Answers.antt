use Rattle.std.proofs.Common.{rules, ◌≡◌, ◌∙◌, IfOk, OnOk, ap, subst, sym, arith}
use Rattle.market_model.specs.Blocks.{with_block}
use Rattle.plain_orders.specs.Histories.{IsSomeHistory}
use Rattle.plain_orders.specs.Listed.{blocks_of}
use Rattle.plain_matching.proofs.Entries.{IsReady, entered-legal, entered-new, entered-some, grew-on, ready, ready-found, ready-legs, ready-meets}
use Rattle.plain_matching.proofs.Meetings.{some-history}
use Rattle.plain_matching.proofs.block_taking.take_block.Goals as goal
use Rattle.plain_matching.proofs.block_taking.take_block.Goals.{After-as_slice-in-len1-up}

pub blocks_of-requires : goal.blocks_of-requires
blocks_of-requires c =
    let entered = entered-new c.args.grid.now c.args.events.now c.args.caller c.args.order.now c.requires.can c.push.new.self c.next_name-name.result
    c.next_name-name.ensures c.in_ok-push.ensures.ok in
    record {
      history = subst IsSomeHistory (sym entered)
          (some-history c.args.grid.now (with_block c.args.events.now c.args.caller c.args.order.now) (entered-legal c.args.grid.now c.args.events.now c.args.caller c.args.order.now c.requires.can));
    }

pub unreachable-requires : goal.unreachable-requires
unreachable-requires c =
    let entered = entered-new c.args.grid.now c.args.events.now c.args.caller c.args.order.now c.requires.can c.push.new.self c.next_name-name.result
    c.next_name-name.ensures c.in_ok-push.ensures.ok in
    let some = entered-some c.args.grid.now c.args.events.now c.args.caller c.args.order.now c.requires.can c.as_slice-2.result.now
    (c.as_slice-2.ensures.value ∙ c.in_ok-entered.ensures ∙ ap (λ h. blocks_of h c.args.order.now.first) entered) in
    omega (arith, some, c.in-empty.len_below)

-- the block and the line in which it finds its partner
found_in : (c : After-as_slice-in-len1-up) → IsReady c.args.grid.now c.args.events.now c.args.caller c.args.order.now c.requires.can c.push.new.self c.own-item.result c.as_slice-in-len1-up.result.now
found_in c =
    ready c.args.grid.now c.args.events.now c.args.caller c.args.order.now c.requires.can c.push.new.self c.opposite-others.result
    c.in_ok-entered.entered.items c.as_slice-2.result.now c.as_slice.result.now c.in_ok-line.line.items c.as_slice-in-len1-up.result.now c.own-item.result
    (entered-new c.args.grid.now c.args.events.now c.args.caller c.args.order.now c.requires.can c.push.new.self c.next_name-name.result
    c.next_name-name.ensures c.in_ok-push.ensures.ok)
    c.in_ok-entered.ensures c.as_slice-2.ensures.value c.as_slice.ensures.value c.opposite-others.ensures c.in_ok-line.ensures
    c.as_slice-in-len1-up.ensures.value c.own-item.is

pub deal_with_first-requires : goal.deal_with_first-requires
deal_with_first-requires c =
    record { meets = ready-meets c.args.grid.now c.args.events.now c.args.caller c.args.order.now c.requires.can c.push.new.self c.own-item.result c.as_slice-in-len1-up.result.now (found_in (goal.at.deal_with_first-requires c).After-as_slice-in-len1-up) }

pub returns-clause-found : goal.returns-clause-found
returns-clause-found c =
    subst (λ v. IfOk c.deal_with_first.result (λ found. found ≡ v))
    (ready-found c.args.grid.now c.args.events.now c.args.caller c.args.order.now c.requires.can c.push.new.self c.own-item.result c.as_slice-in-len1-up.result.now (found_in (goal.at.returns-clause-found c).After-as_slice-in-len1-up))
    c.deal_with_first.ensures.found

pub returns-clause-ok : goal.returns-clause-ok
returns-clause-ok c =
    subst (λ v. OnOk c.deal_with_first.result (c.deal_with_first.new.events ≡ v))
    (ready-legs c.args.grid.now c.args.events.now c.args.caller c.args.order.now c.requires.can c.push.new.self c.own-item.result c.as_slice-in-len1-up.result.now (found_in (goal.at.returns-clause-ok c).After-as_slice-in-len1-up))
    c.deal_with_first.ensures.ok

pub returns-clause-err : goal.returns-clause-err
returns-clause-err c = search (rules, grew-on)

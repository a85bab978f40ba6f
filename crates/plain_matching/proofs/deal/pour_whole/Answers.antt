use Rattle.std.proofs.Common.{◌∙◌, ◌++◌, ◌==◌, take, ap, sym}
use Rattle.market_model.specs.Blocks.{block_legs}
use Rattle.market_model.specs.Orders.{left}
use Rattle.plain_matching.specs.Meeting.{legs_if}
use Rattle.plain_matching.proofs.Deals.{cut-back, none-left, some-left}
use Rattle.plain_matching.proofs.deal.pour_whole.Goals as goal

pub returns-then-not-is_whole-clause-found : goal.returns-then-not-is_whole-clause-found
returns-then-not-is_whole-clause-found c =
    ap (λ n. n == 0) (c.left-is_whole.ensures ∙ ap (left c.pour.new.events) c.name.ensures
    ∙ ap (λ history. left history c.args.taker.now.name) c.in_ok-pour.ensures.ok)

pub returns-then-not-is_whole-clause-ok : goal.returns-then-not-is_whole-clause-ok
returns-then-not-is_whole-clause-ok c =
    let whole = ap (λ n. n == 0) (c.left-is_whole.ensures ∙ ap (left c.pour.new.events) c.name.ensures
    ∙ ap (λ history. left history c.args.taker.now.name) c.in_ok-pour.ensures.ok) in
    c.cut_back.ensures ∙ ap (take c.len-mark.result) c.in_ok-pour.ensures.ok
    ∙ cut-back c.args.events.now (block_legs c.args.grid.now c.args.taker.now c.args.maker.now c.args.events.now) c.len-mark.result c.len-mark.ensures
    ∙ ap (λ b. c.args.events.now ++ legs_if b (block_legs c.args.grid.now c.args.taker.now c.args.maker.now c.args.events.now))
    (sym (some-left c.left-is_whole.result c.if-not-is_whole.true) ∙ whole)

pub returns-else-not-is_whole-clause-found : goal.returns-else-not-is_whole-clause-found
returns-else-not-is_whole-clause-found c =
    ap (λ n. n == 0) (c.left-is_whole.ensures ∙ ap (left c.pour.new.events) c.name.ensures
    ∙ ap (λ history. left history c.args.taker.now.name) c.in_ok-pour.ensures.ok)

pub returns-else-not-is_whole-clause-ok : goal.returns-else-not-is_whole-clause-ok
returns-else-not-is_whole-clause-ok c =
    let whole = ap (λ n. n == 0) (c.left-is_whole.ensures ∙ ap (left c.pour.new.events) c.name.ensures
    ∙ ap (λ history. left history c.args.taker.now.name) c.in_ok-pour.ensures.ok) in
    c.in_ok-pour.ensures.ok
    ∙ ap (λ b. c.args.events.now ++ legs_if b (block_legs c.args.grid.now c.args.taker.now c.args.maker.now c.args.events.now))
    (sym (none-left c.left-is_whole.result c.if-not-is_whole.false) ∙ whole)

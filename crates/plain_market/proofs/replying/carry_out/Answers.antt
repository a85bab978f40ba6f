use Rattle.std.proofs.Common.{◌≡◌, ◌∙◌, ◌++◌, true, sym, ap, subst}
use Rattle.zone_graph.specs.Graph.{IsGraph}
use Rattle.market_model.specs.declared.command.Command.TheVariants as command
use Rattle.market_model.specs.Entering.{enter_all}
use Rattle.market_model.specs.Sweep.{all_parts}
use Rattle.market_model.specs.Rules.{basket_is_good}
use Rattle.market_model.specs.LetIn.{IsLetIn}
use Rattle.plain_market.specs.Entering.{CanEnter}
use Rattle.plain_market.proofs.Admitting.{basket-done, basket-enters, basket-good, block-done, block-enters, no_entry-history, order-done, order-enters}
use Rattle.laws_of_market.proofs.Admitting.{is-no_entry}
use Rattle.plain_market.proofs.Kept.{kept-after}
use Rattle.plain_market.proofs.replying.carry_out.Goals as goal

pub enter-requires-clause-can : goal.enter-requires-clause-can
enter-requires-clause-can c =
    order-enters c.args.grid.now c.args.setup.now c.args.events.now c.args.caller c.in-Enter.order c.requires.grid c.requires.history
    (subst (IsLetIn c.args.setup.now c.args.events.now c.args.caller) c.in-Enter.is c.requires.let_in)

pub enter_basket-requires-clause-can : goal.enter_basket-requires-clause-can
enter_basket-requires-clause-can c =
    subst (CanEnter c.args.grid.now c.args.events.now c.args.caller) (sym c.as_slice.ensures)
    (basket-enters c.args.grid.now c.args.setup.now c.args.events.now c.args.caller c.in-EnterBasket.orders c.requires.grid c.requires.history
    (subst (IsLetIn c.args.setup.now c.args.events.now c.args.caller) c.in-EnterBasket.is c.requires.let_in))

pub enter_basket-requires-clause-basket : goal.enter_basket-requires-clause-basket
enter_basket-requires-clause-basket c =
    subst (λ orders. basket_is_good (command.EnterBasket orders) ≡ true) (sym c.as_slice.ensures)
    (basket-good c.args.setup.now c.args.events.now c.args.caller c.in-EnterBasket.orders
    (subst (IsLetIn c.args.setup.now c.args.events.now c.args.caller) c.in-EnterBasket.is c.requires.let_in))

pub enter_block-requires-clause-can : goal.enter_block-requires-clause-can
enter_block-requires-clause-can c =
    block-enters c.args.grid.now c.args.setup.now c.args.events.now c.args.caller c.in-EnterBlock.order c.requires.grid c.requires.history
    (subst (IsLetIn c.args.setup.now c.args.events.now c.args.caller) c.in-EnterBlock.is c.requires.let_in)

pub change-requires : goal.change-requires
change-requires c =
    let no_entry = is-no_entry c.args.command.now c.in_default.not-Enter c.in_default.not-EnterBlock c.in_default.not-EnterBasket in
    record {
      grid = c.requires.grid;
      history = c.requires.history;
      after = no_entry-history c.args.setup.now (subst IsGraph c.requires.grid c.zones-zones.ensures.grid.is_graph) c.args.events.now c.args.caller c.args.command.now
          c.requires.history c.requires.let_in no_entry;
      no_entry = no_entry;
      summed = c.requires.summed;
    }

pub returns-in-Enter-clause-done : goal.returns-in-Enter-clause-done
returns-in-Enter-clause-done c none =
    c.enter.ensures.entered none ∙ ap (λ done. c.args.events.now ++ done)
    (order-done c.args.grid.now c.args.setup.now c.args.events.now c.args.caller c.args.command.now c.in-Enter.order c.requires.grid c.in-Enter.is)

pub returns-in-EnterBasket-clause-done : goal.returns-in-EnterBasket-clause-done
returns-in-EnterBasket-clause-done c none =
    c.enter_basket.ensures.entered none
    ∙ ap (λ orders. c.args.events.now ++ enter_all all_parts c.args.grid.now c.args.caller orders c.args.events.now) c.as_slice.ensures
    ∙ ap (λ done. c.args.events.now ++ done)
    (basket-done c.args.grid.now c.args.setup.now c.args.events.now c.args.caller c.args.command.now c.in-EnterBasket.orders c.requires.grid c.in-EnterBasket.is)

pub returns-in-EnterBlock-clause-done : goal.returns-in-EnterBlock-clause-done
returns-in-EnterBlock-clause-done c none =
    c.enter_block.ensures.done none ∙ ap (λ done. c.args.events.now ++ done)
    (block-done c.args.grid.now c.args.setup.now c.args.events.now c.args.caller c.args.command.now c.in-EnterBlock.order c.requires.grid c.in-EnterBlock.is)

pub returns-in-EnterBasket-clause-summed : goal.returns-in-EnterBasket-clause-summed
returns-in-EnterBasket-clause-summed c =
    kept-after c.enter_basket.result c.args.events.now c.enter_basket.new.events _ c.args.sums.now c.enter_basket.ensures.entered c.enter_basket.ensures.kept
    c.enter_basket.ensures.err c.requires.summed

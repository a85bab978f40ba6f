use Rattle.std.proofs.Common.{◌≡◌, ◌∙◌, ◌++◌, IfOk, OnOk, is_some, subst, sym}
use Rattle.order_kinds.specs.declared.side.Side.TheVariants.{Buy, Sell}
use Rattle.market_model.specs.Blocks.{block_deal, block_line}
use Rattle.market_model.specs.Sweep.{first_answer}
use Rattle.plain_matching.specs.Meeting.{AllMeet, deal_in, legs_of}
use Rattle.plain_matching.proofs.Lines.{deals-are, lines-are, lines-meet}
use Rattle.plain_matching.proofs.block_matching.deal_next.Goals as goal
use Rattle.plain_matching.proofs.block_matching.deal_next.Goals.{After-as_slice-4}

-- the blocks of both lines are those of the market
are_buys : (c : After-as_slice-4) → c.as_slice-3.result.now ≡ block_line c.args.events.now c.args.first c.args.last Buy
are_buys c =
    c.as_slice-3.ensures.value ∙ c.in_ok-buys.ensures
    ∙ lines-are c.args.grid.now c.args.events.now c.as_slice.result.now c.args.first c.args.last Buy c.requires.history (c.as_slice.ensures.value ∙ c.in_ok-resting.ensures)

are_sells : (c : After-as_slice-4) → c.as_slice-4.result.now ≡ block_line c.args.events.now c.args.first c.args.last Sell
are_sells c =
    c.as_slice-4.ensures.value ∙ c.in_ok-sells.ensures
    ∙ lines-are c.args.grid.now c.args.events.now c.as_slice-2.result.now c.args.first c.args.last Sell c.requires.history (c.as_slice-2.ensures.value ∙ c.in_ok-resting.ensures)

deals : (c : After-as_slice-4) → first_answer (deal_in c.args.grid.now c.args.events.now c.as_slice-4.result.now) c.as_slice-3.result.now ≡ block_deal c.args.grid.now c.args.first c.args.last c.args.events.now
deals c =
    deals-are c.args.grid.now c.args.events.now c.args.first c.args.last c.as_slice-3.result.now c.as_slice-4.result.now (are_buys c) (are_sells c)

pub deal_of_first-requires : goal.deal_of_first-requires
deal_of_first-requires c =
    record {
      meet = subst (λ buys. AllMeet c.args.grid.now c.args.events.now buys c.as_slice-4.result.now) (sym (are_buys (goal.at.deal_of_first-requires c).After-as_slice-4))
          (subst (AllMeet c.args.grid.now c.args.events.now (block_line c.args.events.now c.args.first c.args.last Buy)) (sym (are_sells (goal.at.deal_of_first-requires c).After-as_slice-4))
          (lines-meet c.args.grid.now c.args.events.now c.args.first c.args.last c.requires.history));
    }

pub returns-clause-found : goal.returns-clause-found
returns-clause-found c =
    subst (λ deal. IfOk c.deal_of_first.result (λ found. found ≡ is_some deal)) (deals (goal.at.returns-clause-found c).After-as_slice-4)
    c.deal_of_first.ensures.found

pub returns-clause-ok : goal.returns-clause-ok
returns-clause-ok c =
    subst (λ deal. OnOk c.deal_of_first.result (c.deal_of_first.new.events ≡ c.args.events.now ++ legs_of deal)) (deals (goal.at.returns-clause-ok c).After-as_slice-4)
    c.deal_of_first.ensures.ok

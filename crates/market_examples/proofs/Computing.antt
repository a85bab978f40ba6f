-- The definitions that compute a journal, opened together.
use Rattle.std.specs.Prelude.{ℕ}
use Rattle.std.specs.Fmt.{digits}
use Rattle.zone_graph.specs.Route.{routes_through}
use Rattle.zone_graph.specs.Steps.{steps}
use Rattle.market_model.specs.Blocks.{block_deal, block_deals, block_leg, block_legs, block_line, block_partner, enter_block, match_blocks}
use Rattle.market_model.specs.Certificate.{bound_of, unfilled_zones}
use Rattle.market_model.specs.Entering.{enter}
use Rattle.market_model.specs.Lines.{line, partner}
use Rattle.market_model.specs.Market.{events_done, reply_by, run_after}
use Rattle.market_model.specs.Refusals.{refusal_of_command}
use Rattle.market_model.specs.Rules.{naming_refusal, numbers_refusal}
use Rattle.market_model.specs.Sweep.{sweep, sweep_leg}
use Rattle.market_model.specs.Taking.{next_leg, take, trade}
use Rattle.market_model.specs.View.{view}
use Rattle.journal_print.specs.Json.{braces, quote, row}

-- a proof that names this opens all of them
unfoldable pub computing : ℕ
unfolding digits braces quote row routes_through steps block_deal block_deals block_leg block_legs block_line block_partner enter_block match_blocks bound_of unfilled_zones enter line partner events_done reply_by run_after refusal_of_command naming_refusal numbers_refusal sweep sweep_leg next_leg take trade view
computing = 0

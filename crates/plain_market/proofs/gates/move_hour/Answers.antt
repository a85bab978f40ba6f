use Rattle.std.proofs.Common.{◌∙◌, sym, subst}
use Rattle.market_model.specs.WellFormed.{IsLegalOver}
use Rattle.plain_market.proofs.Closings.{gated, gate-is}
use Rattle.plain_market.proofs.Happenings.{on-ok}
use Rattle.plain_market.proofs.gates.move_hour.Goals as goal

pub sweep-requires : goal.sweep-requires
sweep-requires c = record {
  legal = subst (IsLegalOver c.args.grid.now)
      (sym (gated c.args.events.now c.push.new.self c.append.new.events c.as_slice.result.now c.args.hour c.args.phase
      c.in_ok-push.ensures.ok c.in_ok-append.ensures.ok (c.as_slice.ensures ∙ c.in_ok-withdrawn.ensures)))
      c.requires.moved;
  summed = c.none.ensures c.args.grid.now c.append.new.events _;
}

pub returns-clause-ok : goal.returns-clause-ok
returns-clause-ok c = on-ok c.sweep.result c.sweep.ensures.ok
    (gate-is c.args.grid.now c.args.events.now c.push.new.self c.append.new.events c.sweep.new.events c.as_slice.result.now c.args.hour c.args.phase
    c.in_ok-push.ensures.ok c.in_ok-append.ensures.ok (c.as_slice.ensures ∙ c.in_ok-withdrawn.ensures))

use Rattle.std.proofs.Common.{IfSome, subst, sym}
use Rattle.market_model.specs.WellFormed.{IsLegalOver}
use Rattle.plain_orders.specs.Tallies.{AreSums}
use Rattle.plain_matching.specs.Summed.{AreHourSums}
use Rattle.plain_matching.specs.declared.hour_sums.HourSums.{HourSums}
use Rattle.plain_matching.proofs.Sums.{hour_sums-grow}
use Rattle.plain_market.proofs.Fitting.{rested-legal}
use Rattle.plain_market.proofs.entering.finish.Goals as goal

pub sweep-requires : goal.sweep-requires
sweep-requires c =
    let sums : HourSums = record { orders = c.withdraw_rest.new.sums; capacity = c.args.sums.now.capacity; listed = c.args.sums.now.listed } in
    let summed : AreHourSums c.args.grid.now c.args.events.now c.args.order.now.contract.hour sums = record {
      orders_are = subst (λ hour. IfSome c.withdraw_rest.new.sums (AreSums c.args.events.now hour)) c.requires.hour c.withdraw_rest.ensures.summed;
      capacity_is = c.requires.summed.capacity_is;
      listed_are = c.requires.summed.listed_are;
    } in record {
      legal = subst (IsLegalOver c.args.grid.now) (sym c.in_ok-withdraw_rest.ensures.ok)
          (rested-legal c.args.grid.now c.args.events.now c.args.order.now.kind c.args.name c.zones-zones.ensures.grid.is_graph c.requires.legal);
      summed = subst (λ events. AreHourSums c.args.grid.now events c.args.order.now.contract.hour sums) (sym c.in_ok-withdraw_rest.ensures.ok)
          (hour_sums-grow c.args.grid.now c.args.events.now _ c.args.order.now.contract.hour sums summed);
    }

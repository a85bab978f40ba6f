use Rattle.std.proofs.Common.{◌≡◌, ap, subst, sym}
use Rattle.order_kinds.specs.declared.order.OrderName.{OrderName}
use Rattle.plain_matching.specs.declared.hour_sums.HourSums.{HourSums}
use Rattle.plain_matching.specs.Summed.{AreHourSums}
use Rattle.plain_matching.proofs.Sums.{hour_sums-grow}
use Rattle.plain_market.proofs.Fitting.{entered-legal}
use Rattle.plain_market.proofs.entering.enter_and_take.Goals as goal

pub next_name_over-requires : goal.next_name_over-requires
next_name_over-requires c = record {
  history = record { setup = c.requires.can.setup; fit = c.requires.can.fit };
  few = c.requires.few;
  summed = c.requires.summed.orders_are;
}

pub take-requires : goal.take-requires
take-requires c =
    let hour : c.in_ok-name.name.hour ≡ c.args.order.now.contract.hour = ap (λ (n : OrderName). n.hour) c.in_ok-name.ensures.name in
    let sums : HourSums = record { orders = c.next_name_over.new.sums; capacity = c.args.sums.now.capacity; listed = c.args.sums.now.listed } in
    record {
      legal = entered-legal c.args.grid.now c.args.events.now c.push.new.self c.args.caller c.args.order.now c.in_ok-name.name
          c.requires.can c.in_ok-name.ensures.name c.in_ok-push.ensures.ok;
      summed = subst (λ h. AreHourSums c.args.grid.now c.push.new.self h sums) (sym hour)
          (subst (λ events. AreHourSums c.args.grid.now events c.args.order.now.contract.hour sums) (sym c.in_ok-push.ensures.ok)
          (hour_sums-grow c.args.grid.now c.args.events.now _ c.args.order.now.contract.hour sums
          (record {
            orders_are = c.next_name_over.ensures.summed;
            capacity_is = c.requires.summed.capacity_is;
            listed_are = c.requires.summed.listed_are;
          })));
    }

pub returns-clause-summed : goal.returns-clause-summed
returns-clause-summed c =
    subst (λ h. AreHourSums c.args.grid.now c.take.new.events h c.take.new.sums) (ap (λ (n : OrderName). n.hour) c.in_ok-name.ensures.name) c.in_ok-take.ensures.summed

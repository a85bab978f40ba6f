use Rattle.std.proofs.lemmas.Bool.{ltb-true}
use Rattle.market_model.specs.Orders.{filled, left}
use Rattle.laws_of_market.proofs.Balances.{shown-le-left}
use Rattle.laws_of_market.proofs.Placed.{all_are_sound}
use Rattle.laws_of_market.proofs.Soundness.{shown-some}
use Rattle.laws_of_market.proofs.histories.orders_show_what_is_left.Goals as goal

pub returns : goal.returns
returns c = λ setup events order history h opened.
    let sound = (all_are_sound setup events history.fit).orders order h in (
      shown-some order.order sound.sound (filled events order.name) (left events order.name) (ltb-true 0 (left events order.name) opened),
      shown-le-left order.order.kind (filled events order.name) (left events order.name),
    )

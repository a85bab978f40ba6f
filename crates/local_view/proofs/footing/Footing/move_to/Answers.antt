use Rattle.std.proofs.Common.{◌∙◌, ap, length, sym}
use Rattle.local_view.proofs.footing.Footing.move_to.Goals as goal

pub returns-clause-over : goal.returns-clause-over
returns-clause-over g c =
    let over = c.still_certified-still.ensures.over in
    record {
      side_is = over.side_is;
      ends_are = over.ends_are;
      sized = record {
        rooms_are = ap length c.copy_from.ensures ∙ c.requires.1.1.1 ∙ sym (ap length over.ends_are);
        count = over.sized.count;
        flows = over.sized.flows;
        orders_in = over.sized.orders_in;
        ways_are = over.sized.ways_are;
      };
    }

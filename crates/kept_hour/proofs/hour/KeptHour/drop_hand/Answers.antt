use Rattle.std.proofs.Common.{◌≡◌, ℕ, Some, false}
use Rattle.market_model.specs.Orders.{is_open}
use Rattle.kept_hour.specs.State.{name_in}
use Rattle.kept_hour.proofs.Hands.{dropped-any}
use Rattle.kept_hour.proofs.Keeping.{own}
use Rattle.kept_hour.proofs.Wrapped.{to-own}
use Rattle.kept_hour.proofs.hour.KeptHour.drop_hand.Goals as goal

pub invariant_of-self : goal.invariant_of-self
invariant_of-self c = record {
  first_part = c.self.invariant.first_part;
  keeps = dropped-any (own c.self.inside.grid.value c.self.inside.hour c.self.inside.events c.self.inside.settled c.self.inside.hand)
      c.self.inside.numbers c.self.inside.settled_numbers c.self.inside.store c.self.invariant.keeps
      (to-own c.self.inside.grid.value c.self.inside.hour c.self.inside.events c.self.inside.settled c.self.inside.hand c.self.inside.numbers c.self.inside.settled_numbers c.self.inside.store c.self.invariant c.args.self.now c.self.view_is
      (λ h. (number : ℕ) → h.board.hand ≡ Some number → is_open h.board.events (name_in h number) ≡ false) c.requires.closed);
}

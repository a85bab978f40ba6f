use Rattle.kept_hour.proofs.DealCalls.{can-carry-deal, dealt-kept}
use Rattle.kept_hour.proofs.hour.KeptHour.deal.Goals as goal

pub deal_in-requires-clause-can : goal.deal_in-requires-clause-can
deal_in-requires-clause-can c =
    can-carry-deal c.self.inside.grid.value c.self.inside.hour c.self.inside.events c.self.inside.settled c.self.inside.hand c.self.inside.numbers c.self.inside.settled_numbers c.self.inside.store c.self.invariant c.args.self.now c.self.view_is c.requires.free
    c.reserve_for.new.store c.reserve_for.ensures.contents c.reserve_for.ensures.changes c.args.first c.args.last c.args.deal.now c.requires.next

pub invariant_of-self-2 : goal.invariant_of-self-2
invariant_of-self-2 c =
    dealt-kept c.self.inside.grid.value c.self.inside.hour c.self.inside.events c.self.inside.settled c.self.inside.hand c.self.inside.numbers c.self.inside.settled_numbers c.self.inside.store c.self.invariant c.args.self.now c.self.view_is c.requires.free
    c.reserve_for.new.store c.reserve_for.ensures.contents c.reserve_for.ensures.changes c.args.first c.args.last c.args.deal.now c.requires.next c.requires.whole
    c.push_deal.new.events c.in_ok-push_deal.ensures.pushed c.deal_in.new.store c.deal_in.ensures.dealt c.deal_in.ensures.back c.deal_in.ensures.noted

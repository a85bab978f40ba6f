use Rattle.std.proofs.Common.{refl}
use Rattle.kept_hour.proofs.HandCalls.{can-rest, rested-kept}
use Rattle.kept_hour.proofs.hour.KeptHour.rest_hand.Goals as goal

pub rest-requires-clause-part : goal.rest-requires-clause-part
rest-requires-clause-part c = (can-rest c.self.inside.grid.value c.self.inside.hour c.self.inside.events c.self.inside.settled c.self.inside.hand c.self.inside.numbers c.self.inside.settled_numbers c.self.inside.store c.self.invariant c.args.self.now c.self.view_is c.args.part c.args.order c.requires.held c.requires.part c.requires.stands c.requires.room c.reserve.new.self c.reserve.ensures.contents c.reserve.ensures.changes).part_there

pub rest-requires-clause-absent : goal.rest-requires-clause-absent
rest-requires-clause-absent c = (can-rest c.self.inside.grid.value c.self.inside.hour c.self.inside.events c.self.inside.settled c.self.inside.hand c.self.inside.numbers c.self.inside.settled_numbers c.self.inside.store c.self.invariant c.args.self.now c.self.view_is c.args.part c.args.order c.requires.held c.requires.part c.requires.stands c.requires.room c.reserve.new.self c.reserve.ensures.contents c.reserve.ensures.changes).absent

pub rest-requires-clause-sound : goal.rest-requires-clause-sound
rest-requires-clause-sound c = (can-rest c.self.inside.grid.value c.self.inside.hour c.self.inside.events c.self.inside.settled c.self.inside.hand c.self.inside.numbers c.self.inside.settled_numbers c.self.inside.store c.self.invariant c.args.self.now c.self.view_is c.args.part c.args.order c.requires.held c.requires.part c.requires.stands c.requires.room c.reserve.new.self c.reserve.ensures.contents c.reserve.ensures.changes).sound

pub unreachable-requires : goal.unreachable-requires
unreachable-requires c = (can-rest c.self.inside.grid.value c.self.inside.hour c.self.inside.events c.self.inside.settled c.self.inside.hand c.self.inside.numbers c.self.inside.settled_numbers c.self.inside.store c.self.invariant c.args.self.now c.self.view_is c.args.part c.args.order c.requires.held c.requires.part c.requires.stands c.requires.room c.reserve.new.self c.reserve.ensures.contents c.reserve.ensures.changes).place (c.in_default.ensures.full.0 refl)

pub invariant_of-self-2 : goal.invariant_of-self-2
invariant_of-self-2 c = rested-kept c.self.inside.grid.value c.self.inside.hour c.self.inside.events c.self.inside.settled c.self.inside.hand c.self.inside.numbers c.self.inside.settled_numbers c.self.inside.store c.self.invariant c.args.self.now c.self.view_is c.args.part c.args.order c.requires.held c.requires.part c.requires.stands c.requires.room c.reserve.new.self c.reserve.ensures.contents c.reserve.ensures.changes c.rest.new.self c.in-Ok.ensures.rests c.rest.ensures.back (c.in-Ok.ensures.noted, c.rest.ensures.no_flow)

use Rattle.std.proofs.Common.{◌≡◌, ◌∙◌, length, List, Some, sym, ap, subst}
use Rattle.std.proofs.lemmas.Bool.{true≢false}
use Rattle.zone_graph.specs.Graph.{border_count}
use Rattle.zone_graph.specs.Rooms.{room_of}
use Rattle.block_match.specs.declared.deal.BlockDeal.{BlockDeal}
use Rattle.block_match.specs.Deals.{deal_of_period}
use Rattle.block_match.specs.Meeting.{HaveZones}
use Rattle.laws_of_joint_commands.specs.MatchingBlocks.{legs_of}
use Rattle.kept_hour.specs.Planned.{after_events}
use Rattle.desk_changes.specs.Rooms.{CanCarryEach}
use Rattle.zone_graph.specs.declared.route.Arc.{Arc}
use Rattle.zone_graph.specs.declared.route.RouteLeg.{RouteLeg}
use Rattle.route_choice.specs.Poured.{rooms_after}
use Rattle.desk_changes.proofs.NextDeals.{all-here, can, closes, fewer, fit-here, follows, made-on, so-far-on, zones-here}
use Rattle.desk_changes.proofs.Periods.{FoundSoFar}
use Rattle.desk_changes.proofs.matching.deal_all.Goals as goal
use Rattle.desk_changes.proofs.matching.deal_all.Goals.{then-opened, else-opened}

pub match_resting-requires-clause-zones : goal.match_resting-requires-clause-zones
match_resting-requires-clause-zones c =
    subst (HaveZones c.args.grid.now) (sym c.blocks-in-loop-deals.ensures)
    (zones-here c.args.grid.now c.args.hour.now c.loop-deals.hour c.hour-first.result c.args.last c.args.rooms.now c.loop-deals.rooms c.loop-deals.deals.items
    c.requires.grid c.hour-first.ensures.number c.loop-deals.invariant.made c.loop-deals.invariant.so_far c.requires.first)

pub match_resting-requires-clause-fit : goal.match_resting-requires-clause-fit
match_resting-requires-clause-fit c =
    fit-here c.args.grid.now c.args.hour.now c.loop-deals.hour c.hour-first.result c.args.last c.args.rooms.now c.loop-deals.rooms c.loop-deals.deals.items
    c.requires.grid c.hour-first.ensures.number c.loop-deals.invariant.made c.loop-deals.invariant.so_far c.requires.first

pub make_deal-requires-clause-next : goal.make_deal-requires-clause-next
make_deal-requires-clause-next c =
    follows c.args.grid.now c.args.hour.now c.loop-deals.hour c.hour-first.result c.args.last c.args.rooms.now c.loop-deals.rooms c.loop-deals.deals.items
    c.requires.grid c.hour-first.ensures.number c.loop-deals.invariant.made c.loop-deals.invariant.so_far c.requires.first c.in-Some.deal
    (sym c.in-Some.is ∙ c.in_ok-deal.ensures ∙ ap (λ b. deal_of_period c.args.grid.now (room_of c.loop-deals.rooms) b c.args.last) c.blocks-in-loop-deals.ensures)

pub make_deal-requires-clause-whole : goal.make_deal-requires-clause-whole
make_deal-requires-clause-whole c = λ here.
    closes c.args.grid.now c.args.hour.now c.loop-deals.hour c.hour-first.result c.args.last c.args.rooms.now c.loop-deals.rooms c.loop-deals.deals.items
    c.requires.grid c.hour-first.ensures.number c.loop-deals.invariant.made c.loop-deals.invariant.so_far c.requires.first c.in-Some.deal
    (sym c.in-Some.is ∙ c.in_ok-deal.ensures ∙ ap (λ b. deal_of_period c.args.grid.now (room_of c.loop-deals.rooms) b c.args.last) c.blocks-in-loop-deals.ensures)

pub carry_each-requires : goal.carry_each-requires
carry_each-requires c =
    let found : Some c.in-Some.deal ≡ deal_of_period c.args.grid.now (room_of c.loop-deals.rooms) c.blocks-in-loop-deals.result.now c.args.last =
    sym c.in-Some.is ∙ c.in_ok-deal.ensures in
    let size : border_count c.args.grid.now ≡ length c.loop-deals.rooms = sym c.requires.size ∙ sym c.loop-deals.invariant.size in
    subst (CanCarryEach (length c.loop-deals.rooms) (room_of c.loop-deals.rooms)) (sym c.as_slice.ensures)
    (subst (λ n. CanCarryEach n (room_of c.loop-deals.rooms) c.in-Some.deal.legs) size
    (can c.args.grid.now c.args.hour.now c.loop-deals.hour c.hour-first.result c.args.last c.args.rooms.now c.loop-deals.rooms c.loop-deals.deals.items
    c.requires.grid c.hour-first.ensures.number c.loop-deals.invariant.made c.loop-deals.invariant.so_far c.requires.first c.in-Some.deal
    (found ∙ ap (λ b. deal_of_period c.args.grid.now (room_of c.loop-deals.rooms) b c.args.last) c.blocks-in-loop-deals.ensures)))

pub loop-deals-smaller : goal.loop-deals-smaller
loop-deals-smaller c =
    let found : Some c.in-Some.deal ≡ deal_of_period c.args.grid.now (room_of c.loop-deals.rooms) c.blocks-in-loop-deals.result.now c.args.last =
    sym c.in-Some.is ∙ c.in_ok-deal.ensures in
    fewer c.args.grid.now c.args.hour.now c.loop-deals.hour c.hour-first.result c.args.last c.args.rooms.now c.loop-deals.rooms c.loop-deals.deals.items
    c.requires.grid c.hour-first.ensures.number c.loop-deals.invariant.made c.loop-deals.invariant.so_far c.requires.first c.in-Some.deal
    (found ∙ ap (λ b. deal_of_period c.args.grid.now (room_of c.loop-deals.rooms) b c.args.last) c.blocks-in-loop-deals.ensures)
    c.make_deal.new.hour c.in_ok-opens.ensures.made

pub loop-deals-preserved : goal.loop-deals-preserved
loop-deals-preserved c =
    let found : Some c.in-Some.deal ≡ deal_of_period c.args.grid.now (room_of c.loop-deals.rooms) c.blocks-in-loop-deals.result.now c.args.last =
    sym c.in-Some.is ∙ c.in_ok-deal.ensures in
    let here = found ∙ ap (λ b. deal_of_period c.args.grid.now (room_of c.loop-deals.rooms) b c.args.last) c.blocks-in-loop-deals.ensures in
    let items = sym c.in_ok-push.ensures.items in
    record {
      made = subst (λ (ds : List BlockDeal). c.make_deal.new.hour ≡ after_events c.args.hour.now (legs_of c.hour-first.result c.args.last ds)) items
          (made-on c.args.grid.now c.args.hour.now c.loop-deals.hour c.hour-first.result c.args.last c.args.rooms.now c.loop-deals.rooms c.loop-deals.deals.items
          c.requires.grid c.hour-first.ensures.number c.loop-deals.invariant.made c.loop-deals.invariant.so_far c.requires.first c.in-Some.deal here
          c.make_deal.new.hour c.in_ok-opens.ensures.made);
      so_far = subst (λ ds. FoundSoFar c.args.grid.now c.hour-first.result c.args.last c.args.hour.now.board.events c.args.rooms.now ds c.carry_each.new.rooms) items
          (so-far-on c.args.grid.now c.args.hour.now c.loop-deals.hour c.hour-first.result c.args.last c.args.rooms.now c.loop-deals.rooms c.loop-deals.deals.items
          c.requires.grid c.hour-first.ensures.number c.loop-deals.invariant.made c.loop-deals.invariant.so_far c.requires.first c.in-Some.deal here
          c.carry_each.new.rooms (subst (λ (legs : List RouteLeg). (arc : Arc) → room_of c.carry_each.new.rooms arc
          ≡ rooms_after (room_of c.loop-deals.rooms) legs arc) c.as_slice.ensures c.carry_each.ensures.rooms));
      size = c.carry_each.ensures.size ∙ c.loop-deals.invariant.size;
      quiet = λ none. elim c.if-opened.branch [
        | then-opened w ↦ absurd (true≢false (sym w.if-opened.true ∙ sym w.opened-is ∙ none))
        | else-opened w ↦ c.in_ok-opens.ensures.quiet (sym w.opened-is ∙ none) (c.loop-deals.invariant.quiet w.if-opened.false)
      ];
    }

pub returns-clause-deals : goal.returns-clause-deals
returns-clause-deals c =
    all-here c.args.grid.now c.args.hour.now c.loop-deals.hour c.hour-first.result c.args.last c.args.rooms.now c.loop-deals.rooms c.loop-deals.deals.items
    c.requires.grid c.hour-first.ensures.number c.loop-deals.invariant.made c.loop-deals.invariant.so_far
    (sym c.in_default.is ∙ c.in_ok-deal.ensures ∙ ap (λ b. deal_of_period c.args.grid.now (room_of c.loop-deals.rooms) b c.args.last) c.blocks-in-loop-deals.ensures)

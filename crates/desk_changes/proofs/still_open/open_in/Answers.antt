use Rattle.std.proofs.Common.{◌∙◌, ◌++◌, [], ◌∷◌, Some, None, ap, subst, sym, take}
use Rattle.std.proofs.lemmas.List.{append-nil}
use Rattle.zone_graph.specs.Route.{IsIn}
use Rattle.zone_graph.proofs.Places.{item_at_place}
use Rattle.desk_changes.specs.StillOpen.{open_in}
use Rattle.desk_changes.proofs.Found.{open-more}
use Rattle.desk_changes.proofs.still_open.open_in.Goals as goal
use Rattle.desk_changes.proofs.still_open.open_in.Goals.{in-Some+in_ok-push-in-Some, in-None}

pub open_by-requires-clause-among : goal.open_by-requires-clause-among
open_by-requires-clause-among c =
    subst (IsIn c.event-item.result) c.events-event-items.ensures.events
    (item_at_place c.events-event-items.result.now c.loop-event.event-index c.event-item.result c.loop-event-test.true c.event-item.is)

pub loop-event-preserved : goal.loop-event-preserved
loop-event-preserved c =
    let all = c.events-event-items.result.now in
    elim c.match-open_by.branch [
      | in-Some+in_ok-push-in-Some w ↦
          let more = open-more all c.args.hour.now.board.events c.loop-event.event-index c.event-item.result (Some w.in-Some.item) c.events-event-items.ensures.events
          c.loop-event-test.true c.event-item.is (sym w.in-Some.is ∙ c.open_by.ensures) in
          rw w.found-is (w.in_ok-push-in-Some.ensures.items ∙ ap (λ xs. xs ++ w.in-Some.item ∷ []) c.loop-event.invariant ∙ sym more)
      | in-None w ↦
          let more = open-more all c.args.hour.now.board.events c.loop-event.event-index c.event-item.result None c.events-event-items.ensures.events
          c.loop-event-test.true c.event-item.is (sym w.in-None.is ∙ c.open_by.ensures) in
          rw w.found-is (c.loop-event.invariant ∙ sym (append-nil (open_in all (take c.loop-event.event-index all))) ∙ sym more)
    ]

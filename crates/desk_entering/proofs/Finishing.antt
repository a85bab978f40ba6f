-- The hour once the taking of an order has ended, and once it was swept.
use Rattle.std.proofs.Common.{◌≡◌, ◌∙◌, ℕ, false, List, [], Option, Some, sym, ap, subst}
use Rattle.order_kinds.specs.declared.order.Order.{Order}
use Rattle.order_kinds.specs.Contract.{part_number}
use Rattle.order_kinds.specs.Period.{contract_quarters}
use Rattle.zone_graph.specs.declared.route.Arc.{Arc}
use Rattle.zone_graph.specs.Graph.{Graph, HasArc}
use Rattle.zone_graph.specs.Rooms.{room_of}
use Rattle.market_model.specs.declared.command.Command.TheVariants as command
use Rattle.market_model.specs.declared.refusal.Refusal.{Refusal}
use Rattle.market_model.specs.Room.{room}
use Rattle.market_model.specs.Rules.{first_broken}
use Rattle.market_model.specs.StateRules.{filling_rules}
use Rattle.laws_of_boards.specs.Settled.{IsSettled}
use Rattle.match_core.specs.Walks.{AreRoomsOf}
use Rattle.sweep_core.specs.Sweeping.{hour_sweep}
use Rattle.kept_hour.specs.Planned.{IsUnplanned}
use Rattle.kept_hour.specs.State.{HourState, undone}
use Rattle.desk_entering.specs.declared.obstacle.Obstacle.{Obstacle}
use Rattle.desk_entering.specs.Entries.{Enters, HasEnded, IsJudged, IsSettledAs, refusal_for}
use Rattle.desk_entering.specs.Opening.{any_opens, planned_events}
use Rattle.desk_entering.proofs.Certified.{settled-rooms}
use Rattle.desk_entering.proofs.Entry.{enters_here}
use Rattle.desk_entering.proofs.Quiet.{nothing-to-sweep}

-- where no leg opened an arc nothing is to be swept, since nothing was as the hour is settled
pub nothing-then : (old mid : HourState) (caller : ℕ) (order : Order) → IsUnplanned old → Enters old.board.grid old.board.hour old.settled caller order
    → (part : ℕ) → part ≡ part_number order.contract.part → (rooms : List (ℕ × ℕ)) → AreRoomsOf old.board part rooms
    → IsSettled old.board.grid old.board.hour old.settled → IsSettledAs old mid → HasEnded mid caller order
    → any_opens (room_of rooms) (planned_events mid) ≡ false → hour_sweep mid.board ≡ []
nothing-then old mid caller order unplanned can part part_is rooms of_part settled kept ended =
    let known = (enters_here old.board.grid old.board.hour old.settled caller order can).in_part in
    let AreRooms : HourState → Type 0 = λ h. (arc : Arc) → HasArc h.board.grid arc → room_of rooms arc ≡ room h.settled (contract_quarters order.contract) arc in
    let Settled : HourState → Type 0 = λ h. IsSettled h.board.grid h.board.hour h.settled in
    nothing-to-sweep mid caller order ended rooms (subst AreRooms (sym kept) (settled-rooms old order unplanned can.in_hour known part part_is rooms of_part))
    (subst Settled (sym kept) settled)

-- what the rules say of an order depends on the settled hour alone
pub judged-then : (old mid : HourState) (caller : ℕ) (order : Order) (found : Option Obstacle) → IsSettledAs old mid → IsJudged mid caller order found
    → IsJudged old caller order found
judged-then old mid caller order found kept judged = subst (λ (h : HourState). IsJudged h caller order found) kept judged

-- what an order is refused for, once what was planned is taken back
pub refused-for : (old new : HourState) (caller : ℕ) (order : Order) (obstacle : Obstacle) (reason : Refusal) (graph : Graph) → graph ≡ old.board.grid → new ≡ undone old
    → Enters old.board.grid old.board.hour old.settled caller order
    → ((caller : ℕ) → Enters new.board.grid new.board.hour new.settled caller order → reason ≡ refusal_for new.board.grid new.settled caller order obstacle)
    → IsJudged old caller order (Some obstacle) → Some reason ≡ first_broken (filling_rules graph old.settled caller (command.Enter order))
refused-for old new caller order obstacle reason graph over same can told judged =
    let Told : HourState → Type 0 = λ h. (caller : ℕ) → Enters h.board.grid h.board.hour h.settled caller order → reason ≡ refusal_for h.board.grid h.settled caller order obstacle in
    let here : Told (undone old) = subst Told same told in
    ap Some (here caller can) ∙ sym judged ∙ ap (λ g. first_broken (filling_rules g old.settled caller (command.Enter order))) (sym over)

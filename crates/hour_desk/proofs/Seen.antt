-- The rows that are kept of a part are the market's of its contract.
use Rattle.std.proofs.Common.{◌≡◌, ◌∙◌, ℕ, ◌<◌, true, List, sym, ap, subst}
use Rattle.order_kinds.specs.declared.contract.Contract.{Contract}
use Rattle.order_kinds.specs.declared.contract.Part.{Part}
use Rattle.order_kinds.specs.declared.side.Side.{Side}
use Rattle.order_kinds.specs.Contract.{contract_at, is_known, part_number}
use Rattle.zone_graph.specs.Graph.{HasZone}
use Rattle.market_model.specs.declared.command.Command.TheVariants as command
use Rattle.market_model.specs.declared.reply.ViewRow.{ViewRow}
use Rattle.market_model.specs.declared.setup.Setup.{Setup}
use Rattle.market_model.specs.Grid.{graph_of}
use Rattle.market_model.specs.View.{view}
use Rattle.desk_changes.specs.State.{HourState, settled_board}
use Rattle.desk_changes.proofs.PartNumbers.{part-of_number}
use Rattle.local_view.specs.Kept.{kept_of}
use Rattle.desk_views.specs.Desk.{DeskState}
use Rattle.desk_views.specs.Standing.{StandAt}
use Rattle.laws_of_market.proofs.Admitting.{view-named}
use Rattle.hour_desk.specs.Placed.{CanChange}
use Rattle.hour_desk.proofs.Commands.{one-hour}
use Rattle.hour_desk.proofs.Planned.{let-in}

contract-of : (hour : ℕ) → Part → Contract
contract-of hour p = record { hour = hour; part = p }

module _ (setup : Setup) (hour : HourState) (caller : ℕ) (contract : Contract) (side : Side) (zone : ℕ)
    (can : CanChange setup hour caller (command.View contract side zone)) where
  named : (is_known contract.part ≡ true) × HasZone (graph_of setup) zone
  named = view-named setup hour.settled caller contract side zone (let-in setup hour caller (command.View contract side zone) can)

  pub view-part : is_known contract.part ≡ true
  view-part = named.0

  view-zone : HasZone hour.board.grid zone
  view-zone = subst (λ g. HasZone g zone) can.placed.over named.1

  contract-is : (number : ℕ) → number ≡ part_number contract.part → contract_at hour.board.hour number ≡ contract
  unfolding contract-of
  contract-is number is =
      let one = one-hour setup hour caller (command.View contract side zone) can in
      let in_hour : contract.hour ≡ hour.board.hour = cc in
      ap (contract_at hour.board.hour) is ∙ ap (contract-of hour.board.hour) (part-of_number contract.part named.0)
      ∙ ap (λ h. contract-of h contract.part) (sym in_hour)

  module _ (views : DeskState) (stands : StandAt (settled_board hour) views) where
    pub view-there : zone < views.views.zones
    view-there = subst (λ n. zone < n) (sym stands.zones) view-zone

    pub view-rows : (number : ℕ) (rows : List ViewRow) → number < 7 → number ≡ part_number contract.part → rows ≡ kept_of views.views number side zone
        → rows ≡ view (graph_of setup) hour.settled contract side zone
    view-rows number rows low is kept =
        kept ∙ stands.kept number side zone (subst (λ n. number < n) (sym can.placed.seven) low) view-zone
        ∙ ap (λ own. view hour.board.grid hour.settled own side zone) (contract-is number is)
        ∙ ap (λ g. view g hour.settled contract side zone) (sym can.placed.over)

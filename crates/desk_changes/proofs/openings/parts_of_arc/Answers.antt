use Rattle.std.proofs.Common.{◌∙◌, ◌≡◌, ◌&&◌, sym, ap}
use Rattle.desk_changes.proofs.PartRooms.{parts-tell}
use Rattle.desk_changes.proofs.openings.parts_of_arc.Goals as goal
use Rattle.desk_changes.proofs.openings.parts_of_arc.Goals.{then-one, else-one, then-three, else-three}

pub returns-then-first : goal.returns-then-first
returns-then-first c =
    let first : c.if-one.first ≡ (c.has_room_in-one.result && c.has_room_in-two.result) =
    elim c.if-one.branch [ then-one w ↦ w.first-is ∙ ap (λ b. b && c.has_room_in-two.result) (sym w.if-one.true) | else-one w ↦ w.first-is ∙ w.if-one.false ∙ ap (λ b. b && c.has_room_in-two.result) (sym w.if-one.false) ] in
    let second : c.if-three.second ≡ (c.has_room_in-three.result && c.has_room_in-four.result) =
    elim c.if-three.branch [ then-three w ↦ w.second-is ∙ ap (λ b. b && c.has_room_in-four.result) (sym w.if-three.true) | else-three w ↦ w.second-is ∙ w.if-three.false ∙ ap (λ b. b && c.has_room_in-four.result) (sym w.if-three.false) ] in
    parts-tell c.args.hour.now.board c.args.arc c.has_room_in-one.result c.has_room_in-two.result c.has_room_in-three.result c.has_room_in-four.result c.if-one.first c.if-three.second c.if-three.second
    c.has_room_in-one.ensures c.has_room_in-two.ensures c.has_room_in-three.ensures c.has_room_in-four.ensures first second (ap (λ b. b && c.if-three.second) (sym c.if-first.true))

pub returns-else-first : goal.returns-else-first
returns-else-first c =
    let first : c.if-one.first ≡ (c.has_room_in-one.result && c.has_room_in-two.result) =
    elim c.if-one.branch [ then-one w ↦ w.first-is ∙ ap (λ b. b && c.has_room_in-two.result) (sym w.if-one.true) | else-one w ↦ w.first-is ∙ w.if-one.false ∙ ap (λ b. b && c.has_room_in-two.result) (sym w.if-one.false) ] in
    let second : c.if-three.second ≡ (c.has_room_in-three.result && c.has_room_in-four.result) =
    elim c.if-three.branch [ then-three w ↦ w.second-is ∙ ap (λ b. b && c.has_room_in-four.result) (sym w.if-three.true) | else-three w ↦ w.second-is ∙ w.if-three.false ∙ ap (λ b. b && c.has_room_in-four.result) (sym w.if-three.false) ] in
    parts-tell c.args.hour.now.board c.args.arc c.has_room_in-one.result c.has_room_in-two.result c.has_room_in-three.result c.has_room_in-four.result c.if-one.first c.if-three.second c.if-one.first
    c.has_room_in-one.ensures c.has_room_in-two.ensures c.has_room_in-three.ensures c.has_room_in-four.ensures first second
    (c.if-first.false ∙ ap (λ b. b && c.if-three.second) (sym c.if-first.false))

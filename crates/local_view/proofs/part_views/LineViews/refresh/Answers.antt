use Rattle.std.proofs.Common.{◌∙◌, ◌++◌, ◌<◌, ℕ, [], IfSome, Some, drop, get_or, inr, length, take, refl, ap, subst, sym}
use Rattle.zone_graph.specs.Graph.{Graph, zone_count}
use Rattle.zone_graph.proofs.Finding.{none_from}
use Rattle.local_view.specs.Footing.{IsFoundedAt, IsSized}
use Rattle.local_view.specs.Rows.{LineRows, chosen, chosen_at, of_zones}
use Rattle.local_view.proofs.Chosen.{listed_same, made_of, made_of_some, written_whole, zones_are}
use Rattle.local_view.proofs.Keeping.{kept_at, kept_line, next_at, next_made, not_next, written_line}
use Rattle.local_view.proofs.Listed.{nothing-shown}
use Rattle.local_view.proofs.part_views.LineViews.refresh.Goals as goal

pub returns-then-is_none-clause-next : goal.returns-then-is_none-clause-next
returns-then-is_none-clause-next g c =
    let board = g.B.Board.state c.args.board.now in
    let kept = ap (λ (line : LineRows). line.kept) (c.self.view_is ∙ c.forget.ensures) in
    let written = written_whole c.clear_lists.new.lists _ c.self.inside.next.len (c.clear_lists.ensures.size ∙ c.as_mut_slice.ensures.len) in
    made_of c.self.inside.zones c.args.computed board c.args.line.part c.args.line.side c.self.inside.kept.items (take c.self.inside.next.len (c.clear_lists.new.lists ++ _)) c.args.self.now.kept
    (record { kept = of_zones c.self.inside.zones c.self.inside.kept.items; next = Some (chosen c.self.inside.zones c.args.computed c.self.inside.kept.items (take c.self.inside.next.len (c.clear_lists.new.lists ++ _))) })
    (zones_are c.self.inside.zones (zone_count c.args.grid.now) c.self.inside.kept.items c.args.self.now.kept kept c.requires.zones ∙ ap (λ (graph : Graph). zone_count graph) c.requires.grid)
    (sym kept)
    (λ zone there computed.
    ap (λ lists. get_or lists zone []) written
    ∙ c.clear_lists.ensures.lists zone
    ∙ sym (nothing-shown board c.first.ensures.board c.requires.hand c.args.line.part c.requires.part c.args.line.side zone
    (sym c.first.ensures.first ∙ none_from c.first.result c.if-is_none.ensures)))
    refl

pub invariant_of-self : goal.invariant_of-self
invariant_of-self g c =
    let none = not_next c.self.inside.is_next _ (ap (λ (line : LineRows). line.next) (c.self.view_is ∙ c.forget.ensures)) in
    let written = written_whole c.clear_lists.new.lists _ c.self.inside.next.len (c.clear_lists.ensures.size ∙ c.as_mut_slice.ensures.len) in
    written_line c.self.inside.zones c.self.inside.computed c.self.inside.kept.items c.self.inside.next.items c.self.inside.is_next c.self.inside.footing c.self.invariant none c.args.computed _
    c.take_off.new.footing (ap length written ∙ c.clear_lists.ensures.size ∙ ap length c.as_mut_slice.ensures.value) (c.take_off.ensures.sized c.self.inside.zones c.self.invariant.founded.sized)
    (c.take_off.ensures.rest c.self.inside.zones)

pub invariant_of-self-in_err-make_lists : goal.invariant_of-self-in_err-make_lists
invariant_of-self-in_err-make_lists g c =
    let none = not_next c.self.inside.is_next _ (ap (λ (line : LineRows). line.next) (c.self.view_is ∙ c.forget.ensures)) in
    kept_line c.self.inside.zones c.self.inside.computed c.self.inside.kept.items c.self.inside.next.items c.self.inside.is_next c.self.inside.footing c.self.invariant none c.make_lists.new.kept.items
    c.make_lists.new.next.items c.self.inside.footing c.make_lists.ensures.lists (listed_same c.self.inside.zones c.make_lists.new.kept.items c.self.inside.kept.items c.make_lists.ensures.same)
    c.self.invariant.founded.sized (λ zone rows less founded. founded)

pub fill_next-requires-clause-zones : goal.fill_next-requires-clause-zones
fill_next-requires-clause-zones g c =
    ap length c.as_mut_slice-lists.ensures.value
    ∙ c.in_ok-make_lists.ensures.made
    ∙ zones_are c.self.inside.zones (zone_count c.args.grid.now) c.self.inside.kept.items c.args.self.now.kept (ap (λ (line : LineRows). line.kept) (c.self.view_is ∙ c.forget.ensures)) c.requires.zones

pub fill_next-requires-clause-sized : goal.fill_next-requires-clause-sized
fill_next-requires-clause-sized g c =
    subst (λ zones. IfSome c.self.inside.footing (IsSized zones))
    (zones_are c.self.inside.zones (zone_count c.args.grid.now) c.self.inside.kept.items c.args.self.now.kept (ap (λ (line : LineRows). line.kept) (c.self.view_is ∙ c.forget.ensures)) c.requires.zones)
    c.self.invariant.founded.sized

pub invariant_of-self-in_err-self-inside : goal.invariant_of-self-in_err-self-inside
invariant_of-self-in_err-self-inside g c =
    let seen = c.self.view_is ∙ c.forget.ensures in
    let none = not_next c.self.inside.is_next _ (ap (λ (line : LineRows). line.next) seen) in
    let count = zones_are c.self.inside.zones (zone_count c.args.grid.now) c.self.inside.kept.items c.args.self.now.kept (ap (λ (line : LineRows). line.kept) seen) c.requires.zones in
    let lists = c.in_ok-make_lists.ensures.lists in
    let written = written_whole c.fill_next.new.lists _ c.make_lists.new.next.len (c.fill_next.ensures.size ∙ c.as_mut_slice-lists.ensures.len) in
    let size = ap length written ∙ c.fill_next.ensures.size ∙ ap length c.as_mut_slice-lists.ensures.value in
    kept_line c.self.inside.zones c.self.inside.computed c.self.inside.kept.items c.self.inside.next.items c.self.inside.is_next c.self.inside.footing c.self.invariant none c.make_lists.new.kept.items
    _ c.fill_next.new.footing
    (record { same = size ∙ lists.same; made = inr (size ∙ c.in_ok-make_lists.ensures.made) })
    (listed_same c.self.inside.zones c.make_lists.new.kept.items c.self.inside.kept.items c.in_ok-make_lists.ensures.same)
    (subst (λ zones. IfSome c.fill_next.new.footing (IsSized zones)) (sym count) c.fill_next.ensures.sized)
    (λ zone rows less founded.
    subst (λ zones. IsFoundedAt zones c.fill_next.new.footing zone rows) (sym count)
    (c.in_err-self-inside.ensures.failed zone rows (subst (λ zones. zone < zones) count less) (subst (λ zones. IsFoundedAt zones c.self.inside.footing zone rows) count founded)))

pub invariant_of-self-2 : goal.invariant_of-self-2
invariant_of-self-2 g c =
    let seen = c.self.view_is ∙ c.forget.ensures in
    let none = not_next c.self.inside.is_next _ (ap (λ (line : LineRows). line.next) seen) in
    let count = zones_are c.self.inside.zones (zone_count c.args.grid.now) c.self.inside.kept.items c.args.self.now.kept (ap (λ (line : LineRows). line.kept) seen) c.requires.zones in
    let kept = c.make_lists.new.kept.items in
    let made = c.in_ok-self-inside.field-0 in
    let founded : (zone : ℕ) → zone < zone_count c.args.grid.now → IsFoundedAt (zone_count c.args.grid.now) c.self.inside.footing zone (get_or kept zone []) =
    λ zone less.
    let within = subst (λ zones. zone < zones) (sym count) less in
    subst (λ zones. IsFoundedAt zones c.self.inside.footing zone (get_or kept zone [])) count
    (subst (IsFoundedAt c.self.inside.zones c.self.inside.footing zone) (sym (listed_same c.self.inside.zones kept c.self.inside.kept.items c.in_ok-make_lists.ensures.same zone within))
    (kept_at c.self.inside.zones c.self.inside.computed c.self.inside.kept.items c.self.inside.next.items c.self.inside.is_next c.self.inside.footing c.self.invariant none zone within)) in
    let written = written_whole c.fill_next.new.lists _ c.make_lists.new.next.len (c.fill_next.ensures.size ∙ c.as_mut_slice-lists.ensures.len) in
    let lists = c.in_ok-make_lists.ensures.lists in
    let size = ap length written ∙ c.fill_next.ensures.size ∙ ap length c.as_mut_slice-lists.ensures.value in
    record {
      lists = record { same = size ∙ lists.same; made = inr (size ∙ c.in_ok-make_lists.ensures.made) };
      founded = record {
        sized = subst (λ zones. IfSome c.fill_next.new.footing (IsSized zones)) (sym count) c.fill_next.ensures.sized;
        at = λ zone less.
            subst (λ zones. IsFoundedAt zones c.fill_next.new.footing zone (chosen_at made kept (take c.make_lists.new.next.len (c.fill_next.new.lists ++ drop (length c.fill_next.new.lists) c.make_lists.new.next.items)) zone)) (sym count)
            (subst (λ next. IsFoundedAt (zone_count c.args.grid.now) c.fill_next.new.footing zone (chosen_at made kept next zone)) (sym written)
            (next_at c.args.grid.now (g.B.Board.state c.args.board.now) c.args.line.part c.args.line.side c.args.computed made c.self.inside.footing c.fill_next.new.footing kept c.fill_next.new.lists
            c.requires.grid c.in_ok-self-inside.ensures.made founded zone (subst (λ zones. zone < zones) count less)));
      };
    }

pub returns-clause-next : goal.returns-clause-next
returns-clause-next g c =
    let seen = c.self.view_is ∙ c.forget.ensures in
    let none = not_next c.self.inside.is_next _ (ap (λ (line : LineRows). line.next) seen) in
    let count = zones_are c.self.inside.zones (zone_count c.args.grid.now) c.self.inside.kept.items c.args.self.now.kept (ap (λ (line : LineRows). line.kept) seen) c.requires.zones in
    let kept = c.make_lists.new.kept.items in
    let made = c.in_ok-self-inside.field-0 in
    let founded : (zone : ℕ) → zone < zone_count c.args.grid.now → IsFoundedAt (zone_count c.args.grid.now) c.self.inside.footing zone (get_or kept zone []) =
    λ zone less.
    let within = subst (λ zones. zone < zones) (sym count) less in
    subst (λ zones. IsFoundedAt zones c.self.inside.footing zone (get_or kept zone [])) count
    (subst (IsFoundedAt c.self.inside.zones c.self.inside.footing zone) (sym (listed_same c.self.inside.zones kept c.self.inside.kept.items c.in_ok-make_lists.ensures.same zone within))
    (kept_at c.self.inside.zones c.self.inside.computed c.self.inside.kept.items c.self.inside.next.items c.self.inside.is_next c.self.inside.footing c.self.invariant none zone within)) in
    let written = written_whole c.fill_next.new.lists _ c.make_lists.new.next.len (c.fill_next.ensures.size ∙ c.as_mut_slice-lists.ensures.len) in
    let board = g.B.Board.state c.args.board.now in
    let next = take c.make_lists.new.next.len (c.fill_next.new.lists ++ drop (length c.fill_next.new.lists) c.make_lists.new.next.items) in
    made_of_some c.self.inside.zones c.args.computed made board c.args.line.part c.args.line.side kept next c.args.self.now.kept
    (record { kept = of_zones c.self.inside.zones kept; next = Some (chosen c.self.inside.zones made kept next) })
    (count ∙ ap (λ (graph : Graph). zone_count graph) c.requires.grid)
    (sym (c.in_ok-make_lists.ensures.same ∙ ap (λ (line : LineRows). line.kept) seen))
    (λ zone there.
    ap (λ lists. chosen_at made kept lists zone) written
    ∙ next_made c.args.grid.now board c.args.line.part c.args.line.side c.args.computed made c.self.inside.footing c.fill_next.new.footing kept c.fill_next.new.lists c.requires.grid
    c.in_ok-self-inside.ensures.made founded zone there)
    refl

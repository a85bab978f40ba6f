use Rattle.std.proofs.Common.{◌≡◌, ◌≤◌, ◌∙◌, false, length, map, sym, ap, ap₂, subst, subst₂, arith}
use Rattle.std.specs.List.{range_with_len}
use Rattle.zone_graph.specs.Grid.{IsGrid, neighbours_of, same_ends, same_name}
use Rattle.zone_graph.specs.GridFault.{has_again, has_self_border}
use Rattle.zone_graph.specs.GridIndex.{IsIndexed, NumbersZones, borders_alone, zones_alone}
use Rattle.zone_graph.proofs.GridLemmas.{grid_of}
use Rattle.zone_graph.proofs.grid.Grid.new.Goals as goal

-- the names and borders that passed each test are a grid
made : (c : goal.In_ok-copy-2) → IsGrid (record { zones = c.args.zones.now; borders = c.args.borders.now })
made c =
    let few_zones : length c.args.zones.now ≤ 64 = omega (arith, c.len.ensures) in
    let few_borders : length c.args.borders.now ≤ 128 = omega (arith, c.len-2.ensures) in
    grid_of (record { zones = c.args.zones.now; borders = c.args.borders.now }) c.requires few_zones
    (subst (λ names. has_again same_name names ≡ false) c.as_slice.ensures c.in_ok-numbers.ensures.different)
    few_borders
    (sym (c.has_border_to_itself.ensures ∙ ap has_self_border c.as_slice-2.ensures) ∙ c.if-has_border_to_itself.false)
    (sym (c.has_border_again.ensures ∙ ap (has_again same_ends) c.as_slice-3.ensures) ∙ c.if-has_border_again.false)

pub invariant_of-result : goal.invariant_of-result
invariant_of-result c =
    subst₂ (λ names pairs. IsIndexed (record { zones = names; borders = pairs }) c.in_ok-numbers.numbers.entries c.in_ok-rows.rows.items)
    (sym c.in_ok-copy.ensures) (sym c.in_ok-copy-2.ensures)
    (record {
      is_grid = made c;
      zones_by_name = subst (λ names. NumbersZones (zones_alone names) c.in_ok-numbers.numbers.entries) c.as_slice.ensures c.in_ok-numbers.ensures.numbers;
      neighbours_by_zone = c.in_ok-rows.ensures ∙ ap₂ (λ borders count. map (neighbours_of (borders_alone borders)) (range_with_len 0 count)) c.as_slice-4.ensures c.len-3.ensures;
    })

pub returns-clause-grid : goal.returns-clause-grid
returns-clause-grid c =
    subst₂ (λ names pairs. IsGrid (record { zones = names; borders = pairs })) (sym c.in_ok-copy.ensures) (sym c.in_ok-copy-2.ensures) (made c)

use Rattle.std.proofs.Common.{◌∙◌, Some, cond, refl, sym, ap}
use Rattle.std.specs.Map.{lookup}
use Rattle.zone_graph.specs.Grid.{same_name}
use Rattle.zone_graph.proofs.GridNames.{different_more, found_again, is_some-copied, numbered_more}
use Rattle.std.proofs.Common.{take, position}
use Rattle.zone_graph.proofs.grid_parts.zone_numbers.Goals as goal

pub returns-then-is_some-clause-twice : goal.returns-then-is_some-clause-twice
returns-then-is_some-clause-twice c = λ apart.
    let found = is_some-copied c.get.result (position (same_name c.index-names-zone.result) (take c.loop-zone.zone c.args.names.now)) _
    (sym c.is_some.ensures ∙ c.if-is_some.true) (c.get.ensures.value ∙ c.loop-zone.invariant.numbered c.index-names-zone.result) in
    (refl, found_again c.args.names.now c.loop-zone.zone c.index-names-zone.result c.loop-zone-test.true c.index-names-zone.is found)

pub loop-zone-preserved : goal.loop-zone-preserved
loop-zone-preserved c =
    let absent = is_some-copied c.get.result (position (same_name c.index-names-zone.result) (take c.loop-zone.zone c.args.names.now)) _
    (sym c.is_some.ensures ∙ c.if-is_some.false) (c.get.ensures.value ∙ c.loop-zone.invariant.numbered c.index-names-zone.result) in
    record {
      numbered = numbered_more c.args.names.now c.loop-zone.zone c.index-names-zone.result c.loop-zone-test.true c.index-names-zone.is
          c.loop-zone.numbers.entries c.insert.new.self.entries c.loop-zone.invariant.numbered absent
          (λ q. c.in_ok-insert.ensures.updates.0 q ∙ ap (λ key. cond (same_name key q) (Some c.loop-zone.zone) (lookup (same_name q) c.loop-zone.numbers.entries)) c.in_ok-copy.ensures);
      different = different_more c.args.names.now c.loop-zone.zone c.index-names-zone.result c.loop-zone-test.true c.index-names-zone.is
          c.loop-zone.invariant.different absent;
    }

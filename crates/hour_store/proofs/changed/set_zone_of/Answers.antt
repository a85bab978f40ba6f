use Rattle.std.proofs.Common.{◌≡◌, ◌||◌, ◌*◌, ◌^◌, ◌%◌, get_or, set, subst, sym}
use Rattle.std.specs.Int.RustNames.{bit_or}
use Rattle.cut_proof.specs.ZoneSet.{holds}
use Rattle.hour_store.specs.Changed.{stands_in, zones_of}
use Rattle.hour_store.proofs.Zones.{line_within, zone_set}
use Rattle.hour_store.proofs.changed.set_zone_of.Goals as goal

pub returns-then-order-lt-MOST_ZONES : goal.returns-then-order-lt-MOST_ZONES
returns-then-order-lt-MOST_ZONES c other side zone low small =
    subst (λ k. holds (zones_of (set c.args.lines.now k (bit_or (get_or c.args.lines.now k 0) (1 * 2 ^ c.args.order.zone % 2 ^ 64))) other side) zone
    ≡ (holds (zones_of c.args.lines.now other side) zone || stands_in other side zone c.args.part c.args.order)) (sym c.line_at.ensures)
    (zone_set c.args.lines.now c.args.part c.args.order (line_within c.args.lines.now c.args.part c.args.order.side c.requires c.if-part-lt7.true) c.if-order-lt-MOST_ZONES.true other side zone)

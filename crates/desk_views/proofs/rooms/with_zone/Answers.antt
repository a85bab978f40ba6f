use Rattle.hour_store.proofs.Zones.{bit_set}
use Rattle.desk_views.proofs.rooms.with_zone.Goals as goal

pub returns : goal.returns
returns c other = bit_set c.args.zones c.args.zone other c.requires

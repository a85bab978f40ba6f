use Rattle.std.proofs.Common.{false, refl}
use Rattle.std.proofs.lemmas.List.{get_or-replicate}
use Rattle.hour_store.proofs.changed.borders_of_changes.Goals as goal

pub loop-change-init : goal.loop-change-init
loop-change-init c = record { are = λ border low. get_or-replicate 128 border false false low; many = refl }

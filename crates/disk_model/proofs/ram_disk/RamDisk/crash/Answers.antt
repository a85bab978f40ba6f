use Rattle.std.proofs.Common.{◌≡◌, List, length, sym, ◌∙◌, ap, subst, arith, rules}
use Rattle.disk_model.specs.Contents.{IsImage, filled_image}
use Rattle.disk_model.specs.RamDisk.{RamState}
use Rattle.disk_model.specs.RamInside.{IsSound}
use Rattle.disk_model.proofs.Filling.{filled_is_image, filled_is_small}
use Rattle.disk_model.proofs.ram_disk.RamDisk.crash.Goals as goal

pub of-requires-clause-limit : goal.of-requires-clause-limit
of-requires-clause-limit c =
    let sound = subst (λ (v : RamState). IsSound v.now) c.self.view_is c.self.invariant.0.sound in
    let is : c.fill_spans.new.image.items ≡ filled_image c.args.fill c.args.self.now.now = search rules in
    omega (arith, ap length is, filled_is_small c.args.fill c.args.self.now.now sound)

pub returns-clause-image : goal.returns-clause-image
returns-clause-image c =
    let sound = subst (λ (v : RamState). IsSound v.now) c.self.view_is c.self.invariant.0.sound in
    let is : c.fill_spans.new.image.items ≡ filled_image c.args.fill c.args.self.now.now = search rules in
    subst (λ (image : List _). IsImage c.args.self.now.now image) (sym (ap (λ (v : RamState). v.now.bytes) c.of.ensures ∙ is))
    (filled_is_image c.args.fill c.args.self.now.now sound)

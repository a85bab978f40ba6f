use Rattle.std.proofs.Common.{◌≡◌, length, drop}
use Rattle.disk_model.specs.Contents.{filled}
use Rattle.disk_model.specs.RamInside.{BeginWithin}
use Rattle.disk_model.proofs.ram_disk.fill_spans.Given as goal

abbrev pub invariant-loop-span : goal.invariant-loop-span
invariant-loop-span l = record {
  begin : BeginWithin (length l.image.items) (drop l.span-index l.spans);
  rest : filled l.fill l.image.items (drop l.span-index l.spans) ≡ filled l.fill l.initial.image.items l.spans;
}

-- After a sync the contents are settled, and what was there before is past.
use Rattle.std.proofs.Common.{◌≡◌, ◌-◌, [], ◌∷◌, ◌++◌, length, Some, refl, ◌∙◌, ap, arith}
use Rattle.outside.specs.Faults.{raised}
use Rattle.disk_model.specs.declared.mark.Mark.TheVariants as mark
use Rattle.disk_model.specs.Contents.{Contents, settled}
use Rattle.disk_model.specs.RamDisk.{RamState}
use Rattle.disk_model.proofs.Kept.{kept_synced}
use Rattle.disk_model.proofs.Marks.{now_marked, marked_past}
use Rattle.disk_model.proofs.Time.{elapses_to}
use Rattle.disk_model.proofs.ram_disk.RamDiskDisk.sync.Goals as goal

pub invariant_of-self-2 : goal.invariant_of-self-2
invariant_of-self-2 c =
    let d = c.self.inside in
    let k = c.self.invariant in
    let is = now_marked (settled d.start.items) d.marks.items d.pieces.items k.0.lengths mark.Synced c.push_reserved.new.self.items c.push_reserved.ensures.items in (
      kept_synced _ _ _ _ _ _ _ k.0 c.clear.new.self.items is c.clear.ensures.items c.push_reserved.ensures.items,
      omega arith,
      omega arith,
      omega arith,
      omega arith,
    )

pub returns-clause-synced : goal.returns-clause-synced
returns-clause-synced c =
    let d = c.self.inside in
    let k = c.self.invariant in
    let is = now_marked (settled d.start.items) d.marks.items d.pieces.items k.0.lengths mark.Synced c.push_reserved.new.self.items c.push_reserved.ensures.items
    ∙ ap (λ (v : RamState). settled v.now.bytes) c.self.view_is in
    λ told tells.
    let same : c.args.self.now.now ≡ told = cc in
    ap (λ (s : Contents). Some s) (is ∙ ap (λ (s : Contents). settled s.bytes) same)

pub returns-clause-size : goal.returns-clause-size
returns-clause-size c =
    let d = c.self.inside in
    let k = c.self.invariant in
    let is = now_marked (settled d.start.items) d.marks.items d.pieces.items k.0.lengths mark.Synced c.push_reserved.new.self.items c.push_reserved.ensures.items
    ∙ ap (λ (v : RamState). settled v.now.bytes) c.self.view_is in
    ap (λ (s : Contents). length s.bytes) is

pub returns-clause-time : goal.returns-clause-time
returns-clause-time c =
    let d = c.self.inside in
    let k = c.self.invariant in
    let past = marked_past (settled d.start.items) d.marks.items d.pieces.items k.0.lengths mark.Synced c.push_reserved.new.self.items c.push_reserved.ensures.items
    ∙ ap (λ (v : RamState). v.past ++ v.now ∷ []) c.self.view_is in
    elapses_to c.args.self.now.past _ c.args.self.now.now _ _ past refl

pub returns-clause-after : goal.returns-clause-after
returns-clause-after c =
    let d = c.self.inside in
    let k = c.self.invariant in
    let is = now_marked (settled d.start.items) d.marks.items d.pieces.items k.0.lengths mark.Synced c.push_reserved.new.self.items c.push_reserved.ensures.items
    ∙ ap (λ (v : RamState). settled v.now.bytes) c.self.view_is in
    let past = marked_past (settled d.start.items) d.marks.items d.pieces.items k.0.lengths mark.Synced c.push_reserved.new.self.items c.push_reserved.ensures.items
    ∙ ap (λ (v : RamState). v.past ++ v.now ∷ []) c.self.view_is in
    let calls = c.saturating_add-self-inside.ensures ∙ ap (λ (v : RamState). raised v.calls) c.self.view_is in
    λ i. record {
      now = is i;
      past = past i;
      fails = (c.self.view_is i).fails;
      calls = calls i;
      faults = (c.self.view_is i).faults;
      spare_calls = (c.self.view_is i).spare_calls - 1;
      spare_bytes = (c.self.view_is i).spare_bytes;
    }

-- After a write the contents are those written, and what was there before is past.
use Rattle.std.proofs.Common.{◌≡◌, ◌+◌, ◌-◌, ◌≤◌, [], ◌∷◌, ◌++◌, length, take, drop, Some, refl, sym, ◌∙◌, ap, subst, arith}
use Rattle.outside.specs.Faults.{raised}
use Rattle.disk_model.specs.declared.mark.Mark.TheVariants as mark
use Rattle.disk_model.specs.Contents.{Contents, range, settled, written}
use Rattle.disk_model.specs.RamDisk.{RamState, with_pending}
use Rattle.disk_model.specs.RamInside.{contents_after}
use Rattle.disk_model.proofs.Kept.{kept_written, kept_failed}
use Rattle.disk_model.proofs.Marks.{now_written, now_marked, now_past, marked_past}
use Rattle.disk_model.proofs.Overwriting.{length-overwritten}
use Rattle.disk_model.proofs.Time.{elapses_to}
use Rattle.disk_model.proofs.ram_disk.RamDiskDisk.write_at.Goals as goal

pub invariant_of-self : goal.invariant_of-self
invariant_of-self c =
    let d = c.self.inside in
    let k = c.self.invariant in
    let begin : c.args.place ≤ length (contents_after (settled d.start.items) d.marks.items d.pieces.items).bytes =
    subst (λ (v : RamState). c.args.place ≤ length v.now.bytes) (sym c.self.view_is) c.requires.begin in
    let is = now_marked (settled d.start.items) d.marks.items d.pieces.items k.0.lengths (mark.Failed (range c.args.place (length c.args.piece.now))) c.push_reserved-then-contains.new.self.items c.push_reserved-then-contains.ensures.items in (
      kept_failed _ _ _ _ _ _ _ k.0 c.args.place (length c.args.piece.now) c.push_reserved.new.self.items is c.push_reserved.ensures.items c.push_reserved-then-contains.ensures.items begin c.requires.end,
      omega arith,
      omega arith,
      omega arith,
      omega arith,
    )

pub returns-then-contains-clause-torn : goal.returns-then-contains-clause-torn
returns-then-contains-clause-torn c =
    let d = c.self.inside in
    let k = c.self.invariant in
    let is = now_marked (settled d.start.items) d.marks.items d.pieces.items k.0.lengths (mark.Failed (range c.args.place (length c.args.piece.now))) c.push_reserved-then-contains.new.self.items c.push_reserved-then-contains.ensures.items
    ∙ ap (λ (v : RamState). with_pending v.now c.args.place (length c.args.piece.now)) c.self.view_is in
    λ told tells. (
      with_pending c.args.self.now.now c.args.place (length c.args.piece.now),
      ap (λ (s : Contents). Some s) is,
      let same : c.args.self.now.now ≡ told = cc in
          record {
            bytes = record {
              before = ap (λ (s : Contents). take c.args.place s.bytes) same;
              behind = ap (λ (s : Contents). drop (c.args.place + length c.args.piece.now) s.bytes) same;
              no_shorter = omega (arith, ap (λ (s : Contents). length s.bytes) same);
              no_longer = omega (arith, ap (λ (s : Contents). length s.bytes) same);
            };
            synced = ap (λ (s : Contents). s.synced) same;
            pending = ap (λ (s : Contents). s.pending ++ range c.args.place (length c.args.piece.now) ∷ []) same;
          },
    )

pub returns-then-contains-clause-kept_size : goal.returns-then-contains-clause-kept_size
returns-then-contains-clause-kept_size c =
    let d = c.self.inside in
    let k = c.self.invariant in
    let is = now_marked (settled d.start.items) d.marks.items d.pieces.items k.0.lengths (mark.Failed (range c.args.place (length c.args.piece.now))) c.push_reserved-then-contains.new.self.items c.push_reserved-then-contains.ensures.items
    ∙ ap (λ (v : RamState). with_pending v.now c.args.place (length c.args.piece.now)) c.self.view_is in
    omega (arith, ap (λ (s : Contents). length s.bytes) is)

pub returns-then-contains-clause-time : goal.returns-then-contains-clause-time
returns-then-contains-clause-time c =
    let d = c.self.inside in
    let k = c.self.invariant in
    let past = marked_past (settled d.start.items) d.marks.items d.pieces.items k.0.lengths (mark.Failed (range c.args.place (length c.args.piece.now))) c.push_reserved-then-contains.new.self.items c.push_reserved-then-contains.ensures.items
    ∙ ap (λ (v : RamState). v.past ++ v.now ∷ []) c.self.view_is in
    elapses_to c.args.self.now.past _ c.args.self.now.now _ _ past refl

pub returns-then-contains-clause-after : goal.returns-then-contains-clause-after
returns-then-contains-clause-after c =
    let d = c.self.inside in
    let k = c.self.invariant in
    let is = now_marked (settled d.start.items) d.marks.items d.pieces.items k.0.lengths (mark.Failed (range c.args.place (length c.args.piece.now))) c.push_reserved-then-contains.new.self.items c.push_reserved-then-contains.ensures.items
    ∙ ap (λ (v : RamState). with_pending v.now c.args.place (length c.args.piece.now)) c.self.view_is in
    let past = marked_past (settled d.start.items) d.marks.items d.pieces.items k.0.lengths (mark.Failed (range c.args.place (length c.args.piece.now))) c.push_reserved-then-contains.new.self.items c.push_reserved-then-contains.ensures.items
    ∙ ap (λ (v : RamState). v.past ++ v.now ∷ []) c.self.view_is in
    let calls = c.saturating_add-self-inside.ensures ∙ ap (λ (v : RamState). raised v.calls) c.self.view_is in
    let faults = c.saturating_add-self-inside-then-contains.ensures ∙ ap (λ (v : RamState). raised v.faults) c.self.view_is in
    λ i. record {
      now = is i;
      past = past i;
      fails = (c.self.view_is i).fails;
      calls = calls i;
      faults = faults i;
      spare_calls = (c.self.view_is i).spare_calls - 1;
      spare_bytes = (c.self.view_is i).spare_bytes - length c.args.piece.now;
    }

pub invariant_of-self-2 : goal.invariant_of-self-2
invariant_of-self-2 c =
    let d = c.self.inside in
    let k = c.self.invariant in
    let begin : c.args.place ≤ length (contents_after (settled d.start.items) d.marks.items d.pieces.items).bytes =
    subst (λ (v : RamState). c.args.place ≤ length v.now.bytes) (sym c.self.view_is) c.requires.begin in
    let is = now_written (settled d.start.items) d.marks.items d.pieces.items k.0.lengths c.args.place c.args.piece.now c.push_reserved-2.new.self.items c.put_behind.new.bytes.items c.push_reserved-2.ensures.items c.put_behind.ensures.items in (
      kept_written _ _ _ _ _ _ _ k.0 c.args.place c.args.piece.now c.put_at.new.bytes.items c.push_reserved.new.self.items c.put_behind.new.bytes.items is c.put_at.ensures.items c.push_reserved.ensures.items c.push_reserved-2.ensures.items c.put_behind.ensures.items begin c.requires.end,
      omega arith,
      omega arith,
      omega arith,
      omega arith,
    )

pub returns-clause-written : goal.returns-clause-written
returns-clause-written c =
    let d = c.self.inside in
    let k = c.self.invariant in
    let is = now_written (settled d.start.items) d.marks.items d.pieces.items k.0.lengths c.args.place c.args.piece.now c.push_reserved-2.new.self.items c.put_behind.new.bytes.items c.push_reserved-2.ensures.items c.put_behind.ensures.items
    ∙ ap (λ (v : RamState). written v.now c.args.place c.args.piece.now) c.self.view_is in
    λ told tells.
    let same : c.args.self.now.now ≡ told = cc in
    ap (λ (s : Contents). Some s) (is ∙ ap (λ (s : Contents). written s c.args.place c.args.piece.now) same)

pub returns-clause-kept_size : goal.returns-clause-kept_size
returns-clause-kept_size c =
    let d = c.self.inside in
    let k = c.self.invariant in
    let is = now_written (settled d.start.items) d.marks.items d.pieces.items k.0.lengths c.args.place c.args.piece.now c.push_reserved-2.new.self.items c.put_behind.new.bytes.items c.push_reserved-2.ensures.items c.put_behind.ensures.items
    ∙ ap (λ (v : RamState). written v.now c.args.place c.args.piece.now) c.self.view_is in
    omega (arith, ap (λ (s : Contents). length s.bytes) is, length-overwritten c.args.self.now.now.bytes c.args.piece.now c.args.place c.requires.begin)

pub returns-clause-reached : goal.returns-clause-reached
returns-clause-reached c =
    let d = c.self.inside in
    let k = c.self.invariant in
    let is = now_written (settled d.start.items) d.marks.items d.pieces.items k.0.lengths c.args.place c.args.piece.now c.push_reserved-2.new.self.items c.put_behind.new.bytes.items c.push_reserved-2.ensures.items c.put_behind.ensures.items
    ∙ ap (λ (v : RamState). written v.now c.args.place c.args.piece.now) c.self.view_is in
    omega (arith, ap (λ (s : Contents). length s.bytes) is, length-overwritten c.args.self.now.now.bytes c.args.piece.now c.args.place c.requires.begin)

pub returns-clause-time : goal.returns-clause-time
returns-clause-time c =
    let d = c.self.inside in
    let k = c.self.invariant in
    let past = now_past (settled d.start.items) d.marks.items d.pieces.items k.0.lengths (mark.Written (range c.args.place (length c.args.piece.now))) c.args.piece.now c.push_reserved-2.new.self.items c.put_behind.new.bytes.items c.push_reserved-2.ensures.items c.put_behind.ensures.items
    ∙ ap (λ (v : RamState). v.past ++ v.now ∷ []) c.self.view_is in
    elapses_to c.args.self.now.past _ c.args.self.now.now _ _ past refl

pub returns-clause-after : goal.returns-clause-after
returns-clause-after c =
    let d = c.self.inside in
    let k = c.self.invariant in
    let is = now_written (settled d.start.items) d.marks.items d.pieces.items k.0.lengths c.args.place c.args.piece.now c.push_reserved-2.new.self.items c.put_behind.new.bytes.items c.push_reserved-2.ensures.items c.put_behind.ensures.items
    ∙ ap (λ (v : RamState). written v.now c.args.place c.args.piece.now) c.self.view_is in
    let past = now_past (settled d.start.items) d.marks.items d.pieces.items k.0.lengths (mark.Written (range c.args.place (length c.args.piece.now))) c.args.piece.now c.push_reserved-2.new.self.items c.put_behind.new.bytes.items c.push_reserved-2.ensures.items c.put_behind.ensures.items
    ∙ ap (λ (v : RamState). v.past ++ v.now ∷ []) c.self.view_is in
    let calls = c.saturating_add-self-inside.ensures ∙ ap (λ (v : RamState). raised v.calls) c.self.view_is in
    λ i. record {
      now = is i;
      past = past i;
      fails = (c.self.view_is i).fails;
      calls = calls i;
      faults = (c.self.view_is i).faults;
      spare_calls = (c.self.view_is i).spare_calls - 1;
      spare_bytes = (c.self.view_is i).spare_bytes - length c.args.piece.now;
    }

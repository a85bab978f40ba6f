-- A crash leaves the lines from before the call, or these and the new one, at each of its moments.
use Rattle.std.proofs.Common.{◌≡◌, inl, inr, None, Some, ℕ, ◌+◌, ◌≤◌, List, refl, [], ◌∷◌, ◌++◌, length, ◌∙◌, ap, arith, length-append}
use Rattle.disk_model.specs.Contents.{settled, written, overwritten}
use Rattle.disk_model.proofs.Moments.{started, goes_on}
use Rattle.durable_journal.specs.Stored.{EndsAt, behind_gate, blocks, image_of}
use Rattle.durable_journal.specs.Resting.{HoldsLines}
use Rattle.durable_journal.specs.Appending.{StoresOldOrNew}
use Rattle.durable_journal.proofs.Blocks.{length-behind_gate}
use Rattle.durable_journal.proofs.Gates.{opened_image}
use Rattle.durable_journal.proofs.Steps.{told_or_not, before_leaves, line_written, line_failed, line_synced, with_line, gate_written, gate_failed, gate_synced, gate_holds}
use Rattle.durable_journal.proofs.appending.store.Goals as goal

pub write_at-requires-clause-end : goal.write_at-requires-clause-end
write_at-requires-clause-end g c =
    omega (arith, c.requires.small, ap length c.requires.piece, length-append (behind_gate c.args.line.now) (0 ∷ []), length-behind_gate c.args.line.now)

pub write_at-requires-clause-room_for_bytes : goal.write_at-requires-clause-room_for_bytes
write_at-requires-clause-room_for_bytes g c =
    omega (arith, c.requires.bytes, ap length c.requires.piece, length-append (behind_gate c.args.line.now) (0 ∷ []), length-behind_gate c.args.line.now)

pub write_at-requires-2-clause-room_for_bytes : goal.write_at-requires-2-clause-room_for_bytes
write_at-requires-2-clause-room_for_bytes g c =
    omega (arith, c.requires.bytes, c.write_at.ensures.bytes, c.sync.ensures.bytes, ap length c.requires.piece, length-append (behind_gate c.args.line.now) (0 ∷ []), length-behind_gate c.args.line.now)

pub returns-in_err-write_at-clause-any_moment : goal.returns-in_err-write_at-clause-any_moment
returns-in_err-write_at-clause-any_moment g c = λ lines holds.
    let P = StoresOldOrNew lines c.args.line.now in
    let begun = started g.D.Disk.moment g.D.Disk.left_since c.args.disk.now P (λ image left. before_leaves (g.D.Disk.contents c.args.disk.now) lines c.args.line.now c.args.piece.now c.args.place c.requires.line c.requires.piece holds image (g.met.D.Disk.only_now c.args.disk.now image left)) in
    let failed = c.in_err-write_at.ensures.torn (settled holds.bytes) holds.told in
    goes_on g.D.Disk.moment g.D.Disk.left_since c.args.disk.now c.args.disk.now c.write_at.new.self P (g.D.Disk.contents c.write_at.new.self) begun c.write_at.ensures.time (line_failed (g.D.Disk.contents c.args.disk.now) lines c.args.line.now c.args.piece.now c.args.place c.requires.line c.requires.piece holds (g.D.Disk.contents c.write_at.new.self) failed)

pub returns-in_err-sync-clause-any_moment : goal.returns-in_err-sync-clause-any_moment
returns-in_err-sync-clause-any_moment g c = λ lines holds.
    let P = StoresOldOrNew lines c.args.line.now in
    let begun = started g.D.Disk.moment g.D.Disk.left_since c.args.disk.now P (λ image left. before_leaves (g.D.Disk.contents c.args.disk.now) lines c.args.line.now c.args.piece.now c.args.place c.requires.line c.requires.piece holds image (g.met.D.Disk.only_now c.args.disk.now image left)) in
    let told_line = c.in_ok-write_at.ensures.written (settled holds.bytes) holds.told in
    let written_line = goes_on g.D.Disk.moment g.D.Disk.left_since c.args.disk.now c.args.disk.now c.write_at.new.self P (g.D.Disk.contents c.write_at.new.self) begun c.write_at.ensures.time (line_written (g.D.Disk.contents c.args.disk.now) lines c.args.line.now c.args.piece.now c.args.place c.requires.line c.requires.piece holds (g.D.Disk.contents c.write_at.new.self) told_line) in
    goes_on g.D.Disk.moment g.D.Disk.left_since c.args.disk.now c.write_at.new.self c.sync.new.self P (g.D.Disk.contents c.sync.new.self) written_line c.sync.ensures.time (line_written (g.D.Disk.contents c.args.disk.now) lines c.args.line.now c.args.piece.now c.args.place c.requires.line c.requires.piece holds (g.D.Disk.contents c.sync.new.self) (c.in_err-sync.ensures.err ∙ told_line))

pub returns-in_err-write_at-2-clause-any_moment : goal.returns-in_err-write_at-2-clause-any_moment
returns-in_err-write_at-2-clause-any_moment g c = λ lines holds.
    let P = StoresOldOrNew lines c.args.line.now in
    let begun = started g.D.Disk.moment g.D.Disk.left_since c.args.disk.now P (λ image left. before_leaves (g.D.Disk.contents c.args.disk.now) lines c.args.line.now c.args.piece.now c.args.place c.requires.line c.requires.piece holds image (g.met.D.Disk.only_now c.args.disk.now image left)) in
    let told_line = c.in_ok-write_at.ensures.written (settled holds.bytes) holds.told in
    let written_line = goes_on g.D.Disk.moment g.D.Disk.left_since c.args.disk.now c.args.disk.now c.write_at.new.self P (g.D.Disk.contents c.write_at.new.self) begun c.write_at.ensures.time (line_written (g.D.Disk.contents c.args.disk.now) lines c.args.line.now c.args.piece.now c.args.place c.requires.line c.requires.piece holds (g.D.Disk.contents c.write_at.new.self) told_line) in
    let told_synced = c.in_ok-sync.ensures.synced (written (settled holds.bytes) (c.args.place + 1) c.args.piece.now) told_line in
    let synced_line = goes_on g.D.Disk.moment g.D.Disk.left_since c.args.disk.now c.write_at.new.self c.sync.new.self P (g.D.Disk.contents c.sync.new.self) written_line c.sync.ensures.time (line_synced (g.D.Disk.contents c.args.disk.now) lines c.args.line.now c.args.piece.now c.args.place c.requires.line c.requires.piece holds (g.D.Disk.contents c.sync.new.self) told_synced) in
    let failed = c.in_err-write_at-2.ensures.torn (settled (with_line (g.D.Disk.contents c.args.disk.now) lines c.args.line.now c.args.piece.now c.args.place c.requires.line c.requires.piece holds)) told_synced in
    goes_on g.D.Disk.moment g.D.Disk.left_since c.args.disk.now c.sync.new.self c.write_at-2.new.self P (g.D.Disk.contents c.write_at-2.new.self) synced_line c.write_at-2.ensures.time (gate_failed (g.D.Disk.contents c.args.disk.now) lines c.args.line.now c.args.piece.now c.args.place c.requires.line c.requires.piece holds (g.D.Disk.contents c.write_at-2.new.self) failed)

pub returns-in_err-sync-2-clause-any_moment : goal.returns-in_err-sync-2-clause-any_moment
returns-in_err-sync-2-clause-any_moment g c = λ lines holds.
    let P = StoresOldOrNew lines c.args.line.now in
    let begun = started g.D.Disk.moment g.D.Disk.left_since c.args.disk.now P (λ image left. before_leaves (g.D.Disk.contents c.args.disk.now) lines c.args.line.now c.args.piece.now c.args.place c.requires.line c.requires.piece holds image (g.met.D.Disk.only_now c.args.disk.now image left)) in
    let told_line = c.in_ok-write_at.ensures.written (settled holds.bytes) holds.told in
    let written_line = goes_on g.D.Disk.moment g.D.Disk.left_since c.args.disk.now c.args.disk.now c.write_at.new.self P (g.D.Disk.contents c.write_at.new.self) begun c.write_at.ensures.time (line_written (g.D.Disk.contents c.args.disk.now) lines c.args.line.now c.args.piece.now c.args.place c.requires.line c.requires.piece holds (g.D.Disk.contents c.write_at.new.self) told_line) in
    let told_synced = c.in_ok-sync.ensures.synced (written (settled holds.bytes) (c.args.place + 1) c.args.piece.now) told_line in
    let synced_line = goes_on g.D.Disk.moment g.D.Disk.left_since c.args.disk.now c.write_at.new.self c.sync.new.self P (g.D.Disk.contents c.sync.new.self) written_line c.sync.ensures.time (line_synced (g.D.Disk.contents c.args.disk.now) lines c.args.line.now c.args.piece.now c.args.place c.requires.line c.requires.piece holds (g.D.Disk.contents c.sync.new.self) told_synced) in
    let told_gate = c.in_ok-write_at-2.ensures.written (settled (with_line (g.D.Disk.contents c.args.disk.now) lines c.args.line.now c.args.piece.now c.args.place c.requires.line c.requires.piece holds)) told_synced in
    let written_gate = goes_on g.D.Disk.moment g.D.Disk.left_since c.args.disk.now c.sync.new.self c.write_at-2.new.self P (g.D.Disk.contents c.write_at-2.new.self) synced_line c.write_at-2.ensures.time (gate_written (g.D.Disk.contents c.args.disk.now) lines c.args.line.now c.args.piece.now c.args.place c.requires.line c.requires.piece holds (g.D.Disk.contents c.write_at-2.new.self) told_gate) in
    goes_on g.D.Disk.moment g.D.Disk.left_since c.args.disk.now c.write_at-2.new.self c.sync-2.new.self P (g.D.Disk.contents c.sync-2.new.self) written_gate c.sync-2.ensures.time (gate_written (g.D.Disk.contents c.args.disk.now) lines c.args.line.now c.args.piece.now c.args.place c.requires.line c.requires.piece holds (g.D.Disk.contents c.sync-2.new.self) (c.in_err-sync-2.ensures.err ∙ told_gate))

pub returns-clause-any_moment : goal.returns-clause-any_moment
returns-clause-any_moment g c = λ lines holds.
    let P = StoresOldOrNew lines c.args.line.now in
    let begun = started g.D.Disk.moment g.D.Disk.left_since c.args.disk.now P (λ image left. before_leaves (g.D.Disk.contents c.args.disk.now) lines c.args.line.now c.args.piece.now c.args.place c.requires.line c.requires.piece holds image (g.met.D.Disk.only_now c.args.disk.now image left)) in
    let told_line = c.in_ok-write_at.ensures.written (settled holds.bytes) holds.told in
    let written_line = goes_on g.D.Disk.moment g.D.Disk.left_since c.args.disk.now c.args.disk.now c.write_at.new.self P (g.D.Disk.contents c.write_at.new.self) begun c.write_at.ensures.time (line_written (g.D.Disk.contents c.args.disk.now) lines c.args.line.now c.args.piece.now c.args.place c.requires.line c.requires.piece holds (g.D.Disk.contents c.write_at.new.self) told_line) in
    let told_synced = c.in_ok-sync.ensures.synced (written (settled holds.bytes) (c.args.place + 1) c.args.piece.now) told_line in
    let synced_line = goes_on g.D.Disk.moment g.D.Disk.left_since c.args.disk.now c.write_at.new.self c.sync.new.self P (g.D.Disk.contents c.sync.new.self) written_line c.sync.ensures.time (line_synced (g.D.Disk.contents c.args.disk.now) lines c.args.line.now c.args.piece.now c.args.place c.requires.line c.requires.piece holds (g.D.Disk.contents c.sync.new.self) told_synced) in
    let told_gate = c.in_ok-write_at-2.ensures.written (settled (with_line (g.D.Disk.contents c.args.disk.now) lines c.args.line.now c.args.piece.now c.args.place c.requires.line c.requires.piece holds)) told_synced in
    let written_gate = goes_on g.D.Disk.moment g.D.Disk.left_since c.args.disk.now c.sync.new.self c.write_at-2.new.self P (g.D.Disk.contents c.write_at-2.new.self) synced_line c.write_at-2.ensures.time (gate_written (g.D.Disk.contents c.args.disk.now) lines c.args.line.now c.args.piece.now c.args.place c.requires.line c.requires.piece holds (g.D.Disk.contents c.write_at-2.new.self) told_gate) in
    let told_open = c.in_ok-sync-2.ensures.synced (written (settled (with_line (g.D.Disk.contents c.args.disk.now) lines c.args.line.now c.args.piece.now c.args.place c.requires.line c.requires.piece holds)) c.args.place (1 ∷ [])) told_gate in
    goes_on g.D.Disk.moment g.D.Disk.left_since c.args.disk.now c.write_at-2.new.self c.sync-2.new.self P (g.D.Disk.contents c.sync-2.new.self) written_gate c.sync-2.ensures.time (gate_synced (g.D.Disk.contents c.args.disk.now) lines c.args.line.now c.args.piece.now c.args.place c.requires.line c.requires.piece holds (g.D.Disk.contents c.sync-2.new.self) told_open)

pub returns-clause-added : goal.returns-clause-added
returns-clause-added g c = λ lines holds.
    let told_line = c.in_ok-write_at.ensures.written (settled holds.bytes) holds.told in
    let told_synced = c.in_ok-sync.ensures.synced (written (settled holds.bytes) (c.args.place + 1) c.args.piece.now) told_line in
    let told_gate = c.in_ok-write_at-2.ensures.written (settled (with_line (g.D.Disk.contents c.args.disk.now) lines c.args.line.now c.args.piece.now c.args.place c.requires.line c.requires.piece holds)) told_synced in
    let told_open = c.in_ok-sync-2.ensures.synced (written (settled (with_line (g.D.Disk.contents c.args.disk.now) lines c.args.line.now c.args.piece.now c.args.place c.requires.line c.requires.piece holds)) c.args.place (1 ∷ [])) told_gate in
    gate_holds (g.D.Disk.contents c.args.disk.now) lines c.args.line.now c.args.piece.now c.args.place c.requires.line c.requires.piece holds (g.D.Disk.contents c.sync-2.new.self) told_open

-- where the disk held the image of the lines alone, it holds that of these and the new one
pub returns-clause-image : goal.returns-clause-image
returns-clause-image g c = λ lines is each end.
    let ends : EndsAt (image_of lines) lines c.args.place = record { each = each; gate = 0; behind = []; whole = refl; shut = omega arith; end = end } in
    let holds : HoldsLines (g.D.Disk.contents c.args.disk.now) lines c.args.place = record { bytes = image_of lines; told = is; ends = ends } in
    let last : length (image_of lines) ≤ c.args.place + 1 = omega (arith, end, length-append (blocks lines) (0 ∷ [])) in
    let told_line = c.in_ok-write_at.ensures.written (settled (image_of lines)) is in
    let told_synced = c.in_ok-sync.ensures.synced (written (settled (image_of lines)) (c.args.place + 1) c.args.piece.now) told_line in
    let told_gate = c.in_ok-write_at-2.ensures.written (settled (overwritten (image_of lines) (c.args.place + 1) c.args.piece.now)) told_synced in
    let told_open = c.in_ok-sync-2.ensures.synced (written (settled (overwritten (image_of lines) (c.args.place + 1) c.args.piece.now)) c.args.place (1 ∷ [])) told_gate in
    told_open ∙ ap (λ (l : List ℕ). Some (settled l)) (opened_image (image_of lines) lines c.args.place ends c.args.line.now c.args.piece.now c.requires.line c.requires.piece last)

pub returns-clause-rest : goal.returns-clause-rest
returns-clause-rest g c = record {
  within = omega (arith, c.in_ok-write_at.ensures.reached, c.sync.ensures.size, c.write_at-2.ensures.kept_size, c.sync-2.ensures.size, ap length c.requires.piece, length-append (behind_gate c.args.line.now) (0 ∷ []), length-behind_gate c.args.line.now);
  holds = λ told tells. elim (told_or_not (g.D.Disk.contents c.args.disk.now)) [
    | inl silent ↦
        let none : g.D.Disk.contents c.sync-2.new.self ≡ None = c.sync-2.ensures.silent (c.write_at-2.ensures.silent (c.sync.ensures.silent (c.write_at.ensures.silent silent))) in
        absurd (cc (none, tells))
    | inr old ↦
        let holds = c.requires.rest.holds old.0 old.1 in
        (holds.0 ++ c.args.line.now ∷ [], returns-clause-added g c holds.0 holds.1)
  ];
}

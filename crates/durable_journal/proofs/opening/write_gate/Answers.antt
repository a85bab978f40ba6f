-- A crash leaves no line, at each moment of the call.
use Rattle.std.proofs.Common.{◌≡◌, inl, inr, None, Some, ℕ, List, [], ◌∷◌, ◌∙◌, ap, arith}
use Rattle.disk_model.specs.Contents.{Contents, settled, written}
use Rattle.disk_model.proofs.Moments.{started, goes_on}
use Rattle.durable_journal.specs.Stored.{StoresLines}
use Rattle.durable_journal.proofs.Steps.{told_or_not, short_leaves, gating_written, gating_failed, gated_holds, gated_leaves}
use Rattle.durable_journal.proofs.opening.write_gate.Goals as goal

pub returns-in_err-write_at-clause-any_moment : goal.returns-in_err-write_at-clause-any_moment
returns-in_err-write_at-clause-any_moment g c = λ told tells.
    let P : List ℕ → Type 0 = λ image. StoresLines image [] in
    let old = c.requires.short told tells in
    let is = tells ∙ ap (λ (s : Contents). Some s) old.0 in
    let begun = started g.D.Disk.moment g.D.Disk.left_since c.args.disk.now P (λ image left. short_leaves told.bytes old.1 (g.D.Disk.contents c.args.disk.now) is image (g.met.D.Disk.only_now c.args.disk.now image left)) in
    let failed = c.in_err-write_at.ensures.torn (settled told.bytes) is in
    goes_on g.D.Disk.moment g.D.Disk.left_since c.args.disk.now c.args.disk.now c.write_at.new.self P (g.D.Disk.contents c.write_at.new.self) begun c.write_at.ensures.time (gating_failed told.bytes old.1 (g.D.Disk.contents c.write_at.new.self) failed)

pub returns-in_err-sync-clause-any_moment : goal.returns-in_err-sync-clause-any_moment
returns-in_err-sync-clause-any_moment g c = λ told tells.
    let P : List ℕ → Type 0 = λ image. StoresLines image [] in
    let old = c.requires.short told tells in
    let is = tells ∙ ap (λ (s : Contents). Some s) old.0 in
    let begun = started g.D.Disk.moment g.D.Disk.left_since c.args.disk.now P (λ image left. short_leaves told.bytes old.1 (g.D.Disk.contents c.args.disk.now) is image (g.met.D.Disk.only_now c.args.disk.now image left)) in
    let told_gate = c.in_ok-write_at.ensures.written (settled told.bytes) is in
    let written_gate = goes_on g.D.Disk.moment g.D.Disk.left_since c.args.disk.now c.args.disk.now c.write_at.new.self P (g.D.Disk.contents c.write_at.new.self) begun c.write_at.ensures.time (gating_written told.bytes old.1 (g.D.Disk.contents c.write_at.new.self) told_gate) in
    goes_on g.D.Disk.moment g.D.Disk.left_since c.args.disk.now c.write_at.new.self c.sync.new.self P (g.D.Disk.contents c.sync.new.self) written_gate c.sync.ensures.time (gating_written told.bytes old.1 (g.D.Disk.contents c.sync.new.self) (c.in_err-sync.ensures.err ∙ told_gate))

pub returns-clause-any_moment : goal.returns-clause-any_moment
returns-clause-any_moment g c = λ told tells.
    let P : List ℕ → Type 0 = λ image. StoresLines image [] in
    let old = c.requires.short told tells in
    let is = tells ∙ ap (λ (s : Contents). Some s) old.0 in
    let begun = started g.D.Disk.moment g.D.Disk.left_since c.args.disk.now P (λ image left. short_leaves told.bytes old.1 (g.D.Disk.contents c.args.disk.now) is image (g.met.D.Disk.only_now c.args.disk.now image left)) in
    let told_gate = c.in_ok-write_at.ensures.written (settled told.bytes) is in
    let written_gate = goes_on g.D.Disk.moment g.D.Disk.left_since c.args.disk.now c.args.disk.now c.write_at.new.self P (g.D.Disk.contents c.write_at.new.self) begun c.write_at.ensures.time (gating_written told.bytes old.1 (g.D.Disk.contents c.write_at.new.self) told_gate) in
    let told_synced = c.in_ok-sync.ensures.synced (written (settled told.bytes) 0 (0 ∷ [])) told_gate in
    goes_on g.D.Disk.moment g.D.Disk.left_since c.args.disk.now c.write_at.new.self c.sync.new.self P (g.D.Disk.contents c.sync.new.self) written_gate c.sync.ensures.time (gated_leaves told.bytes old.1 (g.D.Disk.contents c.sync.new.self) told_synced)

pub returns-clause-holds : goal.returns-clause-holds
returns-clause-holds g c = λ told tells.
    let old = c.requires.short told tells in
    let is = tells ∙ ap (λ (s : Contents). Some s) old.0 in
    let told_gate = c.in_ok-write_at.ensures.written (settled told.bytes) is in
    let told_synced = c.in_ok-sync.ensures.synced (written (settled told.bytes) 0 (0 ∷ [])) told_gate in
    gated_holds told.bytes old.1 (g.D.Disk.contents c.sync.new.self) told_synced

pub returns-clause-rest : goal.returns-clause-rest
returns-clause-rest g c = record {
  within = omega (arith, c.in_ok-write_at.ensures.reached, c.sync.ensures.size);
  holds = λ told tells. elim (told_or_not (g.D.Disk.contents c.args.disk.now)) [
    | inl silent ↦
        let none : g.D.Disk.contents c.sync.new.self ≡ None = c.sync.ensures.silent (c.write_at.ensures.silent silent) in
        absurd (cc (none, tells))
    | inr old ↦ ([], returns-clause-holds g c old.0 old.1)
  ];
}

pub returns-clause-empty : goal.returns-clause-empty
returns-clause-empty g c = λ is. c.in_ok-sync.ensures.synced (written (settled []) 0 (0 ∷ [])) (c.in_ok-write_at.ensures.written (settled []) is)

-- A crash leaves the lines that the one image stored, at each moment of the call.
use Rattle.std.proofs.Common.{◌≡◌, Some, ℕ, ◌≤◌, List, [], length, sym, ◌∙◌, ap, subst, arith}
use Rattle.disk_model.specs.Contents.{settled}
use Rattle.disk_model.specs.Moments.{LeavesOnly}
use Rattle.disk_model.proofs.Moments.{started, goes_on, runs_on, leaves_more}
use Rattle.durable_journal.specs.Stored.{StoresLines}
use Rattle.durable_journal.proofs.Parsing.{short_stores_none}
use Rattle.durable_journal.proofs.Steps.{always_ok, settled_leaves}
use Rattle.durable_journal.proofs.opening.open_image.Given.{Over}
use Rattle.durable_journal.proofs.opening.open_image.Goals as goal
use Rattle.durable_journal.proofs.opening.open_image.Goals.{After-read_image, After-reserve, After-write_gate}

-- once there is room
reserved : (g : Over) (c : After-reserve g) (bytes : List ℕ) (lines : List (List ℕ)) → g.D.Disk.contents c.args.disk.now ≡ Some (settled bytes) → StoresLines bytes lines
    → LeavesOnly g.D.Disk.moment g.D.Disk.left_since c.args.disk.now c.reserve.new.self (λ image. StoresLines image lines)
reserved g c bytes lines tells stores =
    let P : List ℕ → Type 0 = λ image. StoresLines image lines in
    let begun = started g.D.Disk.moment g.D.Disk.left_since c.args.disk.now P (λ image left. settled_leaves bytes lines stores (g.D.Disk.contents c.args.disk.now) tells image (g.met.D.Disk.only_now c.args.disk.now image left)) in
    goes_on g.D.Disk.moment g.D.Disk.left_since c.args.disk.now c.args.disk.now c.reserve.new.self P (g.D.Disk.contents c.reserve.new.self) begun c.reserve.ensures.time (settled_leaves bytes lines stores (g.D.Disk.contents c.reserve.new.self) (c.reserve.ensures.contents ∙ tells))

-- and once the image is read
read : (g : Over) (c : After-read_image g) (bytes : List ℕ) (lines : List (List ℕ)) → g.D.Disk.contents c.args.disk.now ≡ Some (settled bytes) → StoresLines bytes lines
    → LeavesOnly g.D.Disk.moment g.D.Disk.left_since c.args.disk.now c.reserve.new.self (λ image. StoresLines image lines)
    → LeavesOnly g.D.Disk.moment g.D.Disk.left_since c.args.disk.now c.read_image.new.disk (λ image. StoresLines image lines)
read g c bytes lines tells stores room =
    let P : List ℕ → Type 0 = λ image. StoresLines image lines in
    let told_sync = c.in_ok-sync.ensures.synced (settled bytes) (c.reserve.ensures.contents ∙ tells) in
    let synced = goes_on g.D.Disk.moment g.D.Disk.left_since c.args.disk.now c.reserve.new.self c.sync.new.self P (g.D.Disk.contents c.sync.new.self) room c.sync.ensures.time (settled_leaves bytes lines stores (g.D.Disk.contents c.sync.new.self) told_sync) in
    goes_on g.D.Disk.moment g.D.Disk.left_since c.args.disk.now c.sync.new.self c.read_image.new.disk P (g.D.Disk.contents c.read_image.new.disk) synced c.read_image.ensures.time (settled_leaves bytes lines stores (g.D.Disk.contents c.read_image.new.disk) (c.read_image.ensures.contents ∙ told_sync))

-- and once the gate is written
gated : (g : Over) (c : After-write_gate g) (bytes : List ℕ) (lines : List (List ℕ)) → g.D.Disk.contents c.args.disk.now ≡ Some (settled bytes) → StoresLines bytes lines
    → LeavesOnly g.D.Disk.moment g.D.Disk.left_since c.args.disk.now c.read_image.new.disk (λ image. StoresLines image lines)
    → LeavesOnly g.D.Disk.moment g.D.Disk.left_since c.args.disk.now c.write_gate.new.disk (λ image. StoresLines image lines)
gated g c bytes lines tells stores before =
    let told_sync = c.in_ok-sync.ensures.synced (settled bytes) (c.reserve.ensures.contents ∙ tells) in
    let same = c.in_ok-image.ensures.told (settled bytes) told_sync in
    let short : length bytes ≤ 1 = omega (arith, ap length same, c.len.ensures, c.in_ok-image.image.ok.0, c.if-len-gt1.false) in
    let more : (image : List ℕ) → StoresLines image [] → StoresLines image lines = λ image is. subst (λ (l : List (List ℕ)). StoresLines image l) (sym (short_stores_none bytes lines short stores)) is in
    runs_on g.D.Disk.moment g.D.Disk.left_since c.args.disk.now c.read_image.new.disk c.write_gate.new.disk (λ image. StoresLines image lines) before
    (leaves_more g.D.Disk.moment g.D.Disk.left_since c.read_image.new.disk c.write_gate.new.disk (λ image. StoresLines image []) (λ image. StoresLines image lines) more
    (c.write_gate.ensures.any_moment (settled bytes) (c.read_image.ensures.contents ∙ told_sync)))

pub returns-in_err-sync-clause-any_moment : goal.returns-in_err-sync-clause-any_moment
returns-in_err-sync-clause-any_moment g c = λ bytes lines tells stores.
    goes_on g.D.Disk.moment g.D.Disk.left_since c.args.disk.now c.reserve.new.self c.sync.new.self (λ image. StoresLines image lines) (g.D.Disk.contents c.sync.new.self)
    (reserved g (goal.at.returns-in_err-sync-clause-any_moment g c).After-reserve bytes lines tells stores) c.sync.ensures.time
    (settled_leaves bytes lines stores (g.D.Disk.contents c.sync.new.self) (c.in_err-sync.ensures.err ∙ c.reserve.ensures.contents ∙ tells))

pub returns-in_err-image-clause-any_moment : goal.returns-in_err-image-clause-any_moment
returns-in_err-image-clause-any_moment g c = λ bytes lines tells stores.
    let at = goal.at.returns-in_err-image-clause-any_moment g c in
    read g at.After-read_image bytes lines tells stores (reserved g at.After-reserve bytes lines tells stores)

pub returns-then-len-gt1-clause-any_moment : goal.returns-then-len-gt1-clause-any_moment
returns-then-len-gt1-clause-any_moment g c = λ bytes lines tells stores.
    let at = goal.at.returns-then-len-gt1-clause-any_moment g c in
    read g at.After-read_image bytes lines tells stores (reserved g at.After-reserve bytes lines tells stores)

pub returns-in_err-write_gate-clause-any_moment : goal.returns-in_err-write_gate-clause-any_moment
returns-in_err-write_gate-clause-any_moment g c = λ bytes lines tells stores.
    let at = goal.at.returns-in_err-write_gate-clause-any_moment g c in
    gated g at.After-write_gate bytes lines tells stores (read g at.After-read_image bytes lines tells stores (reserved g at.After-reserve bytes lines tells stores))

pub returns-clause-any_moment : goal.returns-clause-any_moment
returns-clause-any_moment g c = λ bytes lines tells stores.
    let at = goal.at.returns-clause-any_moment g c in
    gated g at.After-write_gate bytes lines tells stores (read g at.After-read_image bytes lines tells stores (reserved g at.After-reserve bytes lines tells stores))

pub returns-then-len-gt1-clause-empty : goal.returns-then-len-gt1-clause-empty
returns-then-len-gt1-clause-empty g c =
    always_ok c.read_lines.result _ (λ is.
    let same = c.in_ok-image.ensures.told (settled []) (c.in_ok-sync.ensures.synced (settled []) (c.reserve.ensures.contents ∙ is)) in
    absurd (omega (arith, ap length same, c.len.ensures, c.in_ok-image.image.ok.0, c.if-len-gt1.true)))

pub returns-clause-empty : goal.returns-clause-empty
returns-clause-empty g c = λ is.
    c.in_ok-write_gate.ensures.empty (c.read_image.ensures.contents ∙ c.in_ok-sync.ensures.synced (settled []) (c.reserve.ensures.contents ∙ is))
